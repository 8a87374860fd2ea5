-- The order, worked: one contract that offends in nine of the groups of rules/specs/All, its full list, and the key of each record: the
-- number of its group, the part that holds its place (0 where the group has none), the number of its turn, and its place.
use Rattle.std.specs.Prelude.{ℕ, ◌≡◌, refl, List, [], ◌∷◌, ◌++◌, map}
use Prim.Native.String.{String}
use Rattle.rules.specs.Spelling.{bytes}
use Rattle.rules.specs.Tree.{Tree, tree}
use Rattle.rules.specs.Record.{Rec, rec}
use Rattle.rules.specs.All.{latest, holder, offences, key}
use Rattle.rules.specs.Packed.{Nodes, Labelled, unlabelled, place, image_of, a_contract, a_state, a_field_decl, a_genesis, an_invariant, an_entry, a_param, a_type, a_writes, a_limits, a_name, a_guard, a_let, an_emit, an_assign, an_expr, an_int, an_ident, a_call}
use Rattle.rules.specs.Outcome.{outcome}

abbrev typed : String → Nodes
typed w = a_type (a_name w)

-- state s, s; genesis { emit w(); y = 1; f() }; e(x: Q_Asset, s: u64 signed by deployer) writes t, limits deployer
-- { let x = x; emit w(); g(); guard deployer; s = 1 }; invariant deployer
abbrev worked : Labelled
worked mark =
    a_contract (a_name "c"
    ++ a_state (a_field_decl (mark "s" (a_name "s") ++ typed "u64") ++ a_field_decl (mark "s again" (a_name "s") ++ typed "u64"))
    ++ mark "genesis" (a_genesis (mark "its emit" (an_emit (a_name "w")) ++ mark "y = 1" (an_assign (an_ident "y" ++ an_int))
    ++ an_expr (mark "f()" (a_call (an_ident "f")))))
    ++ mark "entry" (an_entry (a_name "e"
    ++ a_param (mark "x" (a_name "x") ++ typed "Q_Asset")
    ++ mark "parameter" (a_param (mark "its name" (a_name "s") ++ typed "u64" ++ mark "signer" (a_name "deployer")))
    ++ a_writes (mark "t" (a_name "t")) ++ a_limits (mark "limit" (an_ident "deployer"))
    ++ mark "let" (a_let (a_name "x" ++ mark "its value" (an_ident "x")))
    ++ mark "emit" (an_emit (a_name "w")) ++ an_expr (mark "g()" (a_call (an_ident "g")))
    ++ a_guard (mark "guard" (an_ident "deployer")) ++ mark "s = 1" (an_assign (an_ident "s" ++ an_int))))
    ++ mark "invariant" (an_invariant (mark "in it" (an_ident "deployer"))))

-- a record and its key
pub record Keyed : Type 0 where
  pub of : Rec
  pub is : List ℕ

abbrev with_key : Rec → ℕ → ℕ → ℕ → Keyed
with_key r group part turn = record { of = r; is = group ∷ part ∷ turn ∷ r.place ∷ [] }

abbrev keyed : (String → ℕ) → List Keyed
keyed the =
    -- resolve: 20, over the whole contract
    with_key (rec 20 (the "s again") (the "s")) 1 0 1
    -- 24 to 29, by parameter and statement: 24 at the parameter, 26 and 29 at the Let
    ∷ with_key (rec 24 (the "its name") 0) 5 (the "parameter") 1
    ∷ with_key (rec 26 (the "its value") 0) 5 (the "let") 3
    ∷ with_key (rec 29 (the "let") 0) 5 (the "let") 6
    -- 30, Emits in entries, then genesis
    ∷ with_key (rec 30 (the "emit") 0) 6 0 1
    ∷ with_key (rec 30 (the "its emit") 0) 6 0 2
    -- 32, by item: signers, then the body, then the clauses; the Invariant
    ∷ with_key (rec 32 (the "signer") 0) 7 (the "entry") 1
    ∷ with_key (rec 32 (the "guard") 0) 7 (the "entry") 2
    ∷ with_key (rec 32 (the "limit") 0) 7 (the "entry") 3
    ∷ with_key (rec 32 (the "in it") 0) 7 (the "invariant") 1
    -- 33, then 34, by Genesis
    ∷ with_key (rec 33 (the "y = 1") 0) 8 (the "genesis") 1
    ∷ with_key (rec 34 (the "f()") 0) 8 (the "genesis") 2
    -- 35, then 36 to 39, then 40, then 34, by entry
    ∷ with_key (rec 35 (the "signer") 0) 9 (the "entry") 1
    ∷ with_key (rec 36 (the "t") 0) 9 (the "entry") 2
    ∷ with_key (rec 34 (the "g()") 0) 9 (the "entry") 4
    -- access: 50, then 51
    ∷ with_key (rec 50 (the "in it") 0) 10 0 1
    ∷ with_key (rec 51 (the "s = 1") 0) 11 0 1
    -- linear, by entry: 60, then 61 and 62
    ∷ with_key (rec 60 (the "let") 0) 12 (the "entry") 1
    ∷ with_key (rec 61 (the "x") 0) 12 (the "entry") 2
    ∷ []

-- the contract's tree
abbrev the_tree : Tree
the_tree = tree (image_of (unlabelled worked))

pub record WorkedOrder : Type 0 where
  pub list : offences the_tree ≡ map (λ (r : Keyed). r.of) (keyed (place worked))
  pub keys : map (λ (r : Keyed). key the_tree r.of) (keyed (place worked)) ≡ map (λ (r : Keyed). r.is) (keyed (place worked))

pub worked_order : WorkedOrder
unfolding image_of outcome bytes place key holder latest
worked_order = record { list = refl; keys = refl }
