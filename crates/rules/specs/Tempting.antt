-- Document 01, "tempting and wrong", and E4 of document 02: contracts that tell the right reading from the wrong one. They stand in the
-- table of the crate `patterns` too; here, since a fact and its sweep that are changed together still agree, and then only a contract
-- says no.
use Rattle.std.specs.Prelude.{◌≡◌, refl, [], ◌∷◌, ◌++◌}
use Rattle.rules.specs.Spelling.{bytes}
use Rattle.rules.specs.Tree.{Tree, tree}
use Rattle.rules.specs.Record.{rec}
use Rattle.rules.specs.Access.{access}
use Rattle.rules.specs.Linear.{linear}
use Rattle.rules.specs.Packed.{Nodes, Labelled, unlabelled, place, image_of, a_contract, a_state, a_field_decl, an_entry, a_param, a_type, a_burns, a_name, an_expr, an_emit, an_assign, an_int, an_ident, a_field, a_call, a_checked}
use Rattle.rules.specs.Outcome.{outcome}

-- a contract c with one entry, e(x: Q_Asset) or e(x: Q_Asset<T>), with these clauses and statements
abbrev of_lot : Nodes → Nodes → Labelled
of_lot inner l mark =
    a_contract (a_name "c" ++ an_entry (a_name "e" ++ a_param (mark "x" (a_name "x") ++ a_type (a_name "Q_Asset" ++ inner)) ++ l))

abbrev of_asset : Nodes → Labelled
of_asset l = of_lot [] l

-- its tree
abbrev of : Labelled → Tree
of c = tree (image_of (unlabelled c))

-- P11's entry
abbrev assigning : Labelled
assigning mark =
    a_contract (a_name "c" ++ a_state (a_field_decl (a_name "s" ++ a_type (a_name "u64"))) ++ an_entry (a_name "e"
    ++ mark "assign" (an_assign (a_checked (an_ident "s") ++ an_int))))

abbrev emitting : Labelled
emitting = of_asset (an_emit (a_name "v" ++ an_ident "x"))

-- P9's entry
abbrev burned_and_sent : Labelled
burned_and_sent mark = of_lot (a_type (a_name "T")) (a_burns (a_name "T") ++ an_expr (a_call (an_ident "send" ++ mark "use" (an_ident "x")))) mark

pub record Tempting : Type 0 where
  -- `emit v(x)` is no use of x: 61.
  pub emit_argument : linear (of emitting) ≡ rec 61 (place emitting "x") 0 ∷ []
  -- P7 `s.get(s.set(x))`: `get` does not hide what is nested in it.
  pub P7 :
      linear (of (of_asset (an_expr (a_call (a_field (an_ident "s" ++ a_name "get") ++ a_call (a_field (an_ident "s" ++ a_name "set")
      ++ an_ident "x"))))))
      ≡ []
  -- P9 burns T and `send(x)`: a burn is a use, so the other one is the first counted occurrence.
  pub P9 : linear (of burned_and_sent) ≡ rec 62 (place burned_and_sent "x") (place burned_and_sent "use") ∷ []
  -- P11 an entry assigning to a checked state field, no Writes: access peels at each step, 51.
  pub P11-entry : access (of assigning) ≡ rec 51 (place assigning "assign") 0 ∷ []

pub tempting : Tempting
unfolding image_of outcome bytes place
tempting = record {
  emit_argument = refl;
  P7 = refl;
  P9 = refl;
  P11-entry = refl;
}
