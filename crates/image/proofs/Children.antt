-- What an admitted image gives of the children of each kind: document 01's table, with the places and the kinds of the children. One lemma for each form of a row.
use Prim.Native.Nat.{ℕ, ◌+◌, ◌<◌, ◌≤◌}
use mathlib.Core.Path.{◌≡◌, refl, ap, sym, subst}
use mathlib.Core.Bool.{Bool, true, false}
use mathlib.Core.List.{List, [], ◌∷◌}
use mathlib.Core.Logic.{◌⊎◌, inl, inr, ⊎_elim}
use native.Mathlib.Omega.{arith}
use borrow.Author.Tests.{eq-eqb, eqb-true, leb-true}
use lib.Dec.{leb, eqb}
use Rattle.image.specs.Pick.{pick, both, every}
use Rattle.image.specs.Node.{kind_of, end_of}
use Rattle.image.specs.Table.{Family, Names, Items, FieldDecls, EventParameters, Stmts, Clauses, Parameters, Types, IntLits, MofNs, Durations, Expressions, ◌or◌, one_of, maybe_of, any_of}
use Rattle.image.specs.Digits.{family_of, digit, part_at, takes}
use Rattle.image.specs.Forms.{FormsTree}
use Rattle.image.proofs.Every.{every-at}
use Rattle.image.proofs.Shape.{Child}
use Rattle.image.proofs.Row.{Run, Rest, parts_from, parts_of, same_parts, has_row, have_row, shape-by, in_range, ranges, Kid, kid, Kids, kids}

-- parts, as the packed table has them
abbrev one : Family → ℕ
one f = digit (one_of f)

abbrev opt : Family → ℕ
opt f = digit (maybe_of f)

abbrev many : Family → ℕ
many f = digit (any_of f)

-- the kinds that have no children, that have one Name or one Expressions, and that have Names
abbrev pub is_leaf : ℕ → Bool
is_leaf k = pick (eqb k 6) true (pick (eqb k 12) true (pick (eqb k 22) true (pick (eqb k 23) true (both (leb 32 k) (leb k 39)))))

abbrev pub has_name : ℕ → Bool
has_name k = pick (eqb k 2) true (both (leb 16 k) (leb k 18))

abbrev pub has_expression : ℕ → Bool
has_expression k = pick (eqb k 8) true (pick (eqb k 19) true (pick (eqb k 20) true (pick (eqb k 24) true (pick (eqb k 28) true (pick (eqb k 40) true (both (leb 44 k) (leb k 45)))))))

abbrev pub has_names : ℕ → Bool
has_names k = both (leb 14 k) (leb k 15)

-- Assign and Binary
abbrev pub has_two : ℕ → Bool
has_two k = pick (eqb k 27) true (eqb k 41)

-- a child that is the last: it ends where its parent does
pub record Last (s : List ℕ) (low high at e : ℕ) : Type 0 where
  pub node : Kid s low high at e
  pub whole : end_of s at ≡ e

-- two children
pub record Pair (s : List ℕ) (low high low' high' p : ℕ) : Type 0 where
  pub first : Kid s low high (p + 1) (end_of s p)
  pub second : Last s low' high' (end_of s (p + 1)) (end_of s p)

-- one child, and any number behind it
pub record Headed (s : List ℕ) (low high low' high' p : ℕ) : Type 0 where
  pub head : Kid s low high (p + 1) (end_of s p)
  pub others : Kids s low' high' (end_of s p) (end_of s (p + 1))

-- a Name p + 1, a Type p + 2, and perhaps a child behind it
pub record Declared (s : List ℕ) (low high p : ℕ) : Type 0 where
  pub name_node : Kid s 23 23 (p + 1) (end_of s p)
  pub name_ends : end_of s (p + 1) ≡ p + 2
  pub type_node : Kid s 11 11 (p + 2) (end_of s p)
  pub option : (end_of s (p + 2) ≡ end_of s p) ⊎ Last s low high (end_of s (p + 2)) (end_of s p)

-- the three lists of an Entry: parameters from p + 2, clauses from `clauses`, statements from `body` to its end
pub record Entry (s : List ℕ) (p : ℕ) : Type 0 where
  pub name_node : Kid s 23 23 (p + 1) (end_of s p)
  pub name_ends : end_of s (p + 1) ≡ p + 2
  pub clauses : ℕ
  pub body : ℕ
  pub params_are : Kids s 10 10 clauses (p + 2)
  pub clauses_are : Kids s 14 21 body clauses
  pub statements_are : Kids s 24 28 (end_of s p) body

pub kid_is : {s : List ℕ} {k at e : ℕ} → Kid s k k at e → kind_of s at ≡ k
kid_is c = let a = c.from in let b = c.to in omega arith

-- the forms of rows, from what a row says
last_of : {s : List ℕ} {a at e : ℕ} (low high : ℕ) → ranges a low high ≡ true → Child s a at e × (end_of s at ≡ e) → Last s low high at e
last_of low high r x = record { node = kid low high r x.0; whole = x.1 }

kids-of : {s : List ℕ} {a at e : ℕ} (low high : ℕ) → ranges a low high ≡ true → (mid : ℕ) × Run s a mid at × (mid ≡ e) → Kids s low high e at
kids-of {s} {a} {at} low high r x = subst (λ (m : ℕ). Kids s low high m at) x.2 (kids low high r x.1)

module _ {s : List ℕ} {p a b : ℕ} (low high low' high' : ℕ) (r : ranges a low high ≡ true) (t : ranges b low' high' ≡ true) where
  pair_of : Child s a (p + 1) (end_of s p) × (Child s b (end_of s (p + 1)) (end_of s p) × (end_of s (end_of s (p + 1)) ≡ end_of s p)) → Pair s low high low' high' p
  pair_of x = record { first = kid low high r x.0; second = last_of low' high' t x.1 }

  headed-of : Child s a (p + 1) (end_of s p) × ((mid : ℕ) × Run s b mid (end_of s (p + 1)) × (mid ≡ end_of s p)) → Headed s low high low' high' p
  headed-of x = record { head = kid low high r x.0; others = kids-of low' high' t x.1 }

option-of : {s : List ℕ} {a at e : ℕ} (low high : ℕ) → ranges a low high ≡ true → (Child s a at e × (end_of s at ≡ e)) ⊎ (at ≡ e) → (at ≡ e) ⊎ Last s low high at e
option-of low high r x = ⊎_elim (λ y. inr (last_of low high r y)) inl x

-- what the first child of an After is
period_at : ℕ → Bool
period_at k = pick (takes (one (Durations or Expressions)) (family_of k)) (pick (eqb k 22) true (leb 32 k)) true

period : {s : List ℕ} {at e : ℕ} → Child s (one (Durations or Expressions)) at e → (kind_of s at ≡ 22) ⊎ (32 ≤ kind_of s at)
unfolding period_at every family_of ranges in_range
period {s} {at} c =
    let k = kid 22 45 refl c in
    let b = k.to in
    let t : pick (eqb (kind_of s at) 22) true (leb 32 (kind_of s at)) ≡ true = rw c.taken at (every-at period_at 46 (kind_of s at) refl (omega arith)) in
    go (eqb (kind_of s at) 22) refl t
  where
    go : (b : Bool) → eqb (kind_of s at) 22 ≡ b → pick b true (leb 32 (kind_of s at)) ≡ true → (kind_of s at ≡ 22) ⊎ (32 ≤ kind_of s at)
    go true x t = inl (eqb-true _ 22 x)
    go false x t = inr (leb-true 32 _ t)

module _ (s : List ℕ) (n : ℕ) (T : FormsTree s n) where
  row : (p : ℕ) → p < n → (t : ℕ → Bool) (ps : List ℕ) → have_row t ps ≡ true → t (kind_of s p) ≡ true → Rest s ps (p + 1) (end_of s p)
  row p h t ps have is = shape-by t ps have s p is (T.node p h).children

  row_at : (p : ℕ) → p < n → (k : ℕ) (ps : List ℕ) → have_row (λ x. eqb x k) ps ≡ true → kind_of s p ≡ k → Rest s ps (p + 1) (end_of s p)
  row_at p h k ps have is = row p h (λ x. eqb x k) ps have (eq-eqb (kind_of s p) k is)

  -- event parameter, IntLit, Duration, Name, and the expressions 32 to 39
  pub leaf : (p : ℕ) → p < n → is_leaf (kind_of s p) ≡ true → end_of s p ≡ p + 1
  unfolding Rest have_row has_row same_parts parts_of parts_from part_at every
  leaf p h is = sym (row p h is_leaf [] refl is)

  -- a Name that stands first ends behind itself
  name-first : (p : ℕ) → p < n → Kid s 23 23 (p + 1) (end_of s p) → end_of s (p + 1) ≡ p + 2
  name-first p h c =
      let i = c.inside in
      let g = (T.node p h).inside in
      let e = leaf (p + 1) (omega arith) (ap is_leaf (kid_is c)) in
      omega arith

  declared-of : (p : ℕ) → p < n → {b : ℕ} (low high : ℕ) → ranges (one Names) 23 23 ≡ true → ranges (one Types) 11 11 ≡ true → ranges b low high ≡ true → Child s (one Names) (p + 1) (end_of s p) × (Child s (one Types) (end_of s (p + 1)) (end_of s p) × ((Child s b (end_of s (end_of s (p + 1))) (end_of s p) × (end_of s (end_of s (end_of s (p + 1))) ≡ end_of s p)) ⊎ (end_of s (end_of s (p + 1)) ≡ end_of s p))) → Declared s low high p
  declared-of p h {b} low high r t u x =
      let c = kid 23 23 r x.0 in
      let e = name-first p h c in
      record {
        name_node = c;
        name_ends = e;
        type_node = subst (λ (m : ℕ). Kid s 11 11 m (end_of s p)) e (kid 11 11 t x.1.0);
        option = subst (λ (m : ℕ). (end_of s m ≡ end_of s p) ⊎ Last s low high (end_of s m) (end_of s p)) e (option-of low high u x.1.1);
      }

  module _ (p : ℕ) (h : p < n) where
    -- Asset, Conserves, Mints, Burns: their Name
    pub sole-name : has_name (kind_of s p) ≡ true → Last s 23 23 (p + 1) (end_of s p)
    unfolding Rest have_row has_row same_parts parts_of parts_from part_at every ranges in_range family_of
    sole-name is = last_of 23 23 refl (row p h has_name (one Names ∷ []) refl is)

    -- Invariant, Limits, Denies, Guard, Stmt::Expr, Unary, Checked, Wrapping: their expression
    pub sole-expression : has_expression (kind_of s p) ≡ true → Last s 32 45 (p + 1) (end_of s p)
    unfolding Rest have_row has_row same_parts parts_of parts_from part_at every ranges in_range family_of
    sole-expression is = last_of 32 45 refl (row p h has_expression (one Expressions ∷ []) refl is)

    -- Writes, Reads: their Names
    pub names_of : has_names (kind_of s p) ≡ true → Kids s 23 23 (end_of s p) (p + 1)
    unfolding Rest have_row has_row same_parts parts_of parts_from part_at every ranges in_range family_of
    names_of is = kids-of 23 23 refl (row p h has_names (many Names ∷ []) refl is)

    -- State: its fields
    pub state-of : kind_of s p ≡ 3 → Kids s 4 4 (end_of s p) (p + 1)
    unfolding Rest have_row has_row same_parts parts_of parts_from part_at every ranges in_range family_of
    state-of is = kids-of 4 4 refl (row_at p h 3 (many FieldDecls ∷ []) refl is)

    -- Genesis: its statements
    pub genesis-of : kind_of s p ≡ 7 → Kids s 24 28 (end_of s p) (p + 1)
    unfolding Rest have_row has_row same_parts parts_of parts_from part_at every ranges in_range family_of
    genesis-of is = kids-of 24 28 refl (row_at p h 7 (many Stmts ∷ []) refl is)

    -- Assign: its target and its value; Binary: left and right
    pub two-of : has_two (kind_of s p) ≡ true → Pair s 32 45 32 45 p
    unfolding Rest have_row has_row same_parts parts_of parts_from part_at every ranges in_range family_of
    two-of is = pair_of 32 45 32 45 refl refl (row p h has_two (one Expressions ∷ one Expressions ∷ []) refl is)

    -- Field: its base and its Name
    pub field_of : kind_of s p ≡ 42 → Pair s 32 45 23 23 p
    unfolding Rest have_row has_row same_parts parts_of parts_from part_at every ranges in_range family_of
    field_of is = pair_of 32 45 23 23 refl refl (row_at p h 42 (one Expressions ∷ one Names ∷ []) refl is)

    -- MofN: its two counts
    pub m-of-n : kind_of s p ≡ 13 → Pair s 12 12 12 12 p
    unfolding Rest have_row has_row same_parts parts_of parts_from part_at every ranges in_range family_of
    m-of-n is = pair_of 12 12 12 12 refl refl (row_at p h 13 (one IntLits ∷ one IntLits ∷ []) refl is)

    -- Contract: its Name and its items
    pub contract-of : kind_of s p ≡ 1 → Headed s 23 23 2 9 p
    unfolding Rest have_row has_row same_parts parts_of parts_from part_at every ranges in_range family_of
    contract-of is = headed-of 23 23 2 9 refl refl (row_at p h 1 (one Names ∷ many Items ∷ []) refl is)

    -- Event: its Name and its parameters
    pub event-of : kind_of s p ≡ 5 → Headed s 23 23 6 6 p
    unfolding Rest have_row has_row same_parts parts_of parts_from part_at every ranges in_range family_of
    event-of is = headed-of 23 23 6 6 refl refl (row_at p h 5 (one Names ∷ many EventParameters ∷ []) refl is)

    -- Type: its Name and its arguments
    pub type-of : kind_of s p ≡ 11 → Headed s 23 23 11 13 p
    unfolding Rest have_row has_row same_parts parts_of parts_from part_at every ranges in_range family_of
    type-of is = headed-of 23 23 11 13 refl refl (row_at p h 11 (one Names ∷ many (Types or IntLits or MofNs) ∷ []) refl is)

    -- Emit: its Name and its arguments
    pub emit-of : kind_of s p ≡ 26 → Headed s 23 23 32 45 p
    unfolding Rest have_row has_row same_parts parts_of parts_from part_at every ranges in_range family_of
    emit-of is = headed-of 23 23 32 45 refl refl (row_at p h 26 (one Names ∷ many Expressions ∷ []) refl is)

    -- Call: its callee and its arguments
    pub call-of : kind_of s p ≡ 43 → Headed s 32 45 32 45 p
    unfolding Rest have_row has_row same_parts parts_of parts_from part_at every ranges in_range family_of
    call-of is = headed-of 32 45 32 45 refl refl (row_at p h 43 (one Expressions ∷ many Expressions ∷ []) refl is)

    -- FieldDecl: its Name, its Type and perhaps a default
    pub field-decl-of : kind_of s p ≡ 4 → Declared s 32 45 p
    unfolding Rest have_row has_row same_parts parts_of parts_from part_at every ranges in_range family_of
    field-decl-of is = declared-of p h 32 45 refl refl refl (row_at p h 4 (one Names ∷ one Types ∷ opt Expressions ∷ []) refl is)

    -- Param: its Name, its Type and perhaps a signer
    pub param_of : kind_of s p ≡ 10 → Declared s 23 23 p
    unfolding Rest have_row has_row same_parts parts_of parts_from part_at every ranges in_range family_of
    param_of is = declared-of p h 23 23 refl refl refl (row_at p h 10 (one Names ∷ one Types ∷ opt Names ∷ []) refl is)

    -- Let: its Name p + 1 and its value p + 2
    pub let-of : kind_of s p ≡ 25 → (end_of s (p + 1) ≡ p + 2) × Kid s 23 23 (p + 1) (end_of s p) × Last s 32 45 (p + 2) (end_of s p)
    unfolding Rest have_row has_row same_parts parts_of parts_from part_at every ranges in_range family_of
    let-of is =
        let c = pair_of 23 23 32 45 refl refl (row_at p h 25 (one Names ∷ one Expressions ∷ []) refl is) in
        let e = name-first p h c.first in
        (e, c.first, subst (λ (m : ℕ). Last s 32 45 m (end_of s p)) e c.second)

    -- After: a Duration or an expression, and perhaps an expression
    pub after-of : kind_of s p ≡ 21 → ((kind_of s (p + 1) ≡ 22) ⊎ (32 ≤ kind_of s (p + 1))) × Kid s 22 45 (p + 1) (end_of s p) × ((end_of s (p + 1) ≡ end_of s p) ⊎ Last s 32 45 (end_of s (p + 1)) (end_of s p))
    unfolding Rest have_row has_row same_parts parts_of parts_from part_at every ranges in_range family_of
    after-of is =
        let x = row_at p h 21 (one (Durations or Expressions) ∷ opt Expressions ∷ []) refl is in
        (period x.0, kid 22 45 refl x.0, option-of 32 45 refl x.1)

    -- Entry: its Name, then parameters, then clauses, then statements
    pub entry_of : kind_of s p ≡ 9 → Entry s p
    unfolding Rest have_row has_row same_parts parts_of parts_from part_at every ranges in_range family_of
    entry_of is =
        let x = row_at p h 9 (one Names ∷ many Parameters ∷ many Clauses ∷ many Stmts ∷ []) refl is in
        let c = kid 23 23 refl x.0 in
        let e = name-first p h c in
        let ps = x.1 in
        let cs = ps.2 in
        record {
          name_node = c;
          name_ends = e;
          clauses = ps.0;
          body = cs.0;
          params_are = subst (λ (m : ℕ). Kids s 10 10 ps.0 m) e (kids 10 10 refl ps.1);
          clauses_are = kids 14 21 refl cs.1;
          statements_are = kids-of 24 28 refl cs.2;
        }
