-- The table of rows as it is filled, a node more.
use Prim.Native.Nat.{ℕ, ◌+◌, ◌-◌, ◌<◌}
use mathlib.Core.Path.{◌≡◌, refl, ap, ◌∙◌, sym}
use mathlib.Core.Bool.{Bool, true, false}
use mathlib.Core.List.{List, [], ◌∷◌, ◌++◌, append-nil}
use mathlib.Core.Logic.{⊎_elim}
use native.Mathlib.Omega.{arith}
use lib.ListN.{length, get_or, set, length-set, length-append, get_or-append}
use lib.Seq.{get_or-set_same, get_or-set_other, get_or-append_seam}
use Rattle.image.proofs.Decide.{eq-or-ne}
use Rattle.rules.specs.Sweep.{keep, has, same}
use Rattle.rules.specs.Tree.{Tree, tree, param_let}
use Rattle.rules.specs.Vocabulary.{alone, named}
use Rattle.rules.specs.Linear.{is_row, place_of}
use Rattle.nodes.specs.Shown.{View, Worded, tree_of, number}
use Rattle.nodes.proofs.Parts.{ranged}
use Rattle.nodes.proofs.Names.{marks-as, marks-put}
use Rattle.nodes.proofs.Turns.{carries-in}
use Rattle.places.specs.declared.Note.{Note}
use Rattle.places.specs.declared.Note.TheVariants.{First, Last}
use Rattle.places.specs.Places.{Places, taken, noting}
use Rattle.linear_parts.specs.Parts.{row_at, noted, first_row, last_row}
use Rattle.linear_tracked.specs.Rows.{Rows}
use Rattle.linear_parts.proofs.Noted.{noted-none, noted-append}
use Rattle.linear_parts.proofs.Row.{row-kind}

-- a number is noted for the word of a node
pub note-word : {nodes : List ℕ} {p : ℕ} (W : View nodes 0) (D : Worded nodes 0 p) (note : Note) (row : ℕ) {F : List ℕ → ℕ} {r : List ℕ} → Places W.image F r → {x v : ℕ} → x ≡ number W.image p → v ≡ taken note (get_or r (x - 1) 0) row
    → Places W.image (λ w. noting note (F w) (same ((tree_of W).text p) w) row) (set r (x - 1) v)
note-word {p = p} W D note row {F} {r} N d f = let g = ranged W D.here (carries-in W D) in rw (f, d) (marks-put (λ v y. noting note v y row) W.image F r (number W.image p) _ (ap (λ (v : ℕ). taken note v row) (N.mark _ g.0 g.1)) (λ v. refl) W.shown.admitted g.0 g.1 N)

row-none : (t : Tree) (x : ℕ) → is_row t x ≡ false → row_at x t ≡ []
unfolding keep
row-none t x e = go (has (t.kind x) param_let)
  where
    go : (b : Bool) → keep b (λ y. keep (is_row t y) alone y) x ≡ []
    go true = rw e
    go false = refl

row_here : (t : Tree) (x : ℕ) → is_row t x ≡ true → row_at x t ≡ x ∷ []
unfolding keep
row_here t x e = rw (row-kind t x e, e)

pub rows_as : {s xs ys : List ℕ} {n : ℕ} {places first last : List ℕ} → xs ≡ ys → Rows s xs n places first last → Rows s ys n places first last
rows_as e R = rw e at R

pub rows_start : {s places first last : List ℕ} → length places ≡ 511 → Places s (λ w. 0) first → Places s (λ w. 0) last → Rows s [] 0 places first last
rows_start {s} e f l = record {
  size = e;
  few = omega arith;
  count = refl;
  place_of = λ r h. absurd (omega arith);
  first_rows = marks-as (λ w. noted-none First (named (tree s) w) 0 0) f;
  last_rows = marks-as (λ w. noted-none Last (named (tree s) w) 0 0) l;
}

pub rows-still : {s xs places first last : List ℕ} {n : ℕ} (p : ℕ) → is_row (tree s) p ≡ false → Rows s xs n places first last → Rows s (xs ++ row_at p (tree s)) n places first last
rows-still {s} {xs} p e R = rows_as (sym (ap (λ (m : List ℕ). xs ++ m) (row-none (tree s) p e) ∙ append-nil xs)) R

grown : (note : Note) (t : Tree) (xs w : List ℕ) (n p : ℕ) → n ≡ length xs → noting note (noted note (named t w) 0 0 xs) (same (t.text (p + 1)) w) (n + 1) ≡ noted note (named t w) 0 0 (xs ++ p ∷ [])
unfolding named
grown note t xs w n p e = let z : n + 1 ≡ 0 + length xs + 1 = omega arith in ap (noting note (noted note (named t w) 0 0 xs) (named t w p)) z ∙ noted-append note (named t w) 0 0 xs p

rows_on : (s xs : List ℕ) (n p : ℕ) {places first last first' last' : List ℕ} → n < 511 → Rows s xs n places first last → Places s (λ w. noting First (first_row (tree s) xs w) (same ((tree s).text (p + 1)) w) (n + 1)) first'
    → Places s (λ w. noting Last (last_row (tree s) xs w) (same ((tree s).text (p + 1)) w) (n + 1)) last' → Rows s (xs ++ p ∷ []) (n + 1) (set places n (place_of (tree s) p)) first' last'
rows_on s xs n p {places} l R F L = record {
  size = length-set places n _ ∙ R.size;
  few = omega arith;
  count = let c = R.count in let a = length-append xs (p ∷ []) in omega arith;
  place_of = λ r h.
      ⊎_elim
      (λ (g : r ≡ n). ap (λ (j : ℕ). get_or (set places n (place_of (tree s) p)) j 0) g ∙ get_or-set_same places n _ 0 (let z = R.size in omega arith) ∙ ap (place_of (tree s)) (sym (ap (λ (j : ℕ). get_or (xs ++ p ∷ []) j 0) (g ∙ R.count) ∙ get_or-append_seam xs p [] 0)))
      (λ (g : r ≡ n → ⊥). get_or-set_other places n r _ 0 g ∙ R.place_of r (omega (arith, g)) ∙ ap (place_of (tree s)) (let c = R.count in sym (get_or-append xs (p ∷ []) 0 r (omega (arith, g)))))
      (eq-or-ne r n);
  first_rows = marks-as (λ w. grown First (tree s) xs w n p R.count) F;
  last_rows = marks-as (λ w. grown Last (tree s) xs w n p R.count) L;
}

pub rows-push : {s xs places first last first' last' : List ℕ} {n a : ℕ} (p : ℕ) → n < 511 → is_row (tree s) p ≡ true → a ≡ place_of (tree s) p → Rows s xs n places first last → Places s (λ w. noting First (first_row (tree s) xs w) (same ((tree s).text (p + 1)) w) (n + 1)) first'
    → Places s (λ w. noting Last (last_row (tree s) xs w) (same ((tree s).text (p + 1)) w) (n + 1)) last' → Rows s (xs ++ row_at p (tree s)) (n + 1) (set places n a) first' last'
rows-push {s} {xs} {n = n} p l e d R F L = rw d (rows_as (ap (λ (m : List ℕ). xs ++ m) (sym (row_here (tree s) p e))) (rows_on s xs n p l R F L))
