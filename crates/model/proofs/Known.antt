-- The known assets, put together from three tests; and a mark read by the number of a word.
use Prim.Native.Nat.{ℕ, ◌-◌, ◌≤◌}
use mathlib.Core.Path.{◌≡◌, ap, ◌∙◌, sym}
use mathlib.Core.Bool.{Bool, true, false}
use mathlib.Core.List.{List}
use lib.ListN.{get_or}
use Rattle.rules.specs.Sweep.{either, same}
use Rattle.rules.specs.Tree.{tree, type}
use Rattle.rules.specs.Words.{QTOV}
use Rattle.rules.specs.Vocabulary.{some_below}
use Rattle.rules.specs.Model.{inner, is_declared_asset, is_known_asset}
use Rattle.nodes.specs.Marks.{Marks, marking}
use Rattle.nodes.proofs.Names.{marks-as}
use Rattle.nodes.proofs.Marking.{marking-none}
use Rattle.names.specs.Found.{Numbered}
use Rattle.model.specs.declared.Question.{Question}
use Rattle.model.specs.Questions.{question_of}
use Rattle.model.specs.Assets.{Assets, AssetWords}
use Rattle.names.proofs.Several.{either-assoc}

abbrev pub assets-of : {nodes : List ℕ} {qtov asset : ℕ} → AssetWords nodes qtov asset → Assets nodes asset
assets-of K = record { view = K.view; numbered = K.asset_is }

-- the known assets: those declared, `QTOV`, and those inside
pub known_of : {s : List ℕ} {r : List Bool} → Marks s (λ w. marking true (either (is_declared_asset (tree s) w) (same w QTOV)) (some_below (tree s) type 0 (inner (tree s) w))) r → Marks s (is_known_asset (tree s)) r
unfolding is_known_asset marking
known_of {s} M = marks-as (λ w. either-assoc (is_declared_asset (tree s) w) (same w QTOV) (some_below (tree s) type 0 (inner (tree s) w))) M

pub known-less : {s : List ℕ} {r : List Bool} → ((w : List ℕ) → some_below (tree s) type 0 (inner (tree s) w) ≡ false) → Marks s (λ w. either (is_declared_asset (tree s) w) (same w QTOV)) r → Marks s (is_known_asset (tree s)) r
known-less f M = known_of (marks-as (λ w. sym (ap (marking true (either (is_declared_asset _ w) (same w QTOV))) (f w) ∙ marking-none true _)) M)

-- a mark, by the number of a word
module _ {s w : List ℕ} {x : ℕ} (N : Numbered s w x) (P : List ℕ → Bool) where
  pub marked-so : {r : List Bool} → 1 ≤ x → Marks s P r → get_or r (x - 1) false ≡ P w
  marked-so l M = M.mark x l N.high ∙ ap P (N.is l)

-- the marks of one question's table are those of another question, once the two are known to be the same
pub marks_of : {p q : Question} {s : List ℕ} {r : List Bool} → p ≡ q → Marks s (question_of q (tree s)) r → Marks s (question_of p (tree s)) r
marks_of {s = s} {r = r} e M = rw e M
