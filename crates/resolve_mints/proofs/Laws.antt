-- One Call's part in 22: what its callee says of the rule; and what a scan of an item's statements is lent.
use Prim.Native.Nat.{ℕ, ◌+◌}
use mathlib.Core.Path.{◌≡◌, ap, ◌∙◌, sym}
use mathlib.Core.Bool.{Bool, false}
use mathlib.Core.List.{List, [], ◌∷◌}
use Rattle.rules.specs.Sweep.{same, has_word}
use Rattle.rules.specs.Tree.{Tree}
use Rattle.rules.specs.Words.{mint_asset}
use Rattle.rules.specs.Vocabulary.{rec, only}
use Rattle.rules.specs.Resolve.{rule22}
use Rattle.records.proofs.Sweep.{asks-here}
use Rattle.nodes.specs.Shown.{Shown, tree_of}
use Rattle.nodes.proofs.Names.{either-false}
use Rattle.nodes.proofs.Fields.{ident-other, ident-so}
use Rattle.resolve_mints.specs.Minted.{Minting, at22}

module _ (t : Tree) (p : ℕ) (k : t.kind p ≡ 43) where
  pub other-22 : (t.kind (p + 1) ≡ 35 → ⊥) → at22 p t ≡ only false (rec 22 p 0)
  unfolding rule22
  other-22 n = asks-here (rule22 t) p (rec 22 p 0) false k (ap (λ (b : Bool). only b (rec 22 p 0)) (ident-other t (mint_asset ∷ []) (p + 1) n))

  pub ident-22 : {r : Bool} → t.kind (p + 1) ≡ 35 → r ≡ same (t.text (p + 1)) mint_asset → at22 p t ≡ only r (rec 22 p 0)
  unfolding rule22 has_word
  ident-22 {r} i e = asks-here (rule22 t) p (rec 22 p 0) r k (ap (λ (b : Bool). only b (rec 22 p 0)) (ident-so t (mint_asset ∷ []) (p + 1) i ∙ either-false _ ∙ sym e))

abbrev pub lent-minting : {nodes part : List ℕ} {f : ℕ} (item : ℕ) {mint : ℕ} (T : Minting nodes 0 mint) → Shown T.view.image part f ((tree_of T.view).end item) → Minting part f mint
lent-minting item T S = record { view = record { image = T.view.image; upto = (tree_of T.view).end item; shown = S }; mint_number = T.mint_number }
