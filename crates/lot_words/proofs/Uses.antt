-- A counted occurrence that was found at a node, as the entry of it; and those that a sweep over the statements of an entry tells.
use Prim.Native.Nat.{ℕ, ◌+◌, ◌-◌, ◌<◌}
use mathlib.Core.Path.{◌≡◌, refl, ap, ◌∙◌, sym}
use mathlib.Core.Bool.{Bool, true, false}
use mathlib.Core.List.{List, [], ◌∷◌, append-nil}
use native.Mathlib.Omega.{arith}
use lib.Dec.{eqb}
use Rattle.std.specs.Prelude.{Option, None, Some}
use Rattle.rules.specs.Sweep.{has, keep}
use Rattle.rules.specs.Tree.{Tree, ident}
use Rattle.rules.specs.Vocabulary.{alone}
use Rattle.rules.specs.Linear.{Consumes, is_counted}
use Rattle.rules.proofs.Admitted.{admitted}
use Rattle.rules.proofs.Consumers.{one-consumer}
use Rattle.nodes.specs.Shown.{tree_of}
use Rattle.linear_occurrences.specs.declared.Occurrence.{Occurrence}
use Rattle.linear_occurrences.specs.Counted.{Counting, Finding, for_ident}
use Rattle.linear_occurrences.proofs.Found.{finding-keeps, below_root}
use Rattle.linear_uses.specs.Uses.{on_row, use_at}
use Rattle.linear_uses.proofs.Uses.{keep-also}
use Rattle.reasons.specs.Compute.{consumer_of, use_words, each}
use Rattle.reasons.proofs.Reasons.{consumer-is}
use Rattle.lot_words.specs.Told.{found_words}

-- the words of a node that a test keeps
each_keep : (f : ℕ → List ℕ) (b : Bool) (x : ℕ) → each f (keep b alone x) ≡ keep b f x
unfolding keep each
each_keep f true x = append-nil (f x)
each_keep f false x = refl

keep_same : (f g : ℕ → List ℕ) (b : Bool) (x : ℕ) → f x ≡ g x → keep b f x ≡ keep b g x
unfolding keep
keep_same f g true x e = e
keep_same f g false x e = refl

module _ {nodes : List ℕ} {base : ℕ} {reader : List Bool} (T : Counting nodes base reader) where
  abbrev t : Tree
  t = tree_of T.view

  abbrev e : ℕ
  e = T.entry

  -- what consumes an Ident is what is computed
  consumer-of : (c p : ℕ) → Consumes t e c p → consumer_of t e p ≡ c
  consumer-of c p C =
      let a = T.view.shown.admitted in
      one-consumer T.view.image a e e (consumer_of t e p) c p (below_root T) (below_root T) (consumer-is t e p (admitted T.view.image a) (below_root T) c C) C

  module _ (F : List ℕ → ℕ) (row : ℕ) (z : 0 < row) (p : ℕ) (l : e < p) (h : p < t.end e) where
    -- the uses of the row at p are those of what was found there
    use-found : (r : Option Occurrence) → Finding t e p r → use_at t e F (row - 1) p ≡ for_ident r (λ i. on_row F (row - 1) (t.text i) i)
    use-found r f = sym (finding-keeps t e p l h r f (λ i. on_row F (row - 1) (t.text i) i) ∙ keep-also (has (t.kind p) ident) (is_counted t e) (λ i. on_row F (row - 1) (t.text i)) p)

    pub found-told : (r : Option Occurrence) → Finding t e p r → found_words t F row r ≡ each (use_words t e) (use_at t e F (row - 1) p)
    unfolding each
    found-told r f = go r f ∙ ap (each (use_words t e)) (sym (use-found r f))
      where
        same_row : (w : List ℕ) → eqb (F w) row ≡ eqb (F w) (row - 1 + 1)
        same_row w = ap (eqb (F w)) (omega (arith, z))

        go : (r : Option Occurrence) → Finding t e p r → found_words t F row r ≡ each (use_words t e) (for_ident r (λ i. on_row F (row - 1) (t.text i) i))
        go None f = refl
        go (Some o) f =
            let i = o.ident in
            ap (λ (b : Bool). keep b (λ j. j ∷ o.consumer ∷ []) i) (same_row (t.text i))
            ∙ keep_same (λ j. j ∷ o.consumer ∷ []) (use_words t e) (eqb (F (t.text i)) (row - 1 + 1)) i (ap (λ (d : ℕ). i ∷ d ∷ []) (sym (ap (consumer_of t e) f.0 ∙ consumer-of o.consumer p f.1)))
            ∙ sym (each_keep (use_words t e) (eqb (F (t.text i)) (row - 1 + 1)) i)
