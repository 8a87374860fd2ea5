-- 60: at a Let the rows noted so far are exactly the earlier ones, so an Ident names an asset parameter or an earlier tracked Let exactly when a row is noted for it.
use Prim.Native.Nat.{ℕ, ◌+◌, ◌<◌}
use mathlib.Core.Path.{◌≡◌, ap, ◌∙◌, sym}
use mathlib.Core.Bool.{true, not, true≢false}
use mathlib.Core.List.Memᴰ
use mathlib.Core.List.{List}
use mathlib.Core.Logic.{inl, inr, ⊎_elim}
use native.Mathlib.Omega.{arith}
use borrow.Author.Tests.{eq-eqb, ne_eqb}
use lib.Dec.{eqb}
use lib.ListN.{get_or}
use Rattle.rules.specs.Tree.{Tree, param, «let», param_let}
use Rattle.rules.specs.Words.{Q_Asset}
use Rattle.rules.specs.Vocabulary.{Below, named, typed}
use Rattle.rules.specs.Linear.{produces, is_row}
use Rattle.rules.proofs.Reflect.{one-fact, Tells, tells_as, tells_both, tells-either, tells-ltb, tells-some_below, tells-named, narrow}
use Rattle.rules.proofs.Admitted.{admitted}
use Rattle.nodes.specs.Shown.{tree_of}
use Rattle.linear_parts.specs.declared.Words.{Words}
use Rattle.linear_parts.specs.Parts.{rows_before, first_row, PartAt}
use Rattle.linear_parts.proofs.Questions.{is_named_row}
use Rattle.linear_parts.proofs.Lists.{tells-self, before_at, at_before}
use Rattle.linear_parts.proofs.Noted.{FirstPasses, first_passes}
use Rattle.linear_parts.proofs.Row.{tells_row}

module _ {nodes first : List ℕ} {words : Words} {p : ℕ} (T : PartAt nodes words p first) (k : (tree_of T.known.view).kind p ≡ 25) (w : List ℕ) where
  abbrev t : Tree
  t = tree_of T.known.view

  abbrev xs : List ℕ
  xs = rows_before T.entry p (tree_of T.known.view)

  -- a row of the name before the Let
  abbrev Before : Type 0
  Before = (x : ℕ) × Below t param_let T.entry x × (is_row t x ≡ true) × (x < p) × (t.text (x + 1) ≡ w)

  -- every asset parameter stands before it
  sooner : (x : ℕ) → Below t param T.entry x → x < p
  sooner x B = (admitted T.known.view.image T.known.view.shown.admitted).params_first T.entry x p T.is_entry B (record { after = T.after; inside = T.inside; kind = Memᴰ.tail (Memᴰ.head k) })

  before-row : Tells (is_named_row t T.entry p w) Before
  before-row =
      tells_as
      (⊎_elim
      (λ s. (s.0, narrow s.1 (Memᴰ.head (Memᴰ.eq_of_singleton s.1.kind)), (tells_row t s.0).back (inl (s.1.kind, s.2.1)), sooner s.0 s.1, s.2.0))
      (λ s. (s.0, narrow s.1 (Memᴰ.tail (Memᴰ.head (Memᴰ.eq_of_singleton s.1.kind))), (tells_row t s.0).back (inr (s.1.kind, s.2.1.1)), s.2.0, s.2.1.0)))
      (λ b. ⊎_elim (λ s. inl (b.0, narrow b.1 s.0, (b.4, s.1))) (λ s. inr (b.0, narrow b.1 s.0, (b.3, (b.4, s.1)))) ((tells_row t b.0).so b.2))
      (tells-either (tells-some_below t param T.entry (λ x. tells_both (tells-named t w x) (tells-self (typed t Q_Asset x))))
      (tells-some_below t «let» T.entry (λ x. tells_both (tells-ltb x p) (tells_both (tells-named t w x) (tells-self (produces t x))))))

  noted-row : (v : ℕ) → FirstPasses (named t w) 0 xs v → Tells (not (eqb v 0)) Before
  noted-row v (inl f) = record {
    so = λ d. absurd (true≢false (sym d ∙ ap not (eq-eqb v 0 f.0)));
    back = λ b. let r = at_before t T.entry p T.after T.inside b.0 b.1 b.2 b.3 in absurd (true≢false (sym (ap (named t w) r.2 ∙ (tells-named t w b.0).back b.4) ∙ f.1 r.0 r.1));
  }
  noted-row v (inr (r, d, P, f)) =
      let B = before_at t T.entry p T.after T.inside r P.in_rows in
      record { so = λ z. (get_or xs r 0, B.0, B.1, B.2, (tells-named t w (get_or xs r 0)).so P.is); back = λ b. ap not (ne_eqb v 0 (λ z. omega arith)) }

  pub named-is : is_named_row t T.entry p w ≡ not (eqb (first_row t xs w) 0)
  named-is = one-fact before-row (noted-row (first_row t xs w) (first_passes (named t w) 0 xs))
