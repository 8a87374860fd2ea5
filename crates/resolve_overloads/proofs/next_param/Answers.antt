-- `next_param` meets its contract: the next child, and its kind.
use Prim.Native.Nat.{ℕ}
use mathlib.Core.Path.{◌≡◌, sym, ap, ◌∙◌, subst}
use mathlib.Core.List.{List}
use Rattle.nodes.specs.Shown.{View, tree_of}
use Rattle.resolve_overloads.proofs.next_param.Goals as goal

-- the nodes of the iterator are the same before and after the turn
kind-over : (p : ℕ) {m n : List ℕ} {r : ℕ} → m ≡ n → ((W : View m 0) → r ≡ (tree_of W).kind p) → (W : View n 0) → r ≡ (tree_of W).kind p
kind-over p {r = r} e f = subst (λ (l : List ℕ). (W : View l 0) → r ≡ (tree_of W).kind p) e f

pub returns-then-kind-ne-PARAM : goal.returns-then-kind-ne-PARAM
returns-then-kind-ne-PARAM c =
    let s = c.in_ok-p.ensures.steps in
    let k = kind-over c.in_ok-p.p s.0 c.kind.ensures in
    (record { nodes = s.0; base = s.1; last = s.2 }, record { is = λ W l e. c.if-kind-ne-PARAM.true (k W ∙ ap (tree_of W).kind s.3.is ∙ e) })

pub returns : goal.returns
returns c =
    let s = c.in_ok-p.ensures.steps in
    let k = kind-over c.in_ok-p.p s.0 c.kind.ensures in
    (record { nodes = s.0; base = s.1; last = s.2 }, record { step = s.3; is = λ W. sym (k W) ∙ c.if-kind-ne-PARAM.false })
