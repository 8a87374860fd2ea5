-- `is_clean` meets its contract: no node passed has a record.
use native.Mathlib.Nat.{sub_self}
use native.Mathlib.Omega.{arith}
use Prim.Native.Nat.{ℕ, ◌+◌, ◌-◌, ◌≤◌}
use mathlib.Core.Bool.{Bool, false, true≢false}
use mathlib.Core.List.{List, [], ◌++◌}
use mathlib.Core.Path.{◌≡◌, ap, ◌∙◌, sym}
use Rattle.rules.specs.Sweep.{run}
use Rattle.rules.specs.Vocabulary.{Rec, only}
use Rattle.records.proofs.Sweep.{run_none, run_on}
use Rattle.nodes.specs.Shown.{tree_of}
use Rattle.nodes.proofs.Spans.{span-whole, upto_is}
use Rattle.resolve_calls.specs.Called.{at34, at40}
use Rattle.resolve_calls.proofs.is_clean.Goals as goal

-- one more node without a record
still : (f : ℕ → List Rec) (a p : ℕ) → a ≤ p → run f a (p - a) ≡ [] → f p ≡ [] → run f a (p + 1 - a) ≡ []
still f a p l e g = run_on f a p (p + 1) l (omega arith) (λ i h k. absurd (omega arith)) ∙ ap (λ (x : List Rec). x ++ f p) e ∙ g

none : (l : List Rec) (r : Bool) (x : Rec) → l ≡ only r x → r ≡ false → l ≡ []
unfolding only
none l r x e f = e ∙ ap (λ (b : Bool). only b x) f

starts : (f : ℕ → List Rec) (a : ℕ) → run f a (a - a) ≡ []
starts f a = rw (sub_self a) (run_none f a)

pub overflow_add-end : goal.overflow_add-end
overflow_add-end c = let W = c.requires.0.view in let u = (span-whole W (upto_is W)).under in omega arith

pub loop-p-init : goal.loop-p-init
loop-p-init c = let W = c.requires.0.view in let S = span-whole W (upto_is W) in (S, omega arith, S.order, λ T. starts _ _, λ T. starts _ _)

pub loop-p-preserved : goal.loop-p-preserved
loop-p-preserved c =
    let i = c.loop-p.invariant in
    let p = c.loop-p.p in
    let b = c.args.base in
    let i1 = i.1 in
    let h = c.loop-p-test.true in
    (i.0, omega arith, omega arith, λ T. still (λ j. at40 j (tree_of T.view) T.entry) b p i1 (i.3 T) (none _ _ _ (c.rule40.ensures T) c.if-rule40.false), λ T. still (λ j. at34 j (tree_of T.view)) b p i1 (i.4 T) (none _ _ _ (c.rule34.ensures T) c.if-rule34.false))

pub returns : goal.returns
returns c =
    λ z.
    let i = c.loop-p.invariant in
    let p = c.loop-p.p in
    let b = c.args.base in
    let i2 = i.2 in
    let t = c.loop-p-test.false in
    (λ T. let u = upto_is T.view in let q : T.view.upto ≡ p = omega arith in ap (λ (u : ℕ). run (λ j. at40 j (tree_of T.view) T.entry) b (u - b)) q ∙ i.3 T, λ T. let u = upto_is T.view in let q : T.view.upto ≡ p = omega arith in ap (λ (u : ℕ). run (λ j. at34 j (tree_of T.view)) b (u - b)) q ∙ i.4 T)

pub returns-then-rule34 : goal.returns-then-rule34
returns-then-rule34 c = λ z. absurd (true≢false (sym z))

pub returns-then-rule40 : goal.returns-then-rule40
returns-then-rule40 c = λ z. absurd (true≢false (sym z))
