-- `judge_row` meets its contract: its tests are those of the definition.
use borrow.Author.Tests.{eq-eqb, ne_eqb, lt-ltb, le-ltb}
use native.Mathlib.Omega.{arith}
use mathlib.Core.Path.{◌≡◌}
use Prim.Native.Nat.{◌+◌, ◌<◌, ◌≤◌}
use Rattle.linear_steps.proofs.judge_row.Goals as goal

pub returns-then-place-eq0 : goal.returns-then-place-eq0
returns-then-place-eq0 c = simp (eq-eqb _ _ c.if-place-eq0.true)

pub returns-then-times-eq0 : goal.returns-then-times-eq0
returns-then-times-eq0 c = let r = c.args.row in let a = c.from.ensures in let b = c.from-2.ensures in let t = c.if-times-eq0.true in let e : r.marks + r.count ≡ 0 = omega arith in simp (ne_eqb r.place 0 c.if-place-eq0.false, eq-eqb (r.marks + r.count) 0 e)

pub returns-then-times-gt1 : goal.returns-then-times-gt1
returns-then-times-gt1 c = let r = c.args.row in let a = c.from.ensures in let b = c.from-2.ensures in let t = c.if-times-gt1.true in let h : 1 < r.marks + r.count = omega arith in simp (ne_eqb r.place 0 c.if-place-eq0.false, ne_eqb (r.marks + r.count) 0 (λ z. omega arith), lt-ltb 1 (r.marks + r.count) h)

pub returns : goal.returns
returns c = let r = c.args.row in let a = c.from.ensures in let b = c.from-2.ensures in let t = c.if-times-gt1.false in let h : r.marks + r.count ≤ 1 = omega arith in simp (ne_eqb r.place 0 c.if-place-eq0.false, ne_eqb (r.marks + r.count) 0 (λ z. c.if-times-eq0.false (omega arith)), le-ltb 1 (r.marks + r.count) h)
