-- `equal` meets its contract: the bytes before k are equal.
use native.Mathlib.Omega.{arith}
use borrow.Author.Count.{below_more}
use Rattle.names.proofs.Bytes.{same_bytes, other_length, other_byte}
use Rattle.names.proofs.equal.Goals as goal

pub loop-k-init : goal.loop-k-init
loop-k-init c = (c.if-v-w.false, omega arith, λ j l. absurd (omega arith))

pub bounds-w-k : goal.bounds-w-k
bounds-w-k c = let h = c.loop-k.invariant.0 in omega arith

pub loop-k-preserved : goal.loop-k-preserved
loop-k-preserved c = let i = c.loop-k.invariant in (i.0, omega arith, below_more _ _ i.2 c.if-v-k.false)

pub returns : goal.returns
returns c = let i = c.loop-k.invariant in let h = i.1 in same_bytes _ _ i.0 (λ k g. i.2 k (omega arith))

pub returns-then-v-w : goal.returns-then-v-w
returns-then-v-w c = other_length _ _ c.if-v-w.true

pub returns-then-v-k : goal.returns-then-v-k
returns-then-v-k c = other_byte _ _ _ c.if-v-k.true
