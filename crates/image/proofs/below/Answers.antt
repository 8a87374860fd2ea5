-- `below` meets its contract: up to k the two texts are equal, so their rests decide.
use borrow.Author.Rules.{rules}
use native.Mathlib.Omega.{arith}
use mathlib.Core.Path.{refl, ◌∙◌, sym}
use Rattle.image.proofs.Text.{less_done, less-prefix, less-differs, less-same}
use Rattle.image.proofs.below.Goals as goal

pub loop-k-init : goal.loop-k-init
loop-k-init c = (search rules, refl)

pub returns-then-t-k : goal.returns-then-t-k
returns-then-t-k c = sym (c.loop-k.invariant.1 ∙ less-prefix c.args.t.now c.args.u.now c.loop-k.k (search rules) c.if-t-k.true)

pub returns-then-t-k-2 : goal.returns-then-t-k-2
returns-then-t-k-2 c = sym (c.loop-k.invariant.1 ∙ less-differs c.args.t.now c.args.u.now c.loop-k.k (search rules) (search rules) c.if-t-k-2.true)

pub loop-k-preserved : goal.loop-k-preserved
loop-k-preserved c = (search rules, c.loop-k.invariant.1 ∙ less-same c.args.t.now c.args.u.now c.loop-k.k (search rules) (search rules) c.if-t-k-2.false)

pub returns : goal.returns
returns c = sym (c.loop-k.invariant.1 ∙ less_done c.args.t.now c.args.u.now c.loop-k.k (omega arith))
