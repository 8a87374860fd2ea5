-- `tell_uses` meets its contract: one sweep that finds the counted occurrences and tells those of the row.
use native.Mathlib.Omega.{arith}
use Prim.Native.Nat.{ℕ, ◌-◌}
use mathlib.Core.Path.{sym, ap, ◌∙◌}
use Rattle.rules.specs.Sweep.{run}
use Rattle.records.proofs.Sweep.{sweeps-start, sweeps-again, sweeps-done}
use Rattle.nodes.specs.Shown.{In, tree_of}
use Rattle.nodes.proofs.Spans.{span-whole, upto_is}
use Rattle.linear_occurrences.proofs.Ahead.{ahead-starts, ahead-on}
use Rattle.linear_uses.specs.Uses.{use_at}
use Rattle.linear_uses.proofs.Uses.{spoken}
use Rattle.reasons.specs.Compute.{use_words, each}
use Rattle.lot_words.proofs.Words.{wrote_as, wrote-follows, wrote-long, each-run}
use Rattle.lot_words.proofs.Uses.{found-told}
use Rattle.lot_words.proofs.tell_uses.Goals as goal

pub overflow_add-end : goal.overflow_add-end
overflow_add-end c = let W = c.requires.0.counting.view in let u = (span-whole W (upto_is W)).under in omega arith

pub loop-p-init : goal.loop-p-init
loop-p-init c =
    let W = c.requires.0.counting.view in
    let S = span-whole W (upto_is W) in
    (S, sweeps-start (λ _. wrote-follows) S.order, λ T. ahead-starts (tree_of T.counting.view) c.requires.1)

pub occurrence_at-found-requires : goal.occurrence_at-found-requires
occurrence_at-found-requires c = let i = c.loop-p.invariant in let h = c.loop-p-test.true in let a = i.1.low in let b = i.0.held in let u = i.0.under in (c.requires.0.counting, (a, omega arith, omega arith))

pub tell_use-total-requires : goal.tell_use-total-requires
tell_use-total-requires c =
    let i = c.loop-p.invariant in
    let h = c.loop-p-test.true in
    let a = i.1.low in
    let b = i.0.held in
    let u = i.0.under in
    let f = i.1.few in
    let g = i.1.high in
    let n = c.requires.3 in
    let T = c.requires.0 in
    let w : In c.args.nodes.now c.args.base c.loop-p.p = (a, omega arith, omega arith) in
    (spoken T.counting.view T.counting.entry w c.occurrence_at-found.result (c.occurrence_at-found.ensures.finds T.counting (i.2 T)), omega arith)

pub loop-p-preserved : goal.loop-p-preserved
loop-p-preserved c =
    let i = c.loop-p.invariant in
    let h = c.loop-p-test.true in
    let a = i.1.low in
    let q = c.tell_use-total.ensures in (
      i.0,
      sweeps-again (λ _. wrote-follows) i.1 q.1
          (λ T.
          let r = c.occurrence_at-found.ensures in
          let f = T.counting.first.after in
          let u = upto_is T.counting.view in
          let e = T.counting.ends in
          wrote_as (found-told T.counting T.row_of c.args.row c.requires.2 c.loop-p.p (omega arith) (omega arith) c.occurrence_at-found.result (r.finds T.counting (i.2 T))) (q.0 T.counting.view T.row_of T.noted))
          h,
      λ T. ahead-on (tree_of T.counting.view) a (i.2 T) (c.occurrence_at-found.ensures.takes_its_own T.counting),
    )

pub shape_of-out : goal.shape_of-out
shape_of-out c = wrote-long (c.loop-p.invariant.1.laid c.requires.0)

pub returns : goal.returns
returns c =
    let i = c.loop-p.invariant in
    let l = c.loop-p-test.false in
    let u = i.0.under in
    let D = sweeps-done (λ _. wrote-follows) i.1 l in
    let f = D.0 in (
      λ T.
          let t = tree_of T.counting.view in
          let e = T.counting.entry in
          wrote_as
          (sym (each-run (use_words t e) (use_at t e T.row_of (c.args.row - 1)) c.args.base _) ∙ ap (λ (n : ℕ). each (use_words t e) (run (use_at t e T.row_of (c.args.row - 1)) c.args.base (n - c.args.base))) (upto_is T.counting.view))
          (D.1 T),
      omega arith,
    )
