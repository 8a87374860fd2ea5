-- `count_uses` meets its contract: one sweep that finds the counted occurrences and counts each on its row.
use native.Mathlib.Omega.{arith}
use mathlib.Core.Path.{◌≡◌}
use Rattle.nodes.specs.Shown.{In, tree_of}
use Rattle.nodes.proofs.Spans.{span-whole, upto_is}
use Rattle.linear_occurrences.proofs.Ahead.{ahead-starts, ahead-on, ahead-clear}
use Rattle.linear_occurrences.proofs.Found.{finding-keeps}
use Rattle.linear_uses.proofs.Uses.{on_rows, spoken, uses-start, uses-on, uses-spare}
use Rattle.linear_uses.proofs.count_uses.Goals as goal

pub overflow_add-end : goal.overflow_add-end
overflow_add-end c = let W = c.requires.0.counting.view in let u = (span-whole W (upto_is W)).under in omega arith

pub loop-p-init : goal.loop-p-init
loop-p-init c =
    let W = c.requires.0.counting.view in
    let S = span-whole W (upto_is W) in
    (S, omega arith, S.order, λ T. (ahead-starts (tree_of T.counting.view) c.requires.1, λ M t. uses-start (tree_of T.counting.view) T.counting.entry T.row_of c.args.base t))

pub occurrence_at-found-requires : goal.occurrence_at-found-requires
occurrence_at-found-requires c = let i = c.loop-p.invariant in let h = c.loop-p-test.true in let a = i.1 in let b = i.0.held in let u = i.0.under in (c.requires.0.counting, (a, omega arith, omega arith))

pub use_row-requires : goal.use_row-requires
use_row-requires c =
    let n = c.loop-p in
    let i = n.invariant in
    let h = c.loop-p-test.true in
    let a = i.1 in
    let b = i.0.held in
    let u = i.0.under in
    let T = c.requires.0 in
    let t = tree_of T.counting.view in
    let e = T.counting.entry in
    let w : In c.args.nodes.now c.args.base n.p = (a, omega arith, omega arith) in
    let q = i.3 T in
    (on_rows T, spoken T.counting.view e w c.occurrence_at-found.result (c.occurrence_at-found.ensures.finds T.counting q.0), uses-spare t e T.row_of c.args.base (omega arith) (q.1 c.requires.2.0 c.requires.2.1))

pub loop-p-preserved : goal.loop-p-preserved
loop-p-preserved c =
    let i = c.loop-p.invariant in
    let h = c.loop-p-test.true in
    let a = i.1 in (
      i.0,
      omega arith,
      omega arith,
      λ T.
          let q = i.3 T in
          let f = T.counting.first.after in
          let u = upto_is T.counting.view in
          let e = T.counting.ends in
          let r = c.occurrence_at-found.ensures in
          (ahead-on (tree_of T.counting.view) a q.0 (r.takes_its_own T.counting), λ M t. uses-on (tree_of T.counting.view) T.counting.entry T.row_of c.args.base c.occurrence_at-found.result a (finding-keeps (tree_of T.counting.view) T.counting.entry _ (omega arith) (omega arith) c.occurrence_at-found.result (r.finds T.counting q.0)) (c.use_row.ensures (on_rows T) M _ (q.1 M t))),
    )

pub returns : goal.returns
returns c =
    λ T.
    let i = c.loop-p.invariant in
    let a = i.2 in
    let l = c.loop-p-test.false in
    let u = upto_is T.counting.view in
    let e : c.loop-p.p ≡ T.counting.view.upto = omega arith in
    let q = rw e at (i.3 T) in
    (ahead-clear T.counting q.0, q.1)
