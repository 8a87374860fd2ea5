-- `within` meets its contract: the nodes below a node, as one range.
use mathlib.Core.List.{[], ◌∷◌}
use mathlib.Core.Path.{refl}
use Rattle.records.proofs.Laws.{added-by}
use Rattle.records.proofs.Sweep.{run-below}
use Rattle.nodes.specs.Shown.{tree_of}
use Rattle.nodes.proofs.Spans.{span_below}
use Rattle.resolve_clauses.specs.Said.{at_word}
use native.Mathlib.Omega.{arith}
use Rattle.nodes.proofs.Parts.{inside}
use Rattle.nodes.proofs.Entries.{end-bytes}
use Rattle.resolve_clauses.proofs.within.Goals as goal

pub returns : goal.returns
returns c =
    let n = c.args.node in
    let i = c.requires.2 in
    added-by (λ h. record { seen = h.seen; entries = h.entries; held = λ p l g. h.held p (omega arith) (let W = h.seen.view in let e = c.end-end.ensures W in let d = end-bytes W n (inside W i) in omega arith) })
    (λ h. let T = h.seen in run-below (tree_of T.view) (c.args.rule.kind ∷ []) (at_word c.args.rule T.says (tree_of T.view)) _ _ _ refl (c.end-end.ensures T.view))
    c.words.ensures

pub words-requires : goal.words-requires
words-requires c = let W = c.requires.0.view in (c.requires.0, c.requires.1, span_below W c.requires.2 (c.end-end.ensures W), c.requires.3, c.requires.4)
