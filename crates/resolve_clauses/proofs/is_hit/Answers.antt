-- `is_hit` meets its contract: the word's mark, or that it has none.
use Rattle.nodes.specs.Shown.{tree_of}
use Rattle.resolve_clauses.proofs.Hits.{word-hit}
use Rattle.resolve_clauses.proofs.is_hit.Goals as goal

pub returns : goal.returns
returns c = λ T. word-hit c.args.rule T.says (tree_of T.view) _ (c.is_marked.ensures T.view _ T.tells)
