-- `has_arguments` meets its contract: no type; a type, by its end.
use mathlib.Core.Path.{sym, ◌∙◌}
use Rattle.nodes.specs.Shown.{tree_of}
use Rattle.signature.proofs.Reading.{args-other, args_read}
use Rattle.signature.proofs.has_arguments.Goals as goal

pub returns : goal.returns
returns c = λ W. args_read (tree_of W) c.args.y (sym (c.kind.ensures W) ∙ c.if-kind-ne-TYPE.false) (c.end.ensures W)

pub returns-then-kind-ne-TYPE : goal.returns-then-kind-ne-TYPE
returns-then-kind-ne-TYPE c = λ W. sym (args-other (tree_of W) c.args.y (λ e. c.if-kind-ne-TYPE.true (c.kind.ensures W ∙ e)))
