-- `child_ok` meets its contract: the fields, then the end against the node itself and against its parent's end.
use mathlib.Core.Path.{sym, ◌∙◌}
use borrow.Author.Tests.{lt-ltb, le-ltb}
use Rattle.steps.proofs.child_ok.Goals as goal

pub returns-then-not-fields_ok : goal.returns-then-not-fields_ok
returns-then-not-fields_ok c = simp (sym c.fields_ok.ensures ∙ c.if-not-fields_ok.true)

pub returns-then-p-to : goal.returns-then-p-to
returns-then-p-to c =
    let ok = sym c.fields_ok.ensures ∙ c.if-not-fields_ok.false in
    simp (ok, sym c.end-to.ensures.0, lt-ltb c.args.p.at c.end-to.result c.if-p-to.true)

pub returns-else-p-to : goal.returns-else-p-to
returns-else-p-to c =
    let ok = sym c.fields_ok.ensures ∙ c.if-not-fields_ok.false in
    simp (ok, sym c.end-to.ensures.0, le-ltb c.args.p.at c.end-to.result c.if-p-to.false)
