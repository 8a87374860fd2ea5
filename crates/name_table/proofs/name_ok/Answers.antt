-- `name_ok` meets its contract: the tests on one name, in their order; its form is that of the whole text.
use mathlib.Core.Path.{sym, ◌∙◌}
use Rattle.image.proofs.Text.{name-empty, name-past, name-long, name-last}
use Rattle.name_table.proofs.Words.{part-form}
use Rattle.name_table.proofs.name_ok.Goals as goal

pub returns-then-b-a : goal.returns-then-b-a
returns-then-b-a c = sym (name-empty _ _ _ _ c.if-b-a.true)

pub returns-then-text-b : goal.returns-then-text-b
returns-then-text-b c = sym (name-past _ _ _ _ c.if-b-a.false c.if-text-b.true)

pub returns-then-b-a-gt-NAME : goal.returns-then-b-a-gt-NAME
returns-then-b-a-gt-NAME c = sym (name-long _ _ _ _ c.if-b-a.false c.if-text-b.false c.if-b-a-gt-NAME.true)

pub returns : goal.returns
returns c =
    let a = c.args in
    let more = c.if-b-a.false in
    let inside = c.if-text-b.false in
    c.rises.ensures ∙ sym (name-last a.text.now a.p a.a a.b more inside c.if-b-a-gt-NAME.false (part-form a.text.now a.a a.b more inside c.requires.2))
