-- `root_ok` meets its contract: the kind, the end, the fields.
use borrow.Author.Rules.{rules}
use mathlib.Core.Path.{sym, ap, ◌∙◌}
use borrow.Author.Tests.{eq-eqb, ne_eqb}
use Rattle.image.specs.Digits.{kind_facts}
use Rattle.steps.proofs.root_ok.Goals as goal

pub returns-then-kind-ne1 : goal.returns-then-kind-ne1
returns-then-kind-ne1 c = simp (sym c.kind.ensures.0, ne_eqb _ _ c.if-kind-ne1.true)

pub returns-then-end-parts : goal.returns-then-end-parts
returns-then-end-parts c = simp (sym c.kind.ensures.0, eq-eqb _ _ c.if-kind-ne1.false, sym c.end.ensures.0, ne_eqb _ _ c.if-end-parts.true)

pub fields_ok-requires : goal.fields_ok-requires
fields_ok-requires c = (search rules, search rules, search rules, c.facts.ensures ∙ ap kind_facts (sym c.if-kind-ne1.false ∙ c.kind.ensures.0))

pub returns : goal.returns
returns c = simp (c.fields_ok.ensures, sym c.kind.ensures.0, eq-eqb _ _ c.if-kind-ne1.false, sym c.end.ensures.0, eq-eqb _ _ c.if-end-parts.false)
