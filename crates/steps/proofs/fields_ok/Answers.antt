-- `fields_ok` meets its contract: the zeros, and the name by the text that the facts of the kind ask for.
use borrow.Author.Rules.{rules}
use native.Mathlib.Omega.{arith}
use Prim.Native.Nat.{◌+◌, ◌*◌, ◌/◌, ◌%◌}
use mathlib.Core.Path.{◌≡◌, ◌∙◌, sym, ap}
use borrow.Author.Tests.{eqb-true, eqb-false}
use lib.ListN.{get_or}
use Rattle.image.specs.Node.{half, kind_of}
use Rattle.image.specs.Tree.{carries, name_fits}
use Rattle.image.proofs.Digits.{carries-small, facts-text}
use Rattle.image.proofs.Tree.{fields-zeros, fields-name}
use Rattle.steps.proofs.fields_ok.Goals as goal

pub returns-then-not-zeros_ok : goal.returns-then-not-zeros_ok
returns-then-not-zeros_ok c = sym (fields-zeros c.args.parts.now.nodes.now _ _ _ c.args.i (eqb-false _ _ (sym c.zeros_ok.ensures ∙ c.if-not-zeros_ok.true)))

pub name_fits-requires : goal.name_fits-requires
name_fits-requires c =
    let text : c.args.of / 16 % 4 ≡ carries (kind_of c.args.parts.now.nodes.now c.args.i) = facts-text _ _ c.requires.3 in
    let t = text in let s = carries-small (kind_of c.args.parts.now.nodes.now c.args.i) in (search rules, search rules, omega arith)

pub returns : goal.returns
returns c =
    let text : c.args.of / 16 % 4 ≡ carries (kind_of c.args.parts.now.nodes.now c.args.i) = facts-text _ _ c.requires.3 in
    let a = c.args in
    let k = kind_of a.parts.now.nodes.now a.i in
    let z = eqb-true (get_or a.parts.now.nodes.now (16 * a.i + 1) 0 + half a.parts.now.nodes.now (16 * a.i + 6)) 0 (sym c.zeros_ok.ensures ∙ c.if-not-zeros_ok.false) in
    c.name_fits.ensures k (text) ∙ ap (name_fits a.parts.now.names.now a.parts.now.text.now a.parts.now.m k) c.name.ensures.0 ∙ sym (fields-name a.parts.now.nodes.now _ _ _ a.i (omega arith) (omega arith))
