-- `holds` meets its contract: the mark of a name; bytes that are no name are answered apart.
use native.Mathlib.Omega.{arith}
use mathlib.Core.Path.{◌∙◌, subst}
use Rattle.nodes.proofs.Heads.{shown, bounds, root-of, view_of}
use Rattle.nodes.proofs.Names.{marks-none}
use Rattle.names.specs.Found.{Numbered}
use Rattle.model.proofs.Lacking.{of-no-name}
use Rattle.model.proofs.Known.{marked-so}
use Rattle.model.proofs.holds.Goals as goal

pub returns-then-x-eq0 : goal.returns-then-x-eq0
returns-then-x-eq0 c = let S = shown c.requires in c.of_no_name.ensures ∙ of-no-name (view_of S) (root-of S) (subst (Numbered _ _) c.if-x-eq0.true c.number_of-x.ensures) c.args.question

pub bounds-marks-x : goal.bounds-marks-x
bounds-marks-x c = let h = c.number_of-x.ensures.high in let b = bounds c.requires in let e = c.requires.names in omega arith

pub returns : goal.returns
returns c = marked-so c.number_of-x.ensures _ (let n = c.if-x-eq0.false in omega (arith, n)) (c.mark_yes.ensures (marks-none _ c.requires.admitted))
