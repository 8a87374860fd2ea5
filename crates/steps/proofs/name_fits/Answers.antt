-- `name_fits` meets its contract: the tests on a name number, and the form of its text by its first byte.
use Prim.Native.Nat.{ℕ}
use native.Mathlib.Omega.{arith}
use mathlib.Core.Path.{◌≡◌, ◌∙◌, sym, ap}
use lib.Dec.{eqb}
use Rattle.image.specs.Text.{form_of, text_of}
use Rattle.image.proofs.Tree.{name-starts, number_is, identifier-is, fits-none, fits-zero, fits-past, fits-form}
use Rattle.steps.proofs.name_fits.Goals as goal

pub returns-then-f-eq0 : goal.returns-then-f-eq0
returns-then-f-eq0 c = λ k e. sym (fits-none _ _ _ _ _ _ e c.if-f-eq0.true)

pub returns-then-n-lt1 : goal.returns-then-n-lt1
returns-then-n-lt1 c = λ k e. sym (fits-zero _ _ _ _ _ _ e c.if-f-eq0.false c.if-n-lt1.true)

pub returns-then-parts-n : goal.returns-then-parts-n
returns-then-parts-n c = λ k e. sym (fits-past _ _ _ _ _ _ e c.if-f-eq0.false c.if-n-lt1.false c.if-parts-n.true)

pub bounds-parts-a : goal.bounds-parts-a
bounds-parts-a c = name-starts c.args.parts.now.names.now c.args.parts.now.text.now c.args.parts.now.m c.args.n c.offset-a.result c.requires.1 c.if-n-lt1.false c.if-parts-n.false c.offset-a.ensures.0

pub returns-then-f-eq2 : goal.returns-then-f-eq2
returns-then-f-eq2 c =
    λ k e.
    sym (fits-form _ _ _ _ _ _ e c.if-f-eq0.false c.if-n-lt1.false c.if-parts-n.false
    ∙ ap (λ (x : ℕ). eqb (form_of (text_of c.args.parts.now.names.now c.args.parts.now.text.now c.args.n)) x) c.if-f-eq2.true
    ∙ number_is c.args.parts.now.names.now c.args.parts.now.text.now c.args.parts.now.m c.args.n c.offset-a.result c.requires.1 c.if-n-lt1.false c.if-parts-n.false c.offset-a.ensures.0)

pub bounds-parts-a-2 : goal.bounds-parts-a-2
bounds-parts-a-2 c = name-starts c.args.parts.now.names.now c.args.parts.now.text.now c.args.parts.now.m c.args.n c.offset-a.result c.requires.1 c.if-n-lt1.false c.if-parts-n.false c.offset-a.ensures.0

pub returns : goal.returns
returns c =
    λ k e.
    let one : c.args.f ≡ 1 = let a = c.if-f-eq0.false in let b = c.if-f-eq2.false in omega arith in
    sym (fits-form _ _ _ _ _ _ e c.if-f-eq0.false c.if-n-lt1.false c.if-parts-n.false
    ∙ ap (λ (x : ℕ). eqb (form_of (text_of c.args.parts.now.names.now c.args.parts.now.text.now c.args.n)) x) one
    ∙ identifier-is c.args.parts.now.names.now c.args.parts.now.text.now c.args.parts.now.m c.args.n c.offset-a.result c.requires.1 c.if-n-lt1.false c.if-parts-n.false c.offset-a.ensures.0)
