-- `names_ok` meets its contract: every byte is of a class, every name passed is in order, and p and a are the offsets before and at place k.
use borrow.Author.Rules.{rules}
use native.Mathlib.Omega.{arith}
use mathlib.Core.Path.{◌≡◌, sym, ◌∙◌}
use borrow.Author.Tests.{lt-leb, le-leb}
use Rattle.image.specs.Pick.{every}
use Rattle.image.specs.Text.{name_ok, names_ok}
use Rattle.image.proofs.Every.{every-none, every-all}
use Rattle.image.proofs.Text.{names-start, names-end, names-long, names-each, passed-more, passed-fails}
use Rattle.name_table.proofs.Words.{names-other}
use Rattle.name_table.proofs.names_ok.Goals as goal

pub returns-then-offset-ne0 : goal.returns-then-offset-ne0
returns-then-offset-ne0 c = let a = c.args in sym (names-start a.names.now a.text.now a.m (omega (arith, c.if-offset-ne0.true)))

pub returns-then-offset-text : goal.returns-then-offset-text
returns-then-offset-text c = let a = c.args in sym (names-end a.names.now a.text.now a.m (omega arith) (omega (arith, c.if-offset-text.true)))

pub returns-then-text-gt-TEXT : goal.returns-then-text-gt-TEXT
returns-then-text-gt-TEXT c = let a = c.args in sym (names-long a.names.now a.text.now a.m (omega arith) (omega arith) c.if-text-gt-TEXT.true)

pub returns-then-lowest-lt1 : goal.returns-then-lowest-lt1
returns-then-lowest-lt1 c = let a = c.args in sym (names-other a.names.now a.text.now a.m (sym c.lowest.ensures ∙ lt-leb _ _ c.if-lowest-lt1.true))

pub loop-k-init : goal.loop-k-init
loop-k-init c =
    let each : let a = c.args in names_ok a.names.now a.text.now a.m ≡ every (name_ok a.names.now a.text.now) a.m = let a = c.args in names-each a.names.now a.text.now a.m (omega arith) (omega arith) (omega arith) in
    (search rules, record { last = omega arith; here = omega arith; rises = search rules; inside = search rules; each = every-none _ })

pub name_ok-requires : goal.name_ok-requires
name_ok-requires c = (omega arith, omega arith, sym c.lowest.ensures ∙ le-leb _ _ c.if-lowest-lt1.false)

pub returns-then-not-name_ok : goal.returns-then-not-name_ok
returns-then-not-name_ok c =
    let each : let a = c.args in names_ok a.names.now a.text.now a.m ≡ every (name_ok a.names.now a.text.now) a.m = let a = c.args in names-each a.names.now a.text.now a.m (omega arith) (omega arith) (omega arith) in
    sym (each ∙ passed-fails _ _ _ _ _ _ c.loop-k.invariant.1 c.offset-b.ensures.0 _ c.loop-k-test.true (sym c.name_ok.ensures ∙ c.if-not-name_ok.true))

pub loop-k-preserved : goal.loop-k-preserved
loop-k-preserved c = (search rules, passed-more _ _ _ _ _ _ c.loop-k.invariant.1 c.offset-b.ensures.0 (sym c.name_ok.ensures ∙ c.if-not-name_ok.false))

pub returns : goal.returns
returns c =
    let each : let a = c.args in names_ok a.names.now a.text.now a.m ≡ every (name_ok a.names.now a.text.now) a.m = let a = c.args in names-each a.names.now a.text.now a.m (omega arith) (omega arith) (omega arith) in
    sym (each ∙ every-all _ _ _ c.loop-k.invariant.0 c.loop-k-test.false c.loop-k.invariant.1.each)
