-- `lowest` meets its contract: the lowest class so far is one exactly when every byte passed is of a class.
use borrow.Author.Rules.{rules}
use native.Mathlib.Omega.{arith}
use mathlib.Core.Path.{◌≡◌, sym, ap, ◌∙◌}
use lib.ListN.{length}
use Rattle.image.specs.Pick.{every}
use Rattle.name_table.specs.Bytes.{all_words}
use Rattle.image.specs.Text.{word_at}
use Rattle.image.proofs.Every.{every-none}
use Rattle.name_table.proofs.Words.{low-more}
use Rattle.name_table.proofs.lowest.Goals as goal

pub loop-b-init : goal.loop-b-init
loop-b-init c = (search rules, sym (every-none _))

pub loop-b-preserved : goal.loop-b-preserved
loop-b-preserved c = (search rules, low-more _ _ _ _ _ c.loop-b.invariant.1 c.class.ensures c.min-low.ensures)

pub returns : goal.returns
unfolding all_words
returns c = let i = c.loop-b.invariant in let e : c.loop-b.b-index ≡ length c.args.t.now = omega arith in i.1 ∙ ap (every (word_at c.args.t.now)) e
