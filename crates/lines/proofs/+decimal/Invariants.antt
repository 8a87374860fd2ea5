-- `decimal` calls itself with one digit less, so the digits that may still be written fall.
use Rattle.lines.proofs.+decimal.Given as goal

abbrev pub decreases-decimal : goal.decreases-decimal
decreases-decimal l = l.most
