-- What the contracts settle: two results of `why` that its contract allows are equal, and so are the lent words afterwards; two numbers
-- of one refusal are equal.
use Rattle.typeck.proofs.Settles.{Settles, SettlesBoth, same, only}
use Rattle.why.proofs.Untold.number.Kinds as number-kinds
use Rattle.why.proofs.Untold.number.Reads as number-reads
use Rattle.why.proofs.why.Kinds as why-kinds
use Rattle.why.proofs.why.Reads as why-reads

pub number-settles : Settles number-kinds.ps number-kinds.r number-reads.Learnt
number-settles κs a x y e f p q = same p q

pub why-settles : SettlesBoth why-kinds.ps why-kinds.r why-reads.Learnt (λ κs e. e.1.1.0.now)
why-settles κs a x y e f p q = (only p.0 q.0, same p.1 q.1)
