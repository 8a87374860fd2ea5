-- To be skipped by a reader: the list that computes the offences, resolve, access, linear. Demand 3 ties it to the facts: it is the
-- full list of the tree of every admitted image.
use Rattle.std.specs.Prelude.{List, ◌++◌}
use Rattle.rules.specs.Tree.{Tree}
use Rattle.rules.specs.Record.{Rec}
use Rattle.rules.specs.ComputeResolve.{resolve}
use Rattle.rules.specs.ComputeAccess.{access}
use Rattle.rules.specs.ComputeLinear.{linear}

unfoldable pub offences : Tree → List Rec
offences t = resolve t ++ (access t ++ linear t)
