-- `table_of` meets its contract: admission, then the table.
use mathlib.Core.Path.{sym, ◌∙◌}
use Rattle.nodes.proofs.Admission.{admitted-by}
use Rattle.linear_table.proofs.Made.{number_small, table-refused}
use Rattle.linear_table.proofs.table_of.Goals as goal

pub refused-requires : goal.refused-requires
refused-requires c = number_small _ _ (sym c.admit.ensures ∙ c.in-Err.is) c.number.ensures

pub tracked-requires : goal.tracked-requires
tracked-requires c = admitted-by _ _ (sym c.admit.ensures ∙ c.in-Ok.is)

pub returns-in-Err : goal.returns-in-Err
returns-in-Err c = table-refused _ _ (sym c.admit.ensures ∙ c.in-Err.is) c.number.ensures c.refused.ensures
