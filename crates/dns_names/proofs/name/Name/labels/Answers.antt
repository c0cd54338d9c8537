use Rattle.dns_names.proofs.RowLemmas.{rows_whole}
use Rattle.dns_names.proofs.name.Name.labels.Goals as goal

pub of_row-requires : goal.of_row-requires
of_row-requires c = rows_whole _ _ _ _ c.rows.invariant
