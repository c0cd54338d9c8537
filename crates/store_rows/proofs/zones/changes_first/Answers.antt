use Rattle.std.proofs.Common.{not, ◌∙◌}
use Rattle.dns_names.specs.Order.{same_name}
use Rattle.store_rows.proofs.ListLemmas.{count_is}
use Rattle.store_rows.proofs.zones.changes_first.Goals as goal

pub returns-clause-value : goal.returns-clause-value
returns-clause-value c = c.unwrap_or.ensures ∙ count_is (λ x. not (same_name x.origin c.args.origin.now)) c.args.changes.now c.other_change.result c.other_change.ensures
