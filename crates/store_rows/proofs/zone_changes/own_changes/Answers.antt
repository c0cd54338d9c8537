use Rattle.std.proofs.Common.{rules}
use Rattle.dns_names.specs.Order.{same_name}
use Rattle.zone_core.proofs.RetainLemmas.{retain_is}
use Rattle.store_rows.specs.declared.changes.ChangedRecord.{ChangedRecord}
use Rattle.store_rows.proofs.zone_changes.own_changes.Goals as goal

pub returns : goal.returns
returns c =
    retain_is _ (λ (changed : ChangedRecord). same_name c.args.origin.now changed.origin) _ (λ x b g k. search rules) c.args.changed.items c.retain.new.self.items c.retain.ensures.filtered
