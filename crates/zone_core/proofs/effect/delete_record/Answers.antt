use Rattle.std.proofs.Common.{sym}
use Rattle.zone_core.proofs.RuleLemmas.{record_cut}
use Rattle.zone_core.proofs.effect.delete_record.Goals as goal

pub returns-else-stays : goal.returns-else-stays
returns-else-stays c =
    record_cut c.args.origin.now c.args.name.now c.args.node.items c.requires c.args.rdata.now c.without.result.items (rw (sym c.deref.ensures.value, sym c.stays.ensures) c.if-stays.false) c.without.ensures
