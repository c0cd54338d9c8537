use Rattle.std.proofs.Common.{sym, ap, ◌∙◌, length}
use Rattle.zone_core.proofs.SharedOctetLemmas.{none_shared, share_octets}
use Rattle.zone_core.proofs.build.shared_of.Goals as goal

pub returns-then-all_within : goal.returns-then-all_within
returns-then-all_within c = share_octets c.args.origin.now c.args.records.now _ (sym (ap length c.key.ensures.key)) (sym c.all_within.ensures ∙ c.if-all_within.true)

pub returns-else-all_within : goal.returns-else-all_within
returns-else-all_within c = none_shared c.args.records.now
