use Rattle.std.proofs.Common.{Bool, ap, if◌then◌else◌, ◌∙◌}
use Rattle.zone_core.specs.Sets.{at, at_name}
use Rattle.zone_tools.specs.declared.idle.Idleness.TheVariants.{Kept, Absent}
use Rattle.zone_tools.proofs.IdleLemmas.{has_listed}
use Rattle.zone_tools.proofs.idle.reason.Goals as goal

pub returns-in-DeleteRrset : goal.returns-in-DeleteRrset
returns-in-DeleteRrset c =
    rw c.in-DeleteRrset.is (c.deletion_reason.ensures ∙ ap (λ (b : Bool). if b then Kept else Absent) (has_listed c.args.zone.now.records (at c.in-DeleteRrset.name c.in-DeleteRrset.record_type) c.is_empty.result (rw c.rrset.ensures at c.is_empty.ensures)))

pub returns-in-DeleteName : goal.returns-in-DeleteName
returns-in-DeleteName c =
    rw c.in-DeleteName.is (c.deletion_reason-in-DeleteName.ensures ∙ ap (λ (b : Bool). if b then Kept else Absent) (has_listed c.args.zone.now.records (at_name c.in-DeleteName.name) c.is_empty-in-DeleteName.result (rw c.records_at.ensures at c.is_empty-in-DeleteName.ensures)))
