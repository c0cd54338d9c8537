use Rattle.std.proofs.Common.{List, ℕ, sym, ap, subst, ◌∙◌}
use Rattle.zone_core.specs.Zones.{built}
use Rattle.store_rows.specs.declared.row_fault.RowFault.{RowFault}
use Rattle.store_rows.specs.RowFaults.{Refuses, of_zones}
use Rattle.store_rows.proofs.ZoneReadLemmas.{built_at, refused_zone}
use Rattle.store_rows.proofs.reads.built.Goals as goal

pub returns-in-Ok-clause-origin : goal.returns-in-Ok-clause-origin
returns-in-Ok-clause-origin c = built_at c.in_ok-try_copy.field-0 c.args.records.items c.in-Ok.zone c.in-Ok.ensures.exact ∙ c.in_ok-try_copy.ensures

pub returns-in-Ok-clause-exact : goal.returns-in-Ok-clause-exact
returns-in-Ok-clause-exact c =
    ap (λ (n : List (List ℕ)). of_zones (built n c.args.records.items)) (sym c.in_ok-try_copy.ensures) ∙ ap of_zones c.in-Ok.ensures.exact

pub returns-in-Err-clause-exact : goal.returns-in-Err-clause-exact
returns-in-Err-clause-exact c =
    subst (λ (n : List (List ℕ)). Refuses c.of_zone.result (of_zones (built n c.args.records.items))) c.in_ok-try_copy.ensures
    (subst (λ (f : RowFault). Refuses f (of_zones (built c.in_ok-try_copy.field-0 c.args.records.items))) (sym c.of_zone.ensures)
    (refused_zone c.in-Err.fault (built c.in_ok-try_copy.field-0 c.args.records.items) c.in-Err.ensures.exact))
