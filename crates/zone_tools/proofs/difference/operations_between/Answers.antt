use Rattle.std.proofs.Common.{◌≡◌, ◌++◌, ◌==◌, List, [], length, subst, sym, ◌↔◌}
use Rattle.std.specs.List.{AllByRecursion}
use Rattle.std.proofs.lemmas.Result.{IfOk-weaker}
use Rattle.zone_core.specs.declared.update.Operation.{Operation}
use Rattle.zone_core.specs.Changes.{change_in}
use Rattle.zone_core.specs.Zones.{ZoneOf, IsZone}
use Rattle.zone_core.proofs.ZoneLemmas.{Keys, keys_of}
use Rattle.zone_tools.specs.Differences.{soa_additions, operations, target}
use Rattle.zone_tools.specs.DifferencePromises.{Lead, HaveNoNews, IsNeeded, AddsSoaLast, AreWithin}
use Rattle.zone_tools.proofs.DiffPromiseLemmas.{exact_is, operations_lead, operations_none, operations_needed, operations_soa, operations_within}
use Rattle.zone_tools.proofs.difference.operations_between.Goals as goal

-- the zone of a call, whose origin is equal to the other's
new_keys : (old new : ZoneOf) → new.origin ≡ old.origin → IsZone new → Keys old.origin new.records
new_keys old new same is = subst (λ o. Keys o new.records) same (keys_of new.origin new.records is)

old_keys : (old : ZoneOf) → IsZone old → Keys old.origin old.records
old_keys old is = keys_of old.origin old.records is

pub returns-clause-exact : goal.returns-clause-exact
returns-clause-exact c =
    let old = c.args.old.now in
    let new = c.args.new.now in
    IfOk-weaker c.with_soa.result (λ ops. ops.items ≡ c.in_ok-operations.operations.items ++ soa_additions (length c.in_ok-operations.operations.items == 0) c.soa.result.now c.soa-2.result.now)
    (λ ops. ops.items ≡ operations old.origin old.records new.records)
    (λ ops e. exact_is old.origin c.origin.result.now new.origin old.records new.records _ _ _ (change_in c.in_ok-change.change) c.in_ok-operations.operations.items ops.items c.soa.result.now c.soa-2.result.now
    c.origin.ensures.value c.requires c.records.ensures.set c.records-2.ensures.set c.records-3.ensures.set c.in_ok-change.ensures c.in_ok-operations.ensures c.soa.ensures.value c.soa-2.ensures.value e)
    c.with_soa.ensures

pub returns-clause-made : goal.returns-clause-made
returns-clause-made c =
    let old = c.args.old.now in
    let new = c.args.new.now in
    IfOk-weaker c.with_soa.result (λ ops. ops.items ≡ operations old.origin old.records new.records) (λ ops. Lead old.origin old.records new.records ops.items)
    (λ ops e. subst (Lead old.origin old.records new.records) (sym e) (operations_lead old.origin old.records new.records (old_keys old c.records.ensures.zone) (new_keys old new c.requires c.records-2.ensures.zone)))
    (returns-clause-exact c)

pub returns-clause-none : goal.returns-clause-none
returns-clause-none c =
    let old = c.args.old.now in
    let new = c.args.new.now in
    IfOk-weaker c.with_soa.result (λ ops. ops.items ≡ operations old.origin old.records new.records) (λ ops. (ops.items ≡ []) ↔ HaveNoNews old.origin old.records new.records)
    (λ ops e. subst (λ (xs : List Operation). (xs ≡ []) ↔ HaveNoNews old.origin old.records new.records) (sym e) (operations_none old.origin old.records new.records (old_keys old c.records.ensures.zone) (new_keys old new c.requires c.records-2.ensures.zone)))
    (returns-clause-exact c)

pub returns-clause-needed : goal.returns-clause-needed
returns-clause-needed c =
    let old = c.args.old.now in
    let new = c.args.new.now in
    IfOk-weaker c.with_soa.result (λ ops. ops.items ≡ operations old.origin old.records new.records) (λ ops. AllByRecursion (IsNeeded old.records (target old.origin old.records new.records)) ops.items)
    (λ ops e. subst (AllByRecursion (IsNeeded old.records (target old.origin old.records new.records))) (sym e) (operations_needed old.origin old.records new.records (old_keys old c.records.ensures.zone) (new_keys old new c.requires c.records-2.ensures.zone)))
    (returns-clause-exact c)

pub returns-clause-soa : goal.returns-clause-soa
returns-clause-soa c =
    let old = c.args.old.now in
    let new = c.args.new.now in
    IfOk-weaker c.with_soa.result (λ ops. ops.items ≡ operations old.origin old.records new.records) (λ ops. AddsSoaLast old.origin old.records (target old.origin old.records new.records) ops.items)
    (λ ops e. subst (AddsSoaLast old.origin old.records (target old.origin old.records new.records)) (sym e) (operations_soa old.origin old.records new.records (old_keys old c.records.ensures.zone) (new_keys old new c.requires c.records-2.ensures.zone)))
    (returns-clause-exact c)

pub returns-clause-within : goal.returns-clause-within
returns-clause-within c =
    let old = c.args.old.now in
    let new = c.args.new.now in
    IfOk-weaker c.with_soa.result (λ ops. ops.items ≡ operations old.origin old.records new.records) (λ ops. AreWithin old.origin ops.items)
    (λ ops e. subst (AreWithin old.origin) (sym e) (operations_within old.origin old.records new.records (old_keys old c.records.ensures.zone) (new_keys old new c.requires c.records-2.ensures.zone)))
    (returns-clause-exact c)
