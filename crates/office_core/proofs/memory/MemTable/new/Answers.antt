use Rattle.std.proofs.Common.{◌≡◌, ◌++◌, [], map, sym, ap, ◌∙◌, subst, arith}
use Rattle.std.proofs.lemmas.List.{nil_from_length}
use Rattle.std.specs.Vec.Iter.{into_iter_items}
use Rattle.zone_core.specs.Zones.{IsZone}
use Rattle.office_core.specs.Memory.{EachIsZone, MemoryOf, receipt_rows}
use Rattle.office_core.proofs.MemoryLemmas.{is_fresh, fresh, all_fresh, all_push, holds_fresh, more_fresh, no_receipts}
use Rattle.office_core.proofs.memory.MemTable.new.Goals as goal

pub loop-zone-preserved : goal.loop-zone-preserved
loop-zone-preserved c =
    let held = c.loop-zone.held.items in
    let new = c.unchanged.result in
    let items = c.in_ok-push.ensures.items in
    let left = into_iter_items c.next.new.self in
    let taken = more_fresh held new c.in-Some.zone (into_iter_items c.loop-zone.zone-iterator) left (map fresh c.args.zones.items) c.unchanged.ensures.zone c.unchanged.ensures.changes c.in-Some.ensures.steps.0 c.loop-zone.invariant.zones in
    record {
      zones = ap (λ q. map is_fresh q ++ map fresh left) items ∙ taken;
      are_zones = subst EachIsZone (sym items) (all_push (λ h. IsZone h.zone) held new c.loop-zone.invariant.are_zones (subst IsZone (sym c.unchanged.ensures.zone) c.unchanged.ensures.is_zone));
    }

pub returns : goal.returns
returns c =
    let held = c.loop-zone.held.items in
    let it = c.loop-zone.zone-iterator.rest in
    let none : it.items ≡ [] = nil_from_length it.items (omega (arith, it.ok.0, c.in-None.ensures.steps.0)) in
    let taken = all_fresh held it.items (map fresh c.args.zones.items) none c.loop-zone.invariant.zones in
    let memory : MemoryOf = record { zones = held; receipts = receipt_rows c.new.result } in
    let empty = ap (map (λ e. (e.0, e.1.entries))) c.new.ensures.empty in
    holds_fresh memory c.args.zones.items (no_receipts memory c.loop-zone.invariant.are_zones empty) taken empty
