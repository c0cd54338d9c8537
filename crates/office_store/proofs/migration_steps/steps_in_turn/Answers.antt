use Rattle.std.proofs.Common.{◌≡◌, ◌+◌, List, ℕ, take, drop, sym, subst, arith}
use Rattle.std.specs.List.{AllByRecursion}
use Rattle.store_rows.specs.declared.changes.ChangedRecord.{ChangedRecord}
use Rattle.store_rows.specs.declared.ordered.ZoneRecord.{ZoneRecord}
use Rattle.store_rows.specs.Checks.{IsZoneRecord}
use Rattle.store_rows.proofs.ZoneCheckLemmas.{front_all, run_of}
use Rattle.office_store.specs.MigrationSteps.{IsOldZoneOf, zone_rows_in, zones_in_turn, GoesOn}
use Rattle.office_store.proofs.MigrationWalkLemmas.{IsWalked, left_all, walked_more}
use Rattle.office_store.proofs.migration_steps.steps_in_turn.Goals as goal

pub loop-origin-init : goal.loop-origin-init
loop-origin-init c = record {
  turn = (λ h. h, λ h. h);
  steps_are = left_all c.new-steps.result (zones_in_turn c.args.origins.now c.args.records.now c.args.changes.now) c.new-steps.ensures;
  each = c.requires;
  room = let none = c.new-steps.ensures.zones in omega arith;
}

pub with_zone-requires-clause-room : goal.with_zone-requires-clause-room
with_zone-requires-clause-room c = let room = c.loop-origin.invariant.room in let below = c.loop-origin-test.true in omega arith

pub with_zone-requires-clause-records : goal.with_zone-requires-clause-records
with_zone-requires-clause-records c =
    subst (AllByRecursion IsZoneRecord) (sym c.split_at.ensures.front) (front_all IsZoneRecord c.records_first.result c.loop-origin.records.now c.loop-origin.invariant.each)

pub with_zone-requires-clause-changes : goal.with_zone-requires-clause-changes
with_zone-requires-clause-changes c =
    let o : List (List ℕ) = c.origin-item.result in
    subst (AllByRecursion (λ (x : ChangedRecord). x.origin ≡ o)) (sym c.split_at-in-loop-origin.ensures.front)
    (subst (λ (n : ℕ). AllByRecursion (λ (x : ChangedRecord). x.origin ≡ o) (take n c.loop-origin.changes.now)) (sym c.changes_first.ensures.value) (run_of (λ (x : ChangedRecord). x.origin) o c.loop-origin.changes.now))

pub loop-origin-preserved : goal.loop-origin-preserved
loop-origin-preserved c =
    let origins = c.args.origins.now in
    let rs = c.loop-origin.records.now in
    let cs = c.loop-origin.changes.now in
    let i = c.loop-origin.origin-index in
    let o = c.origin-item.result in
    let n = c.records_first.result in
    let m = c.changes_first.result in
    let own = c.split_at in
    let changed = c.split_at-in-loop-origin in
    let new = c.in_ok-steps.steps in
    let zone = subst (λ (l : List ZoneRecord). IsOldZoneOf o l (take m cs)) own.ensures.front (subst (λ (l : List ChangedRecord). IsOldZoneOf o own.result.0.now l) changed.ensures.front c.in_ok-steps.ensures.zone) in
    let more = subst (λ (l : List ZoneRecord). GoesOn c.loop-origin.steps new (zone_rows_in o l (take m cs))) own.ensures.front
    (subst (λ (l : List ChangedRecord). GoesOn c.loop-origin.steps new (zone_rows_in o own.result.0.now l)) changed.ensures.front c.in_ok-steps.ensures.more) in
    let on = walked_more origins c.args.records.now c.args.changes.now i rs cs c.loop-origin.steps c.loop-origin.invariant o c.loop-origin-test.true c.origin-item.is n m c.records_first.ensures.value c.changes_first.ensures.value new zone more in
    subst (λ (l : List ZoneRecord). IsWalked origins c.args.records.now c.args.changes.now (i + 1) l changed.result.1.now new) (sym own.ensures.back)
    (subst (λ (l : List ChangedRecord). IsWalked origins c.args.records.now c.args.changes.now (i + 1) (drop n rs) l new) (sym changed.ensures.back) on)
