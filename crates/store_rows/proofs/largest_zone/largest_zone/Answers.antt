use Rattle.std.proofs.Common.{◌≡◌, ◌↔◌, ◌+◌, ◌++◌, List, map, Ok, IfSome, drop, take, eqb-true, length, sym, ap, subst, ◌∙◌}
use Rattle.std.specs.List.{AllByRecursion}
use Rattle.std.specs.Option.{is_some}
use Rattle.std.proofs.lemmas.List.{nil_from_length, take-append-drop}
use Rattle.store_rows.specs.declared.ordered.ZoneRecord.{ZoneRecord}
use Rattle.store_rows.specs.Checks.{records_first, AreRecordsIn, AreRecordsInTurn}
use Rattle.zone_core.specs.Zones.{built}
use Rattle.store_rows.specs.RowFaults.{of_zones}
use Rattle.store_rows.proofs.ReadZoneLemmas.{done_all, done_more, none_done}
use Rattle.store_rows.proofs.ZoneCheckLemmas.{run_of}
use Rattle.store_rows.proofs.ZoneStepLemmas.{passes}
use Rattle.store_rows.proofs.largest_zone.largest_zone.Goals as goal

pub loop-origin-init : goal.loop-origin-init
loop-origin-init c = record {
  turn = (λ h. h, λ h. h);
  done = none_done c.args.origins.now c.args.records.now;
}

pub loop-origin-preserved : goal.loop-origin-preserved
loop-origin-preserved c =
    let origins = c.args.origins.now in
    let left = c.loop-origin.left.now in
    let i = c.loop-origin.origin-index in
    let o = c.origin-item.result in
    let n = c.records_first.result in
    let own = c.split_at.result.0.now in
    let other = c.split_at.result.1.now in
    let all = AreRecordsInTurn origins c.args.records.now in
    let is_zone : AreRecordsIn o own = c.in_ok-zone.ensures.zone.0 (ap is_some c.in-Some.is) in
    let on =
    passes records_first AreRecordsIn all origins i left c.loop-origin.invariant.turn o c.loop-origin-test.true c.origin-item.is n c.records_first.ensures.value
    (subst (λ (l : List ZoneRecord). AreRecordsIn o l) c.split_at.ensures.front is_zone) in
    let mine : AllByRecursion (λ r. r.origin ≡ o) own =
    subst (λ (l : List ZoneRecord). AllByRecursion (λ r. r.origin ≡ o) l) (ap (λ k. take k left) (sym c.records_first.ensures.value) ∙ sym c.split_at.ensures.front) (run_of (λ (r : ZoneRecord). r.origin) o left) in
    let cut = sym ((λ k. c.split_at.ensures.front k ++ c.split_at.ensures.back k) ∙ take-append-drop n left) in
    let made = subst (λ f. IfSome f (λ zone. (zone.origin ≡ o) × (of_zones (built o (map (λ r. r.rr) own)) ≡ Ok zone))) c.in-Some.is c.in_ok-zone.ensures.built in
    record {
      turn = subst (λ (l : List ZoneRecord). AreRecordsInTurn (drop (i + 1) origins) l ↔ all) (sym c.split_at.ensures.back) on;
      done =
          done_more origins c.requires.origins i o c.loop-origin-test.true c.origin-item.is c.args.records.now left own other c.loop-origin.largest c.loop-origin.invariant.done cut mine c.in-Some.zone c.larger-largest.result
          made.0 made.1 c.larger-largest.ensures;
    }

pub returns-clause-zone : goal.returns-clause-zone
returns-clause-zone c =
    done_all c.args.origins.now c.loop-origin.origin-index c.args.records.now c.loop-origin.left.now c.loop-origin.largest c.requires.origins.each c.requires.records c.loop-origin.invariant.done
    (nil_from_length c.loop-origin.left.now (eqb-true (length c.loop-origin.left.now) 0 (sym c.is_empty.ensures ∙ c.if-not-is_empty.false)))
