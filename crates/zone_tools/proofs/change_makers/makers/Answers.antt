use Rattle.std.proofs.Common.{◌≡◌, ◌≤◌, ◌-◌, ℕ, List, Vec, Global, length, map, drop, reverse, arith, sym, ap, subst, ◌∙◌}
use Rattle.std.proofs.lemmas.List.{drop_all}
use Rattle.zone_core.specs.declared.change.Change.{Change}
use Rattle.zone_core.specs.Sets.{Records}
use Rattle.zone_core.specs.Changes.{ChangeOf, change_in}
use Rattle.zone_tools.specs.History.{before, undone}
use Rattle.zone_tools.specs.Makers.{AreMakers, AreMakersByParts, zone_read}
use Rattle.zone_tools.specs.Past.{IsPast}
use Rattle.zone_tools.proofs.MakerLemmas.{each_none, past_next, each_next, each_found, of_zones}
use Rattle.zone_tools.proofs.change_makers.makers.Goals as goal

pub loop-at-init : goal.loop-at-init
loop-at-init c =
    let changes = c.args.changes.now in
    let set = c.args.zone.now.records in
    let end : length c.args.changes.now ≤ length c.args.changes.now = omega arith in
    record {
      past = subst (IsPast c.in_ok-past.past) (c.records.ensures.set ∙ ap (λ (cs : List Change). before (map change_in cs) set) (sym (drop_all (length changes) changes end))) c.in_ok-past.ensures;
      found = each_none (λ (s : Records) (x : ChangeOf) (is : List ℕ). AreMakers (zone_read c.args.zone.now.origin s) c.args.updates.now x is) changes set (length changes) c.in_ok-found.found.items end c.in_ok-found.ensures.items;
    }

pub loop-at-preserved : goal.loop-at-preserved
loop-at-preserved c =
    let changes = c.args.changes.now in
    let set = c.args.zone.now.records in
    let at = c.loop-at.at in
    let change = c.index-changes-at.result in
    let fits : c.loop-at.at ≤ length c.args.changes.now = omega arith in
    let after = before (map change_in (drop at changes)) set in
    let past = c.in_ok-undo.ensures after c.loop-at.invariant.past in
    let makers =
    subst (λ o. AreMakers (zone_read o (undone (change_in change) after)) c.args.updates.now (change_in change) c.in_ok-indexes.indexes.items) c.origin-origin.ensures.value (c.in_ok-indexes.ensures (undone (change_in change) after) past) in
    record {
      past = subst (IsPast c.undo.new.past) (past_next changes set at change c.loop-at-test.true fits c.index-changes-at.is) past;
      found = subst (λ (lists : List (Vec ℕ Global)). AreMakersByParts c.args.zone.now.origin c.args.updates.now (map change_in (drop (at - 1) changes)) set (reverse (map (λ (v : Vec ℕ Global). v.items) lists)))
          (sym c.in_ok-push.ensures.items)
          (each_next changes set at change c.loop-at-test.true fits c.index-changes-at.is (λ (s : Records) (x : ChangeOf) (is : List ℕ). AreMakers (zone_read c.args.zone.now.origin s) c.args.updates.now x is)
          c.loop-at.found.items c.in_ok-indexes.indexes c.loop-at.invariant.found makers);
    }

pub returns : goal.returns
returns c =
    let changes = c.args.changes.now in
    let set = c.args.zone.now.records in
    let origin = c.args.zone.now.origin in
    let updates = c.args.updates.now in
    let end : c.loop-at.at ≡ 0 = omega arith in
    let all =
    each_found (λ (s : Records) (x : ChangeOf) (is : List ℕ). AreMakers (zone_read origin s) updates x is) changes set c.loop-at.at c.loop-at.found.items c.reversed.result.items end c.reversed.ensures c.loop-at.invariant.found in
    record {
      exact = all;
      found = of_zones origin updates (map change_in changes) set (map (λ (v : Vec ℕ Global). v.items) c.reversed.result.items) c.in_ok-actors.ensures.updates all;
    }
