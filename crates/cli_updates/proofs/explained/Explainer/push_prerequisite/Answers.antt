use Rattle.dns_data.specs.declared.record_type.RecordType.TheVariants.{A}
use Rattle.dns_data.specs.Types.{kept_types}
use Rattle.zone_core.specs.declared.update.ItemList.TheVariants as lists
use Rattle.zone_core.specs.Updates.{place_in, tested_name}
use Rattle.office_core.specs.Footprints.{prerequisite_action}
use Rattle.cli_updates.proofs.ExplainedLemmas.{gone_on, next_type, of_item, of_point, types_ended}
use Rattle.cli_updates.proofs.explained.Explainer.push_prerequisite.Goals as goal

pub loop-record_type-preserved : goal.loop-record_type-preserved
loop-record_type-preserved c =
    let form = c.args.self.form in
    let rules = c.args.self.policy.now in
    let caller = c.args.self.caller.now in
    let place = place_in lists.Prerequisites c.args.item in
    let asks = prerequisite_action c.args.prerequisite.now in
    let l = c.loop-record_type in
    let line = of_point form rules caller place _ _ asks _ _ _ _ c.name-name.ensures c.prerequisite_asks-action.ensures.exact c.in_ok-push_if.ensures in
    gone_on form rules caller _ _ _ _ _ _ l.invariant (next_type form rules caller place (tested_name c.args.prerequisite.now) asks kept_types l.record_type-index A c.loop-record_type-test.true) line

pub returns : goal.returns
returns c =
    let form = c.args.self.form in
    let rules = c.args.self.policy.now in
    let caller = c.args.self.caller.now in
    let place = place_in lists.Prerequisites c.args.item in
    let asks = prerequisite_action c.args.prerequisite.now in
    of_item form rules caller place _ asks _ _ (types_ended form rules caller place (tested_name c.args.prerequisite.now) asks kept_types c.loop-record_type.record_type-index _ _ c.loop-record_type-test.false c.loop-record_type.invariant)
