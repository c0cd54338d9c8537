use Rattle.std.proofs.Common.{◌≡◌, subst, ◌∙◌}
use Rattle.std.proofs.lemmas.Result.{IfOk-weaker}
use Rattle.zone_core.specs.Zones.{IsZone}
use Rattle.zone_core.proofs.AdvancedLemmas.{advanced, advanced_fits, advanced_made, advanced_gives}
use Rattle.zone_core.proofs.zone.Zone.advanced.Goals as goal

pub changed-requires-clause-fits : goal.changed-requires-clause-fits
changed-requires-clause-fits c =
    let made = c.in_ok-change.ensures in
    advanced_fits c.args.self (subst IsZone c.self.view_is c.self.invariant.zone) c.soa.result.now c.soa.ensures.value
    c.in_ok-change.change.removed.items c.in_ok-change.change.added.items made.removed made.added

pub changed-requires-clause-zone : goal.changed-requires-clause-zone
changed-requires-clause-zone c =
    let made = c.in_ok-change.ensures in
    advanced_made c.args.self (subst IsZone c.self.view_is c.self.invariant.zone) c.soa.result.now c.soa.ensures.value
    c.in_ok-change.change.removed.items c.in_ok-change.change.added.items made.removed made.added

pub returns : goal.returns
returns c =
    let made = c.in_ok-change.ensures in
    let gives =
    advanced_gives c.args.self (subst IsZone c.self.view_is c.self.invariant.zone) c.soa.result.now c.soa.ensures.value
    c.in_ok-change.change.removed.items c.in_ok-change.change.added.items made.removed made.added in
    IfOk-weaker c.changed.result _ (λ zone. zone ≡ advanced c.args.self) (λ zone e. e ∙ gives) c.changed.ensures
