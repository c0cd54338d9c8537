use Rattle.std.proofs.Common.{◌≡◌, refl, sym, subst, ◌∙◌}
use Rattle.zone_core.specs.Sets.{minus, AreRows}
use Rattle.zone_core.specs.Zones.{ZoneOf, IsZone}
use Rattle.zone_core.specs.Accounts.{Leaves}
use Rattle.zone_core.specs.Effects.{zone_after}
use Rattle.zone_core.specs.Versions.{Advances}
use Rattle.zone_core.proofs.ChangedLemmas.{zone_fits, zone_gives, zone_made}
use Rattle.zone_core.proofs.LeaveLemmas.{updates_leave, updates_advance}
use Rattle.zone_core.proofs.VersionLemmas.{updates_keep}
use Rattle.zone_core.proofs.outcome.apply_owned.Goals as goal

pub changed-requires-clause-fits : goal.changed-requires-clause-fits
changed-requires-clause-fits c =
    let before = c.args.zone in
    let after : ZoneOf = zone_after before c.args.update.now in
    let made = c.in_ok-change.ensures in
    zone_fits before after made.zone (updates_keep before c.args.update.now made.zone made.update c.requires) refl c.in_ok-change.change.removed.items c.in_ok-change.change.added.items made.removed made.added

pub changed-requires-clause-zone : goal.changed-requires-clause-zone
changed-requires-clause-zone c =
    let before = c.args.zone in
    let after : ZoneOf = zone_after before c.args.update.now in
    let made = c.in_ok-change.ensures in
    zone_made before after made.zone (updates_keep before c.args.update.now made.zone made.update c.requires) refl c.in_ok-change.change.removed.items c.in_ok-change.change.added.items made.removed made.added

zone_is : (c : goal.In_ok-after) → c.in_ok-after.after ≡ zone_after c.args.zone c.args.update.now
zone_is c =
    let before = c.args.zone in
    let after : ZoneOf = zone_after before c.args.update.now in
    let made = c.in_ok-change.ensures in
    c.in_ok-after.ensures
    ∙ zone_gives before after made.zone (updates_keep before c.args.update.now made.zone made.update c.requires) refl c.in_ok-change.change.removed.items c.in_ok-change.change.added.items made.removed made.added

pub returns-clause-zone : goal.returns-clause-zone
returns-clause-zone c = zone_is c

pub returns-clause-kept : goal.returns-clause-kept
returns-clause-kept c = subst IsZone (sym (zone_is c)) (updates_keep c.args.zone c.args.update.now c.in_ok-change.ensures.zone c.in_ok-change.ensures.update c.requires)

pub returns-clause-left : goal.returns-clause-left
returns-clause-left c =
    subst (Leaves c.args.zone c.args.update.now) (sym (zone_is c)) (updates_leave c.args.zone c.args.update.now c.in_ok-change.ensures.zone c.in_ok-change.ensures.update c.requires)

pub returns-clause-serial : goal.returns-clause-serial
returns-clause-serial c =
    subst (Advances c.args.zone c.args.update.now) (sym (zone_is c)) (updates_advance c.args.zone c.args.update.now c.in_ok-change.ensures.zone c.in_ok-change.ensures.update c.requires)

pub returns-clause-removed : goal.returns-clause-removed
returns-clause-removed c = subst (λ (z : ZoneOf). AreRows c.in_ok-change.change.removed.items (minus c.args.zone.records z.records)) (sym (zone_is c)) c.in_ok-change.ensures.removed

pub returns-clause-added : goal.returns-clause-added
returns-clause-added c = subst (λ (z : ZoneOf). AreRows c.in_ok-change.change.added.items (minus z.records c.args.zone.records)) (sym (zone_is c)) c.in_ok-change.ensures.added
