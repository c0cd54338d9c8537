use Rattle.std.proofs.Common.{◌∙◌}
use Rattle.zone_core.specs.Zones.{ZoneOf}
use Rattle.zone_core.specs.Changes.{changed}
use Rattle.zone_core.proofs.OutcomeLemmas.{of_zone}
use Rattle.zone_core.proofs.zone.Zone.changed.Goals as goal

pub of_rows-requires : goal.of_rows-requires
of_rows-requires c =
    let after : ZoneOf = record c.args.self { records = changed c.args.self.records c.args.change.now.removed.items c.args.change.now.added.items } in
    let parts = c.into_parts-origin.ensures in
    let merged = rw (c.deref.ensures.value, c.deref-2.ensures.value) at c.in_ok-rows.ensures in
    (of_zone after c.requires.zone c.into_parts-origin.result.0 c.in_ok-rows.rows.items parts.origin (merged c.args.self.records parts.rows c.requires.fits)).0

pub returns : goal.returns
returns c =
    let after : ZoneOf = record c.args.self { records = changed c.args.self.records c.args.change.now.removed.items c.args.change.now.added.items } in
    let parts = c.into_parts-origin.ensures in
    let merged = rw (c.deref.ensures.value, c.deref-2.ensures.value) at c.in_ok-rows.ensures in
    c.of_rows.ensures
    ∙ (of_zone after c.requires.zone c.into_parts-origin.result.0 c.in_ok-rows.rows.items parts.origin (merged c.args.self.records parts.rows c.requires.fits)).1
