use Rattle.std.proofs.Common.{◌≡◌, take}
use Rattle.zone_core.specs.Sets.{set_of, part, minus}
use Rattle.zone_core.specs.Effects.{effects}
use Rattle.zone_core.proofs.ChangeLemmas.{touched}
use Rattle.zone_core.proofs.change.changes.Given as goal

abbrev pub invariant-loop-i : goal.invariant-loop-i
invariant-loop-i l =
    (set_of l.change.removed.items ≡ part (minus (set_of l.records) (effects l.origin (set_of l.records) l.operations)) (touched (take l.i l.operations)))
    × (set_of l.change.added.items ≡ part (minus (effects l.origin (set_of l.records) l.operations) (set_of l.records)) (touched (take l.i l.operations)))
