use Rattle.std.proofs.Common.{drop, map, reverse}
use Rattle.zone_core.specs.Changes.{change_in}
use Rattle.zone_tools.specs.History.{before}
use Rattle.zone_tools.specs.Makers.{AreMakersByParts}
use Rattle.zone_tools.specs.Past.{IsPast}
use Rattle.zone_tools.proofs.change_makers.makers.Given as goal

-- the changes from `at` on are undone, and their makers found, the last ones first
abbrev pub invariant-loop-at : goal.invariant-loop-at
invariant-loop-at l = record {
  past : IsPast l.past (before (map change_in (drop l.at l.changes)) l.zone.records);
  found : AreMakersByParts l.zone.origin l.updates (map change_in (drop l.at l.changes)) l.zone.records (reverse (map (λ v. v.items) l.found.items));
}
