use Rattle.std.proofs.Common.{◌≡◌, take, drop, None}
use Rattle.std.specs.List.{AllByRecursion}
use Rattle.zone_core.specs.Sets.{set_of}
use Rattle.zone_core.specs.Prerequisites as definitions
use Rattle.zone_core.proofs.verdict.first_set_failed.Given as goal

abbrev pub invariant-loop-item : goal.invariant-loop-item
invariant-loop-item l = record {
  rest : definitions.first_failed (definitions.set_fails (set_of l.records) l.prerequisites) 0 l.prerequisites
      ≡ definitions.first_failed (definitions.set_fails (set_of l.records) l.prerequisites) l.item (drop l.item l.prerequisites);
  held : AllByRecursion (λ p. definitions.set_fails (set_of l.records) l.prerequisites p ≡ None) (take l.item l.prerequisites);
}
