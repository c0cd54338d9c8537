use Rattle.std.proofs.Common.{◌+◌, ◌≤◌, length, take}
use Rattle.policy_tools.specs.Limits.{AddsPlaces}
use Rattle.policy_tools.proofs.limits.add_places_within.Given as goal

-- places of the rules so far are added
abbrev pub invariant-loop-rule : goal.invariant-loop-rule
invariant-loop-rule l = record {
  added : AddsPlaces (take l.rule-index l.rules) l.top l.initial.places.items l.places.items;
  few : length l.places.items ≤ length l.initial.places.items + l.rule-index;
}
