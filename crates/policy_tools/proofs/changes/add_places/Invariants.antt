use Rattle.std.proofs.Common.{◌≡◌, ◌++◌, map, take}
use Rattle.policy_tools.specs.Changes.{place_of}
use Rattle.policy_tools.proofs.changes.add_places.Given as goal

-- the rules at the names so far are added
abbrev pub invariant-loop-rule : goal.invariant-loop-rule
invariant-loop-rule l = l.places.items ≡ l.initial.places.items ++ map place_of (take l.rule-index l.rules)
