use Rattle.std.proofs.Common.{◌≡◌, take}
use Rattle.std.specs.List.{flat_map}
use Rattle.answer_reach.specs.Rights.{changed_within}
use Rattle.answer_reach.proofs.rights.changed_names.Given as goal

abbrev pub invariant-loop-rule : goal.invariant-loop-rule
invariant-loop-rule l = l.names.items ≡ flat_map (changed_within l.caller) (take l.rule-index l.rules)
