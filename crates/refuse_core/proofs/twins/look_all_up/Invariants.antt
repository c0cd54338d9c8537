use Rattle.std.proofs.Common.{◌+◌, ◌≤◌}
use Rattle.refuse_core.proofs.twins.look_all_up.Given as goal

abbrev pub invariant-loop : goal.invariant-loop
invariant-loop l = l.initial.look_ups.count + l.index ≤ l.look_ups.count
