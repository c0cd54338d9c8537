use Rattle.std.proofs.Common.{◌≡◌, take}
use Rattle.zone_tools.proofs.change_makers.are_equal.Given as goal

-- the first records are equal
abbrev pub invariant-loop-i : goal.invariant-loop-i
invariant-loop-i l = take l.i l.rows ≡ take l.i l.others
