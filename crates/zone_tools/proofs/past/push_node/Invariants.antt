use Rattle.std.proofs.Common.{◌≡◌, ◌++◌, map}
use Rattle.zone_tools.proofs.past.push_node.Given as goal

abbrev pub invariant-loop-held : goal.invariant-loop-held
invariant-loop-held l = l.rows.items ≡ l.fn.rows.items ++ map (λ h. h.now) l.yielded
