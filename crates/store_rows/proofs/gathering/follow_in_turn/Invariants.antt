use Rattle.std.proofs.Common.{◌≡◌, drop}
use Rattle.store_rows.specs.ChangeRows.{follow_in_turn}
use Rattle.store_rows.proofs.gathering.follow_in_turn.Given as goal

abbrev pub invariant-loop-next : goal.invariant-loop-next
invariant-loop-next l = follow_in_turn l.before (drop l.next-index l.others) ≡ follow_in_turn l.fn.first l.fn.others
