use Rattle.std.proofs.Common.{length}
use Rattle.dns_master.proofs.ReadLemmas.{Follows}
use Rattle.dns_master.proofs.entry.check_rest.Given as goal

abbrev pub invariant-loop-rest : goal.invariant-loop-rest
invariant-loop-rest l = Follows l.text l.rest

abbrev pub decreases-loop-rest : goal.decreases-loop-rest
decreases-loop-rest l = length l.rest
