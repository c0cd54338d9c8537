use Rattle.std.proofs.Common.{◌≡◌, drop, length}
use Rattle.dns_master.specs.Pieces.{line_len}
use Rattle.dns_master.proofs.scan.at_line_end.Given as goal

abbrev pub invariant-loop-rest : goal.invariant-loop-rest
invariant-loop-rest l = drop (line_len l.rest) l.rest ≡ drop (line_len l.text) l.text

abbrev pub decreases-loop-rest : goal.decreases-loop-rest
decreases-loop-rest l = length l.rest
