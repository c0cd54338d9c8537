use Rattle.std.proofs.Common.{◌≡◌, ◌+◌, ◌≤◌, length}
use Rattle.dns_names.specs.Reading.{Pieces, cut}
use Rattle.dns_names.specs.Rows.{AreKept}
use Rattle.dns_names.proofs.CutLemmas.{continued}
use Rattle.dns_names.proofs.pieces.PieceRows.cut.Given as goal

-- the pieces so far, of which the rows keep what fits, and which the rest of the text continues
abbrev pub invariant-loop-rest : goal.invariant-loop-rest
invariant-loop-rest l =
    (given : Pieces) × AreKept l.self given × (continued given.ended given.last l.rest ≡ cut l.text)
    × (l.self.total + l.self.ended + length l.rest ≤ length l.text)

abbrev pub decreases-loop-rest : goal.decreases-loop-rest
decreases-loop-rest l = length l.rest
