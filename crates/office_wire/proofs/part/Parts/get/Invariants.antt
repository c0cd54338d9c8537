use Rattle.std.proofs.Common.{◌≡◌, length}
use Rattle.office_wire.specs.Parts.{part}
use Rattle.office_wire.proofs.part.Parts.get.Given as goal

abbrev pub invariant-loop-route : goal.invariant-loop-route
invariant-loop-route l = part l.route l.path l.name ≡ part l.self.route.now l.self.path.now l.name

abbrev pub decreases-loop-route : goal.decreases-loop-route
decreases-loop-route l = length l.route
