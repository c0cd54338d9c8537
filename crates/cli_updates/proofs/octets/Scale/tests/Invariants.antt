use Rattle.std.proofs.Common.{◌≡◌, take}
use Rattle.cli_updates.specs.Octets.{tests_octets}
use Rattle.cli_updates.specs.Slots.{lent}
use Rattle.cli_updates.proofs.octets.Scale.tests.Given as goal

abbrev pub invariant-loop-test : goal.invariant-loop-test
invariant-loop-test l = l.octets ≡ tests_octets l.self.id.now (lent (take l.test-index l.tests))
