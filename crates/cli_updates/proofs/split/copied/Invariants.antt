use Rattle.std.proofs.Common.{◌≡◌, take}
use Rattle.cli_updates.specs.Slots.{lent}
use Rattle.cli_updates.proofs.split.copied.Given as goal

abbrev pub invariant-loop-test : goal.invariant-loop-test
invariant-loop-test l = l.all.items ≡ lent (take l.test-index l.tests)
