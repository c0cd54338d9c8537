use Rattle.std.proofs.Common.{◌≡◌, ℕ, [], length, get_or, take}
use Rattle.cli_updates.specs.Slots.{acted_place, unplaced, placed_at, lent, slots_view}
use Rattle.cli_updates.proofs.slots.place_tests.Given as goal

abbrev pub invariant-loop-test : goal.invariant-loop-test
invariant-loop-test l = record {
  count : length l.placed.beside.items ≡ length l.operations;
  before : lent l.placed.before.items ≡ unplaced l.operations (take l.test-index l.tests);
  beside : (k : ℕ) → get_or (slots_view l.placed.beside.items) k [] ≡ placed_at (acted_place l.operations) (take l.test-index l.tests) k;
}
