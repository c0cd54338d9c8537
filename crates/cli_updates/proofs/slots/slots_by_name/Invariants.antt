use Rattle.std.proofs.Common.{◌≡◌, ℕ, [], length, get_or, take}
use Rattle.cli_updates.specs.Slots.{tested_place, placed_at, lent, slots_view}
use Rattle.cli_updates.proofs.slots.slots_by_name.Given as goal

abbrev pub invariant-loop-test : goal.invariant-loop-test
invariant-loop-test l = record {
  count : length l.slots.items ≡ length l.tests;
  placed : (k : ℕ) → get_or (slots_view l.slots.items) k [] ≡ placed_at (tested_place (lent l.tests)) (lent (take l.test-index l.tests)) k;
}
