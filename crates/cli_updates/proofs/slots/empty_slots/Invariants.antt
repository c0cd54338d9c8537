use Rattle.std.proofs.Common.{◌≡◌, ℕ, [], length, get_or}
use Rattle.cli_updates.specs.Slots.{slots_view}
use Rattle.cli_updates.proofs.slots.empty_slots.Given as goal

abbrev pub invariant-loop : goal.invariant-loop
invariant-loop l = record { count : length l.slots.items ≡ l.counter; empty : (k : ℕ) → get_or (slots_view l.slots.items) k [] ≡ [] }
