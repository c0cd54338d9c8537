use Rattle.std.proofs.Common.{◌≡◌, ◌+◌, ◌≤◌, length, drop}
use Rattle.std.specs.Net.Text.{zero_run, longest_zero_run}
use Rattle.dns_data.proofs.address_text.longest_zero_run.Given as goal

-- what is counted and found is of the segments from `at` on
abbrev pub invariant-loop-at : goal.invariant-loop-at
invariant-loop-at l =
    (l.run ≡ zero_run (drop l.at l.segments)) × (l.len ≡ (longest_zero_run (drop l.at l.segments)).1)
    × (l.start ≡ l.at + (longest_zero_run (drop l.at l.segments)).0) × (l.at + l.run ≤ length l.segments)
    × (l.start + l.len ≤ length l.segments)
