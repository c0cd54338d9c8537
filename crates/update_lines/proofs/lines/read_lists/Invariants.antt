use Rattle.std.proofs.Common.{◌≡◌, ◌≤◌, ◌-◌, map, length, drop}
use Rattle.dns_master.specs.Tokens.{token_of}
use Rattle.update_lines.specs.Reading.{lists_in}
use Rattle.update_lines.specs.Views.{gathered, lists_view}
use Rattle.update_lines.proofs.GatherLemmas.{then_lists}
use Rattle.update_lines.proofs.lines.read_lists.Given as goal

abbrev pub invariant-loop-at : goal.invariant-loop-at
invariant-loop-at l = record {
  within : l.at ≤ length l.tokens;
  read : lists_in (gathered (map token_of l.tokens)) ≡ then_lists (lists_view l.lists) (lists_in (gathered (map token_of (drop l.at l.tokens))));
}

abbrev pub decreases-loop-at : goal.decreases-loop-at
decreases-loop-at l = length l.tokens - l.at
