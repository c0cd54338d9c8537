use Rattle.std.proofs.Common.{◌≡◌, [], length, map}
use Rattle.toml.specs.View.{table_view}
use Rattle.grant_policy.specs.Reading.{SameIds, rules_of, AreNamedIn}
use Rattle.grant_policy.proofs.ReadLemmas.{rules_from}
use Rattle.grant_policy.proofs.document.read_rules.Given as goal

-- the rules so far stand before those of the other tables, and their ids were seen
abbrev pub invariant-loop-i : goal.invariant-loop-i
invariant-loop-i l =
    let mss = map (λ t. table_view t.now) l.tables in
    record {
      count : length l.rules.items ≡ l.i;
      seen : SameIds l.ids (map (λ rule. rule.id) l.rules.items);
      read : rules_of [] mss ≡ rules_from mss l.rules.items l.i;
      named : AreNamedIn l.rules.items mss;
    }
