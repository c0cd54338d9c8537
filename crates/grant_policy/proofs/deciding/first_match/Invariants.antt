use Rattle.std.proofs.Common.{◌≡◌, ◌+◌, ◌*◌, ◌<◌, ◌≤◌, ℕ, length, slice_index_or, count_by, true}
use Rattle.grant_policy.specs.Rules.{matches}
use Rattle.grant_policy.specs.Found.{IsFound, bound_of, question_of}
use Rattle.grant_policy.specs.declared.rule.Rule.{Rule}
use Rattle.grant_policy.proofs.DecideLemmas.{reached}
use Rattle.grant_policy.proofs.deciding.first_match.Given as goal

abbrev pub invariant-loop-labels : goal.invariant-loop-labels
invariant-loop-labels g l =
    let p = question_of l.asked in
    let rules = g.T.RuleTable.rules l.table in
    record {
      found : IsFound p rules l.found;
      least : (i : ℕ) (d : Rule) → i < length rules → length (slice_index_or rules i d).at < l.labels → matches p (slice_index_or rules i d) ≡ true → bound_of rules l.found ≤ i;
      cost : g.T.RuleTable.count l.look_ups ≤ g.T.RuleTable.count l.fn.look_ups + 2 * l.labels + count_by (reached p.caller p.name l.labels) rules;
      searches : g.T.RuleTable.count l.fn.look_ups + 2 * l.labels ≤ g.T.RuleTable.count l.look_ups;
    }
