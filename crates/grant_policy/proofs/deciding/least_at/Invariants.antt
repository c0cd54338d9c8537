use Rattle.std.proofs.Common.{◌≡◌, ◌+◌, ◌<◌, ◌≤◌, ℕ, slice_index_or, true}
use Rattle.grant_policy.specs.Rules.{matches}
use Rattle.grant_policy.specs.Index.{RowOf}
use Rattle.grant_policy.specs.Found.{IsFound, bound_of, question_of}
use Rattle.grant_policy.specs.declared.rule.Rule.{Rule}
use Rattle.grant_policy.proofs.deciding.least_at.Given as goal

abbrev pub invariant-loop-row : goal.invariant-loop-row
invariant-loop-row g l =
    let p = question_of l.asked in
    let rules = g.T.RuleTable.rules l.table in
    record {
      found : IsFound p rules l.found;
      upto : bound_of rules l.found ≤ bound_of rules l.fn.so_far;
      all : (k : ℕ) (e : RowOf) (d : Rule) → k < l.row-index → matches p (slice_index_or rules (slice_index_or l.row-items k e).number d) ≡ true → bound_of rules l.found ≤ (slice_index_or l.row-items k e).number;
      counted : g.T.RuleTable.count l.initial.look_ups ≤ g.T.RuleTable.count l.look_ups;
      cost : g.T.RuleTable.count l.look_ups ≤ g.T.RuleTable.count l.initial.look_ups + l.row-index;
    }
