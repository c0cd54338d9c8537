use Rattle.std.proofs.Common.{◌≡◌, ◌≤◌, ◌+◌, length, ap, arith}
use Rattle.grant_policy.specs.Found.{bound_of, question_of}
use Rattle.grant_policy.proofs.DecideLemmas.{ancestor_is, ancestor_none, least_step, least_end, count_step, reached_le}
use Rattle.grant_policy.proofs.deciding.first_match.Goals as goal
use Rattle.grant_policy.proofs.deciding.first_match.Goals.{in-Some, in_default}

pub loop-labels-preserved : goal.loop-labels-preserved
loop-labels-preserved g c =
    let p = question_of c.args.asked in
    let rules = g.T.RuleTable.rules c.args.table.now in
    let n = c.loop-labels.labels in
    let le : n ≤ length p.name = omega (arith, c.ancestor_count-labels-end.ensures) in
    elim c.match-ancestor_key.branch [
      | in-Some w ↦
          let key = ancestor_is p.name n w.in-Some.key.now le w.in-Some.ensures.key in
          let caller = w.as_bytes.ensures.octets in
          let first = w.least_at-found.ensures in
          let second = w.least_at-found-in-Some.ensures in
          let f = w.found-is in
          record {
            found = rw f second.found;
            least = rw f (least_step p rules n (bound_of rules c.loop-labels.found) (bound_of rules w.least_at-found.result) (bound_of rules w.least_at-found-in-Some.result) le first.upto second.upto c.loop-labels.invariant.least (rw key at first.all) (rw (caller, key) at second.all));
            cost = omega (arith, ap g.T.RuleTable.count w.look_ups-is, c.loop-labels.invariant.cost, rw key at first.cost, rw (caller, key) at second.cost, count_step p.caller p.name n le rules first.keys);
            searches = omega (arith, ap g.T.RuleTable.count w.look_ups-is, c.loop-labels.invariant.searches, first.search, second.search);
          }
      | in_default w ↦ absurd (ancestor_none p.name n le w.in_default.ensures.key)
    ]

pub returns-clause-least : goal.returns-clause-least
returns-clause-least g c =
    let p = question_of c.args.asked in
    let rules = g.T.RuleTable.rules c.args.table.now in
    let end : c.loop-labels.labels ≡ length p.name + 1 = omega (arith, c.ancestor_count-labels-end.ensures) in
    least_end p rules c.loop-labels.labels (bound_of rules c.loop-labels.found) end c.loop-labels.invariant.least

pub returns-clause-cost : goal.returns-clause-cost
returns-clause-cost g c =
    let p = question_of c.args.asked in
    let rules = g.T.RuleTable.rules c.args.table.now in
    let end : c.loop-labels.labels ≡ length p.name + 1 = omega (arith, c.ancestor_count-labels-end.ensures) in
    omega (arith, end, c.loop-labels.invariant.cost, reached_le p.caller p.name c.loop-labels.labels rules)

pub returns-clause-searches : goal.returns-clause-searches
returns-clause-searches g c =
    let end : c.loop-labels.labels ≡ length c.args.asked.name.now + 1 = omega (arith, c.ancestor_count-labels-end.ensures) in
    omega (arith, end, c.loop-labels.invariant.searches)
