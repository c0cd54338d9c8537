use Rattle.std.proofs.Common.{◌≡◌, ◌<◌, ℕ, true, length, get_or, sym, ap, ◌∙◌, subst, arith}
use Rattle.std.proofs.lemmas.Bool.{both_ways}
use Rattle.std.specs.Option.{option_copied}
use Rattle.grant_policy.specs.Rules.{matches}
use Rattle.grant_policy.specs.Index.{RowOf}
use Rattle.grant_policy.specs.Found.{bound_of, question_of}
use Rattle.grant_policy.proofs.DecideLemmas.{less_than, not_less_than, row_more}
use Rattle.grant_policy.proofs.deciding.least_at.Goals as goal
use Rattle.grant_policy.proofs.deciding.least_at.Goals.{then-is_less+then-matches, then-is_less+else-matches, else-is_less}

pub returns-clause-all : goal.returns-clause-all
returns-clause-all g c = λ i d lt e m.
    let named = c.search-row-items.ensures.all i d lt e in
    let row : RowOf = record { place = record { caller = option_copied c.args.group; key = c.args.key.now }; number = 0 } in
    let n = named.is row in
    let low = c.loop-row.invariant.all named.place row d (omega (arith, named.below)) (subst (λ (k : ℕ). matches (question_of c.args.asked) (get_or (g.T.RuleTable.rules c.args.table.now) k d) ≡ true) (sym n) m) in
    omega (arith, n, low)

pub loop-row-preserved : goal.loop-row-preserved
loop-row-preserved g c =
    let p = question_of c.args.asked in
    let rules = g.T.RuleTable.rules c.args.table.now in
    let rows = c.search-row-items.result.now in
    let n = c.loop-row.row-index in
    let row = c.row-item.result in
    let found = c.loop-row.found in
    let lt = c.loop-row-test.true in
    let is = c.row-item.is in
    let so_far = c.loop-row.invariant in
    let same = c.number-number.ensures in
    elim c.if-is_less.branch [
      | then-is_less+then-matches w ↦
          let below = subst (λ (r : RowOf). r.number < length rules) (sym is) (c.search-row-items.ensures.rows n row lt).below in
          let less = less_than rules c.number-number.result found (sym c.is_less.ensures ∙ w.if-is_less.true) (omega (arith, same, below)) in
          rw (w.found-is, w.look_ups-is) (record {
            found = record { below = omega (arith, same, below); is = w.rule-rule.ensures.value; matching = sym w.matches.ensures.value ∙ w.if-matches.true };
            upto = omega (arith, less, so_far.upto);
            all = row_more p rules rows n row (bound_of rules found) c.number-number.result lt is less so_far.all (λ d m. omega (arith, same));
            counted = omega (arith, w.rule-rule.ensures.cost, so_far.counted);
            cost = omega (arith, w.rule-rule.ensures.cost, so_far.cost);
          })
      | then-is_less+else-matches w ↦
          rw (w.found-is, w.look_ups-is) (record {
            found = so_far.found;
            upto = so_far.upto;
            all = row_more p rules rows n row (bound_of rules found) (bound_of rules found) lt is (omega arith) so_far.all
                (λ d m. absurd (both_ways w.matches.result w.if-matches.false (w.matches.ensures.value ∙ ap (matches p) (w.rule-rule.ensures.value d ∙ ap (λ (k : ℕ). get_or rules k d) same) ∙ m)));
            counted = omega (arith, w.rule-rule.ensures.cost, so_far.counted);
            cost = omega (arith, w.rule-rule.ensures.cost, so_far.cost);
          })
      | else-is_less w ↦
          let more = not_less_than rules c.number-number.result found (sym c.is_less.ensures ∙ w.if-is_less.false) in
          rw (w.found-is, w.look_ups-is) (record {
            found = so_far.found;
            upto = so_far.upto;
            all = row_more p rules rows n row (bound_of rules found) (bound_of rules found) lt is (omega arith) so_far.all (λ d m. omega (arith, more, same));
            counted = so_far.counted;
            cost = omega (arith, so_far.cost);
          })
    ]
