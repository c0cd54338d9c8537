use Rattle.std.proofs.Common.{◌<◌, ◌∙◌, length, map, arith}
use Rattle.std.proofs.lemmas.Result.{err_from_is_err_and}
use Rattle.grant_policy.proofs.ReadLemmas.{mapped_here}
use Rattle.policy_build.specs.Entries.{entry_of}
use Rattle.policy_build.specs.Making.{made_of, pair_of}
use Rattle.policy_build.proofs.LoopLemmas.{Refuses-on, numbered_more, numbered_stop}
use Rattle.policy_build.proofs.building.push_rules.Goals as goal

pub loop-i-preserved : goal.loop-i-preserved
loop-i-preserved c =
    let pairs = c.args.pairs.now in
    let i = c.loop-i.i in
    let pair = c.index-pairs-i.result in
    let lt : i < length pairs = omega arith in
    let at = mapped_here pair_of pairs i pair lt c.index-pairs-i.is in
    c.loop-i.invariant ∙ numbered_more (entry_of c.args.entry.now) c.args.number (length pairs) (map pair_of pairs) (map made_of c.loop-i.rules.items) i (pair_of pair) (map made_of c.push_rule.new.rules.items) at c.in_ok-push_rule.ensures

pub returns-in_err-push_rule : goal.returns-in_err-push_rule
returns-in_err-push_rule c =
    let p = err_from_is_err_and c.from_residual.result c.from_residual.ensures.1 in
    let pairs = c.args.pairs.now in
    let i = c.loop-i.i in
    let pair = c.index-pairs-i.result in
    let lt : i < length pairs = omega arith in
    let at = mapped_here pair_of pairs i pair lt c.index-pairs-i.is in
    rw (p.1, p.2) (Refuses-on _ _ _ (λ fault e. c.loop-i.invariant ∙ numbered_stop (entry_of c.args.entry.now) c.args.number (length pairs) (map pair_of pairs) (map made_of c.loop-i.rules.items) i (pair_of pair) fault at e) c.in_err-push_rule.ensures)
