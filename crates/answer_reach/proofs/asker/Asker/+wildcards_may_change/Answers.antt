use Rattle.std.proofs.Common.{sym, ◌∙◌}
use Rattle.zone_core.specs.Sets.{listing}
use Rattle.answer_reach.proofs.WildcardLemmas.{one_may, others_may}
use Rattle.answer_reach.proofs.asker.Asker.+wildcards_may_change.Goals as goal

pub returns-then-branch : goal.returns-then-branch
returns-then-branch t c =
    let s = c.args.self.now in
    one_may s.rights.now.rules s.rights.now.caller s.index.now.origin (listing s.index.now.records) c.args.lists.now c.args.asked c.args.name.now c.in-Some.above (sym c.in-Some.is ∙ c.in_ok-above.ensures)
    (sym c.in_ok-wildcard_beside.ensures ∙ c.if-branch.true)

pub returns : goal.returns
returns t c =
    let s = c.args.self.now in
    others_may s.rights.now.rules s.rights.now.caller s.index.now.origin (listing s.index.now.records) c.args.lists.now c.args.asked c.args.name.now c.in-Some.above (sym c.in-Some.is ∙ c.in_ok-above.ensures)
    (sym c.in_ok-wildcard_beside.ensures ∙ c.if-branch.false) c.wildcards_may_change.result c.wildcards_may_change.ensures
