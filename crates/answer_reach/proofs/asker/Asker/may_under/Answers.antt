use Rattle.std.proofs.Common.{sym, ◌∙◌}
use Rattle.answer_reach.proofs.RightsLemmas.{not_may_under}
use Rattle.answer_reach.proofs.asker.Asker.may_under.Goals as goal

pub returns-then-not-may_grant : goal.returns-then-not-may_grant
returns-then-not-may_grant c =
    sym (not_may_under c.args.self.now.rights.now.rules c.args.self.now.rights.now.caller c.args.above.now (sym c.may_grant.ensures ∙ c.if-not-may_grant.true) c.args.change c.args.record_type c.requires)
