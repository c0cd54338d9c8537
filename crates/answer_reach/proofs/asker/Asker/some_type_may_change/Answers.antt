use Rattle.std.proofs.Common.{sym, ◌∙◌}
use Rattle.zone_core.specs.Sets.{listing}
use Rattle.answer_reach.proofs.RightsLemmas.{none_changes}
use Rattle.answer_reach.proofs.asker.Asker.some_type_may_change.Goals as goal

pub returns-then-not-may_grant : goal.returns-then-not-may_grant
returns-then-not-may_grant c =
    sym (none_changes c.args.self.now.rights.now.rules c.args.self.now.rights.now.caller c.args.name.now (sym c.may_grant.ensures ∙ c.if-not-may_grant.true) c.args.self.now.index.now.origin (listing c.args.self.now.index.now.records) c.args.asked)
