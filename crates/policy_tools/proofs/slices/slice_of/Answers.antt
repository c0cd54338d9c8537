use Rattle.std.proofs.Common.{subst, sym}
use Rattle.grant_policy.specs.Documents.{AreRules}
use Rattle.policy_tools.proofs.SliceLemmas.{slice_rules, slice_same}
use Rattle.policy_tools.proofs.slices.slice_of.Goals as goal

pub returns-clause-same : goal.returns-clause-same
returns-clause-same c = rw (← c.rules.ensures.rules) (slice_same c.args.origins.now c.rules.result.now c.slice_among.result c.slice_among.ensures)

pub returns-clause-policy : goal.returns-clause-policy
returns-clause-policy c =
    slice_rules c.args.origins.now c.rules.result.now c.slice_among.result (subst AreRules (sym c.rules.ensures.rules) c.rules.ensures.policy) c.slice_among.ensures
