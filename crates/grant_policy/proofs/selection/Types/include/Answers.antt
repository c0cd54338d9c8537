use Rattle.std.proofs.Common.{rules}
use Rattle.std.specs.Bool.{Decides}
use Rattle.std.specs.List.{Contains}
use Rattle.std.proofs.lemmas.Bool.Decides.{same_from_decides}
use Rattle.grant_policy.specs.Rules.{same_type}
use Rattle.grant_policy.proofs.WordLemmas.{same_type-Decides}
use Rattle.grant_policy.proofs.RuleLemmas.{list_any-Decides}
use Rattle.grant_policy.proofs.selection.Types.include.Goals as goal

pub returns-in-Some-clause-value : goal.returns-in-Some-clause-value
returns-in-Some-clause-value c =
    let listed = c.in-Some.listed.items in
    let told : Decides c.contains.result (Contains listed c.args.record_type) = search rules in
    rw (← c.self.view_is, c.in-Some.is) (same_from_decides _ _ told (list_any-Decides same_type same_type-Decides c.args.record_type listed))
