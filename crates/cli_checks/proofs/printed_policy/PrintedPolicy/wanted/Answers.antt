use Rattle.std.proofs.Common.{map, Bor, Vec, Global, subst, sym}
use Rattle.std.specs.List.{All}
use Rattle.std.proofs.lemmas.Result.{IfOk-weaker}
use Rattle.grant_policy.specs.declared.rule.Rule.{Rule}
use Rattle.policy_build.specs.Selections.{SelectsSome}
use Rattle.policy_tools.specs.Slices.{Matters}
use Rattle.cli_checks.specs.declared.printed_policy.PrintedPolicy.TheInside.{Inside}
use Rattle.cli_checks.proofs.PrintedLemmas.{all_wanted}
use Rattle.cli_checks.proofs.printed_policy.PrintedPolicy.wanted.Goals as goal

pub returns-in-Some-clause-selects : goal.returns-in-Some-clause-selects
returns-in-Some-clause-selects c =
    IfOk-weaker c.slice_of.result _ _
    (λ (slice : Vec (Bor Rule) Global) are. all_wanted (Matters c.deref.result.now) SelectsSome _ (map (λ (rule : Bor Rule). rule.now) slice.items) are (subst (λ (p : Inside). All SelectsSome p.policy) (sym c.self-inside.view_is) c.self.invariant))
    c.slice_of.ensures.kept
