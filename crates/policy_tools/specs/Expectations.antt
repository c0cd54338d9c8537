-- What is expected of a policy, and whether it is so.
use Rattle.std.specs.Prelude.{◌≡◌, List, IfSome}
use Rattle.grant_policy.specs.declared.rule.Rule.{Rule}
use Rattle.grant_policy.specs.Decisions.{Verdict, decision, decider, is_granted, verdict_of}
use Rattle.grant_policy.specs.Isolated.{question}
use Rattle.policy_tools.specs.declared.expectation.ExpectedDecision.{ExpectedDecision}
use Rattle.policy_tools.specs.declared.expectation.Expectation.{Expectation}
use Rattle.policy_tools.specs.declared.expectation.Expectation.TheVariants.{Decides, Keeps}
use Rattle.policy_tools.specs.declared.expectations.Counterexample.{Counterexample}
use Rattle.policy_tools.specs.declared.expectations.Counterexample.TheVariants.{Decided, Granted}
use Rattle.policy_tools.specs.NameRights.{does_grant}
use Rattle.policy_tools.specs.Limits.{IsKept, IsExcess}

-- what a policy decides of the question
abbrev pub decided_of : List Rule → ExpectedDecision → Verdict
decided_of rules expected = decision (question expected.caller expected.name expected.record_type expected.action) rules

-- it is the grant or the denial that is expected, by the rule that is named, if one is
pub record IsAsExpected (expected : ExpectedDecision) (verdict : Verdict) : Type 0 where
  pub effect : is_granted verdict ≡ does_grant expected.effect
  pub rule : IfSome expected.rule (λ id. decider verdict ≡ id)

-- a policy is as expected
abbrev pub Holds : List Rule → Expectation → Type 0
Holds rules (Decides expected) = IsAsExpected expected (decided_of rules expected)
Holds rules (Keeps limit) = IsKept rules limit

-- what shows that it is not: another decision, or what is granted beyond a limit
abbrev pub IsCounterexample : List Rule → Expectation → Counterexample → Type 0
IsCounterexample rules (Decides expected) (Decided found) = (verdict_of found ≡ decided_of rules expected) × (¬ IsAsExpected expected (verdict_of found))
IsCounterexample rules (Keeps limit) (Granted excess) = IsExcess rules limit excess
IsCounterexample rules expectation example = ⊥
