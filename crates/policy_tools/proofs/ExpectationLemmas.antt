-- Whether a policy is as expected.
use Rattle.std.proofs.Common.{◌≡◌, ◌↔◌, List, Option, Some, None, Result, Ok, Err, IfOk, refl, sym, subst}
use Rattle.std.specs.Prelude.{MatchOption}
use Rattle.grant_policy.specs.declared.rule.Rule.{Rule}
use Rattle.policy_tools.specs.declared.expectation.Expectation.{Expectation}
use Rattle.policy_tools.specs.declared.expectation.Expectation.TheVariants.{Decides, Keeps}
use Rattle.policy_tools.specs.declared.expectation.Limit.{Limit}
use Rattle.policy_tools.specs.declared.expectations.Counterexample.{Counterexample}
use Rattle.policy_tools.specs.declared.expectations.Counterexample.TheVariants.{Decided, Granted}
use Rattle.policy_tools.specs.declared.limits.Excess.{Excess}
use Rattle.policy_tools.specs.Expectations.{Holds, IsAsExpected, IsCounterexample}
use Rattle.policy_tools.specs.Limits.{IsKept, IsExcess}
use Rattle.policy_tools.proofs.LimitLemmas.{excess_not}

example_not : (rules : List Rule) (expectation : Expectation) (example : Counterexample) → IsCounterexample rules expectation example → ¬ Holds rules expectation
example_not rules (Decides expected) (Decided found) is holds = is.1 (subst (IsAsExpected expected) (sym is.0) holds)
example_not rules (Decides expected) (Granted excess) is holds = is
example_not rules (Keeps limit) (Decided found) is holds = is
example_not rules (Keeps limit) (Granted excess) is holds = excess_not rules limit excess is holds

none_exactly : (rules : List Rule) (expectation : Expectation) (found : Option Counterexample) → MatchOption found (Holds rules expectation) (IsCounterexample rules expectation) → (found ≡ None) ↔ Holds rules expectation
none_exactly rules expectation None is = (λ e. is, λ i. refl)
none_exactly rules expectation (Some example) is = (λ none. absurd cc, λ holds. absurd (example_not rules expectation example is holds))

pub exactly : {E : Type 0} (rules : List Rule) (expectation : Expectation) (r : Result (Option Counterexample) E) → IfOk r (λ found. MatchOption found (Holds rules expectation) (IsCounterexample rules expectation)) → IfOk r (λ found. (found ≡ None) ↔ Holds rules expectation)
exactly rules expectation (Ok found) is = none_exactly rules expectation found is
exactly rules expectation (Err e) is = tt

-- what is granted beyond a limit, as a counterexample
pub granted_is : (rules : List Rule) (limit : Limit) (found : Option Excess) (result : Option Counterexample) → MatchOption found (result ≡ None) (λ excess. result ≡ Some (Granted excess)) → MatchOption found (IsKept rules limit) (IsExcess rules limit) → MatchOption result (Holds rules (Keeps limit)) (IsCounterexample rules (Keeps limit))
granted_is rules limit None result e is = subst (λ (o : Option Counterexample). MatchOption o (Holds rules (Keeps limit)) (IsCounterexample rules (Keeps limit))) (sym e) is
granted_is rules limit (Some excess) result e is = subst (λ (o : Option Counterexample). MatchOption o (Holds rules (Keeps limit)) (IsCounterexample rules (Keeps limit))) (sym e) is
