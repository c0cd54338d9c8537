use Rattle.std.proofs.Common.{rules, ◌∙◌, ◌++◌, ◌+◌, ℕ, List, ap, subst, drop}
use Rattle.std.proofs.lemmas.List.Sorted.{ranks_by, answers_always}
use Rattle.std.specs.List.Sorted.{IsPermutation}
use Rattle.std.specs.Ordering.{is_lt, nat_cmp}
use Rattle.std.specs.Cmp.Lexicographic.{slice_cmp, nat_list_cmp_total}
use Rattle.grant_policy.specs.Boundaries.{boundaries}
use Rattle.grant_policy.proofs.RegionLemmas.{next_boundaries, all_boundaries}
use Rattle.grant_policy.proofs.boundaries.Boundaries.of.Goals as goal

pub loop-rule-preserved : goal.loop-rule-preserved
loop-rule-preserved c =
    let caller = c.args.caller.now in
    let rules = c.args.rules.now in
    let i = c.loop-rule.rule-index in
    ap (λ (all : List (List ℕ)). all ++ boundaries caller (drop (i + 1) rules)) c.in_ok-push_boundaries_of.ensures
    ∙ next_boundaries caller rules i c.rule-item.result c.loop-rule.sorted.items c.loop-rule-test.true c.rule-item.is
    ∙ c.loop-rule.invariant

pub invariant_of-result : goal.invariant_of-result
invariant_of-result c = c.in_ok-sort_by.ensures.sorted (λ x y. is_lt (slice_cmp nat_cmp x y)) (ranks_by nat_list_cmp_total (λ (b : List ℕ). b)) (answers_always _ _ _ (λ f a r g called. search rules))

pub returns : goal.returns
returns c =
    subst (λ (all : List (List ℕ)). IsPermutation all c.sort_by.new.self.items) (all_boundaries c.args.caller.now c.args.rules.now c.loop-rule.rule-index c.loop-rule.sorted.items c.loop-rule-test.false c.loop-rule.invariant) c.in_ok-sort_by.ensures.permutation
