use Rattle.std.proofs.Common.{◌≡◌, ◌++◌, ℕ, List, sym, ap, ◌∙◌, subst}
use Rattle.std.specs.List.{list_any}
use Rattle.std.specs.List.Sorted.{IsPermutation}
use Rattle.std.specs.Option.{option_to_list}
use Rattle.std.proofs.lemmas.List.{take_all}
use Rattle.std.proofs.lemmas.List.Sorted.{list_any-IsPermutation}
use Rattle.dns_names.specs.Labels.{is_within}
use Rattle.grant_policy.specs.Reach.{reach_of, reaches}
use Rattle.grant_policy.proofs.ReachLemmas.{reaches_more, granted_in_some}
use Rattle.grant_policy.proofs.reaching.reaches.Goals as goal

pub loop-rule-preserved : goal.loop-rule-preserved
loop-rule-preserved c =
    let caller = c.args.caller.now in
    let action = c.args.action in
    let origin = c.args.origin.now in
    let rule = c.rule-item.result in
    c.in_ok-add_reach.ensures
    ∙ ap (λ (l : List (List (List ℕ))). l ++ option_to_list (reach_of caller action origin rule)) c.loop-rule.invariant
    ∙ reaches_more caller action origin c.rules-rule-items.result.now c.loop-rule.rule-index rule c.loop-rule-test.true c.rule-item.is

pub returns-clause-order : goal.returns-clause-order
returns-clause-order c = c.in_ok-sort.ensures.sorted

pub returns-clause-names : goal.returns-clause-names
returns-clause-names c =
    let reached = reaches c.args.caller.now c.args.action c.args.origin.now in
    let gathered : c.loop-rule.names.items ≡ reached c.args.policy.now =
    c.loop-rule.invariant ∙ ap reached (take_all c.loop-rule.rule-index c.rules-rule-items.result.now c.loop-rule-test.false ∙ c.rules-rule-items.ensures.rules) in
    subst (λ (l : List (List (List ℕ))). IsPermutation l c.sort.new.self.items) gathered c.in_ok-sort.ensures.permutation

pub returns-clause-granted : goal.returns-clause-granted
returns-clause-granted c =
    let rules = c.args.policy.now in
    let reached = reaches c.args.caller.now c.args.action c.args.origin.now in
    let gathered : c.loop-rule.names.items ≡ reached rules =
    c.loop-rule.invariant ∙ ap reached (take_all c.loop-rule.rule-index c.rules-rule-items.result.now c.loop-rule-test.false ∙ c.rules-rule-items.ensures.rules) in
    λ name record_type inside granted.
    let covers = λ (top : List (List ℕ)). is_within name top in
    sym (list_any-IsPermutation covers c.loop-rule.names.items c.sort.new.self.items c.in_ok-sort.ensures.permutation)
    ∙ ap (list_any covers) gathered
    ∙ granted_in_some (record { caller = c.args.caller.now; name = name; record_type = record_type; action = c.args.action }) c.args.origin.now inside rules granted
