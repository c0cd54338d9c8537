use Rattle.std.proofs.Common.{Some, None, sym, ◌∙◌, subst}
use Rattle.grant_policy.specs.Rules.{Question}
use Rattle.grant_policy.specs.Decisions.{Verdict, IsDecision}
use Rattle.grant_policy.proofs.DecideLemmas.{decision_is}
use Rattle.grant_policy.proofs.DecisionLaws.{decision_found, decider_closing}
use Rattle.grant_policy.proofs.deciding.decide.Goals as goal

pub returns-in-Some-clause-first : goal.returns-in-Some-clause-first
returns-in-Some-clause-first c =
    let p : Question = record { caller = c.args.caller.now; name = c.args.name.now; record_type = c.args.record_type; action = c.args.action } in
    c.decision.ensures ∙ sym (decision_is p c.args.policy.now (Some c.in-Some.found) c.in-Some.ensures.found c.in-Some.ensures.least)

pub returns-in-Some-clause-found : goal.returns-in-Some-clause-found
returns-in-Some-clause-found c =
    let p : Question = record { caller = c.args.caller.now; name = c.args.name.now; record_type = c.args.record_type; action = c.args.action } in
    subst (λ (v : Verdict). IsDecision p c.args.policy.now v) (sym (returns-in-Some-clause-first c)) (decision_found p c.args.policy.now)

pub returns-in-None-clause-first : goal.returns-in-None-clause-first
returns-in-None-clause-first c =
    let p : Question = record { caller = c.args.caller.now; name = c.args.name.now; record_type = c.args.record_type; action = c.args.action } in
    sym (decision_is p c.args.policy.now None c.in-None.ensures.found c.in-None.ensures.least)

pub returns-in-None-clause-found : goal.returns-in-None-clause-found
returns-in-None-clause-found c =
    let p : Question = record { caller = c.args.caller.now; name = c.args.name.now; record_type = c.args.record_type; action = c.args.action } in
    subst (λ (v : Verdict). IsDecision p c.args.policy.now v) (sym (returns-in-None-clause-first c)) (decision_found p c.args.policy.now)

pub returns-in-Some-clause-closing : goal.returns-in-Some-clause-closing
returns-in-Some-clause-closing c =
    let p : Question = record { caller = c.args.caller.now; name = c.args.name.now; record_type = c.args.record_type; action = c.args.action } in
    decider_closing p c.args.policy.now _ (returns-in-Some-clause-found c) c.reveal_rules.ensures.free

pub returns-in-None-clause-closing : goal.returns-in-None-clause-closing
returns-in-None-clause-closing c =
    let p : Question = record { caller = c.args.caller.now; name = c.args.name.now; record_type = c.args.record_type; action = c.args.action } in
    decider_closing p c.args.policy.now _ (returns-in-None-clause-found c) c.reveal_rules.ensures.free
