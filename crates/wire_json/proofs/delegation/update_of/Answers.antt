use Rattle.std.proofs.Common.{ap, ◌∙◌}
use Rattle.std.proofs.lemmas.Result.{err_from_is_err_and}
use Rattle.zone_core.specs.Delegations.{delegation_of}
use Rattle.wire_json.specs.Faults.{of_delegations}
use Rattle.wire_json.specs.Delegating.{request_of, delegated}
use Rattle.wire_json.proofs.DelegationLemmas.{delegated_is, refused_delegation}
use Rattle.wire_json.proofs.delegation.update_of.Goals as goal

pub returns-in_err-update-clause-exact : goal.returns-in_err-update-clause-exact
returns-in_err-update-clause-exact c =
    let origin = c.args.origin.now in
    let request = c.args.request.now in
    let p = err_from_is_err_and c.from_residual.result c.from_residual.ensures.1 in
    rw (p.1, p.2) (refused_delegation c.in_err-update.field-0.0 (delegation_of origin request) (of_delegations (delegated origin (request_of request)))
    (λ f e. ap of_delegations (delegated_is request origin ∙ e)) c.in_err-update.ensures)

pub returns-clause-exact : goal.returns-clause-exact
returns-clause-exact c = ap of_delegations (delegated_is c.args.request.now c.args.origin.now ∙ c.in_ok-update.ensures)
