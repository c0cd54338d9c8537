use Rattle.std.proofs.Common.{map, sym, ap, subst, ◌∙◌}
use Rattle.zone_core.specs.Delegations.{server_of, server_names, AreNamesOf}
use Rattle.zone_core.proofs.report.delegation_of.Goals as goal

pub returns-clause-servers : goal.returns-clause-servers
returns-clause-servers c =
    let rs = c.args.records.now in
    let names = c.in_ok-names.names.items in
    let own = sym c.in_ok-try_copy.ensures in (
      names,
      subst (λ child. AreNamesOf names (server_names child rs)) own c.in_ok-names.ensures,
      c.in_ok-servers_of.ensures ∙ ap (map (server_of rs c.args.child.now)) c.deref.ensures.value ∙ ap (λ child. map (server_of rs child) names) own,
    )
