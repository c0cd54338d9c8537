use Rattle.std.proofs.Common.{IfOk, subst}
use Rattle.zone_core.specs.Delegations.{servers_in, AreNamesOf}
use Rattle.zone_core.proofs.report.server_names.Goals as goal

pub returns : goal.returns
returns c = subst (λ rs. IfOk c.servers.result (λ names. AreNamesOf names.items (servers_in rs))) c.of_set.ensures c.servers.ensures
