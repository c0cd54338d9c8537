use Rattle.std.proofs.Common.{subst}
use Rattle.zone_core.specs.Sets.{listing}
use Rattle.zone_core.specs.Delegations.{AreNamesOf, servers_in}
use Rattle.zone_tools.proofs.SurveyLemmas.{are_servers}
use Rattle.zone_tools.proofs.zone_survey.servers_of.Goals as goal

pub returns : goal.returns
returns c =
    let names = c.in_ok-names.names.items in
    are_servers (listing c.args.zone.now.records) names (subst (λ rs. AreNamesOf names (servers_in rs)) c.records.ensures.value c.in_ok-names.ensures)
