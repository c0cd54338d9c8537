use Rattle.std.proofs.Common.{refl}
use Rattle.std.proofs.lemmas.Bool.Decides.{same_from_decides}
use Rattle.dns_names.specs.Labels.{is_within}
use Rattle.dns_names.specs.Keys.{key_of}
use Rattle.dns_names.proofs.NameLemmas.{is_within-Decides, within_from_key}
use Rattle.zone_tools.specs.HostNames.{ipv4_names}
use Rattle.zone_tools.proofs.host_names.is_of_ipv4.Goals as goal

pub returns : goal.returns
returns c =
    let name = c.args.name.now in
    same_from_decides c.starts_with.result (is_within name ipv4_names)
    (within_from_key name ipv4_names c.key.result.now (key_of ipv4_names) c.starts_with.result c.key.ensures.key refl c.starts_with.ensures.value) (is_within-Decides name ipv4_names)
