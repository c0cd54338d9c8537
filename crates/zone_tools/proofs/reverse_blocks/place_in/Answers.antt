use Rattle.std.proofs.Common.{◌∷◌, sym, ◌∙◌, decimal, get_or}
use Rattle.dns_names.proofs.NameLemmas.{same_name-Decides}
use Rattle.zone_tools.proofs.ReverseBlockLemmas.{begins_with_last, origin_short}
use Rattle.zone_tools.proofs.reverse_blocks.place_in.Goals as goal

pub is_of_network-requires : goal.is_of_network-requires
is_of_network-requires c = begins_with_last c.args.address c.args.name.now c.octets.result c.reveal_ipv4.ensures c.requires.name c.octets.ensures

pub labelled-requires : goal.labelled-requires
labelled-requires c =
    let name = c.args.name.now in
    let block = c.args.block.now in
    let octet = get_or c.octets.result 3 0 in
    let same = (same_name-Decides name (decimal octet ∷ block.parent)).0 (sym c.in_ok-is_of_network.ensures ∙ c.if-not-branch.false) in
    origin_short c.args.origin.now block c.args.address octet c.labels.ensures.name c.reveal_ipv4.ensures c.requires.block (sym c.requires.name ∙ same)
