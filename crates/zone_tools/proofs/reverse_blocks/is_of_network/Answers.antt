use Rattle.std.proofs.Common.{◌≡◌, ◌∷◌, ◌∙◌, sym, ap, decimal, Some}
use Rattle.dns_names.specs.Labels.{parent_of}
use Rattle.dns_names.specs.Order.{same_name}
use Rattle.zone_tools.proofs.ReverseBlockLemmas.{Name, same_below}
use Rattle.zone_tools.proofs.reverse_blocks.is_of_network.Goals as goal

pub returns-in-Some : goal.returns-in-Some
returns-in-Some c =
    let name = c.args.name.now in
    let network = c.args.network.now in
    let octet = c.args.octet in
    let is : name ≡ decimal octet ∷ c.requires.0 = c.requires.1 in
    let rest : c.in-Some.rest ≡ c.requires.0 = (let e : Some c.in-Some.rest ≡ Some c.requires.0 = sym c.in-Some.is ∙ c.in_ok-rest.ensures ∙ ap parent_of is in cc) in
    c.eq.ensures ∙ ap (λ (n : Name). same_name n network) rest ∙ same_below (decimal octet) c.requires.0 network ∙ ap (λ (n : Name). same_name n (decimal octet ∷ network)) (sym is)
