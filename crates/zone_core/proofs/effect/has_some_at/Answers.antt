use Rattle.std.proofs.Common.{sym, ◌==◌, ◌∙◌}
use Rattle.zone_core.specs.Sets.{key_of, rank_of, at}
use Rattle.zone_core.proofs.NodeLemmas.{at_here, has_node}
use Rattle.zone_core.proofs.effect.has_some_at.Goals as goal

pub returns : goal.returns
returns c =
    let name = c.args.name.now in
    let t = c.args.record_type in
    c.has_set.ensures ∙ sym (has_node name c.args.node.now c.requires (λ r. (key_of r).1 == rank_of t) (at name t) (λ r e. at_here name r e t))
