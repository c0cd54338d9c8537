use Rattle.std.proofs.Common.{◌≡◌, ◌==◌, not, true, sym, subst}
use Rattle.std.proofs.lemmas.Result.{IfOk-weaker}
use Rattle.dns_data.specs.declared.record_type.RecordType.TheVariants.{Soa}
use Rattle.zone_core.specs.Sets.{key_of, rank_of, set_of}
use Rattle.zone_core.specs.Zones.{soa_at}
use Rattle.zone_core.specs.Effects.{takes_over}
use Rattle.zone_core.specs.Nodes.{IsNode}
use Rattle.zone_core.proofs.NodeLemmas.{filter_node}
use Rattle.zone_core.proofs.RuleLemmas.{soa_put}
use Rattle.zone_core.proofs.effect.add_soa.Goals as goal

pub put-requires : goal.put-requires
put-requires c = subst (IsNode c.args.rr.now.owner) (sym c.without_type.ensures) (filter_node c.args.rr.now.owner c.args.node.items c.requires.node (λ x. not ((key_of x).1 == rank_of Soa)))

pub returns-then-takes_over : goal.returns-then-takes_over
returns-then-takes_over c =
    let r = c.args.rr.now in
    let over : takes_over r (soa_at r.owner (set_of c.args.node.items)) ≡ true = rw (sym c.deref.ensures.value, sym c.takes_over.ensures) c.if-takes_over.true in
    IfOk-weaker c.put.result _ _ (λ after is. soa_put r c.args.node.items c.requires.node over c.without_type.result.items after.items c.without_type.ensures is) c.put.ensures
