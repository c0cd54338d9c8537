use Rattle.std.proofs.Common.{◌≡◌, ◌==◌, map, false, sym, subst}
use Rattle.std.specs.List.{list_any}
use Rattle.std.proofs.lemmas.Result.{IfOk-weaker}
use Rattle.dns_data.specs.declared.record_type.RecordType.TheVariants.{Cname}
use Rattle.dns_data.specs.Rdata.{type_of}
use Rattle.zone_core.specs.Sets.{key_of, rank_of, set_of, put}
use Rattle.zone_core.specs.Nodes.{IsNode, Becomes, with_type_ttl}
use Rattle.zone_core.proofs.PutLemmas.{ttl_node}
use Rattle.zone_core.proofs.RuleLemmas.{other_ignored, other_put}
use Rattle.zone_core.proofs.effect.add_other.Goals as goal

pub returns-then-has_some_at : goal.returns-then-has_some_at
returns-then-has_some_at c = other_ignored c.args.rr.now c.args.node.items c.requires (rw (sym c.deref.ensures.value, sym c.has_some_at.ensures) c.if-has_some_at.true)

pub put-requires : goal.put-requires
put-requires c =
    let r = c.args.rr.now in
    subst (IsNode r.owner) (sym c.with_ttl.ensures) (rw c.record_type-record_type.ensures.value (ttl_node r.owner (type_of r.rdata) r.ttl c.args.node.items c.requires).node)

pub returns : goal.returns
returns c =
    let r = c.args.rr.now in
    let none : list_any (λ x. (key_of x).1 == rank_of Cname) c.args.node.items ≡ false = rw (sym c.deref.ensures.value, sym c.has_some_at.ensures) c.if-has_some_at.false in
    let is : c.with_ttl.result.items ≡ map (with_type_ttl (type_of r.rdata) r.ttl) c.args.node.items = rw (sym c.record_type-record_type.ensures.value) c.with_ttl.ensures in
    IfOk-weaker c.put.result _ _ (λ after put_is. other_put r c.args.node.items c.requires none after.items (subst (λ xs. Becomes r.owner after.items (put (set_of xs) r)) is put_is)) c.put.ensures
