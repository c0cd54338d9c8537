use Rattle.std.proofs.Common.{◌≡◌, not, true, sym, ap, ◌∙◌}
use Rattle.dns_names.specs.Order.{same_name}
use Rattle.dns_data.specs.declared.record_type.RecordType.TheVariants.{Ns}
use Rattle.dns_data.specs.Rdata.{type_of}
use Rattle.zone_core.specs.Sets.{set_of}
use Rattle.zone_core.proofs.RuleLemmas.{other_ns, ns_stays}
use Rattle.zone_core.proofs.effect.stays.Goals as goal

pub returns-in-Ns : goal.returns-in-Ns
returns-in-Ns c =
    let o = c.args.origin.now in
    let n = c.args.name.now in
    let here : same_name n o ≡ true = sym c.eq.ensures ∙ c.if-eq.true in
    let t : type_of c.args.rdata.now ≡ Ns = sym c.record_type.ensures.value ∙ c.in-Ns.is in
    ap not (c.has_other_ns.ensures ∙ other_ns o n c.args.node.now c.requires c.args.rdata.now) ∙ ns_stays o n (set_of c.args.node.now) c.args.rdata.now here t
