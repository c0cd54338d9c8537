use Rattle.std.proofs.Common.{[], ◌∷◌, sym, ap, subst, ◌∙◌}
use Rattle.std.proofs.lemmas.Result.{IfOk-weaker}
use Rattle.dns_data.specs.declared.record.Record.{Record}
use Rattle.zone_core.specs.Sets.{set_of}
use Rattle.zone_core.specs.Effects.{add_cname}
use Rattle.zone_core.specs.Nodes.{Becomes}
use Rattle.zone_core.proofs.RuleLemmas.{cname_ignored, cname_put}
use Rattle.zone_core.proofs.effect.add_cname.Goals as goal

pub returns-then-has_other_type : goal.returns-then-has_other_type
returns-then-has_other_type c =
    cname_ignored c.args.rr.now c.args.node.items c.requires.node (rw (sym c.deref.ensures.value, sym c.has_other_type.ensures) c.if-has_other_type.true)

pub returns : goal.returns
returns c =
    let rr = c.args.rr.now in
    IfOk-weaker c.alone.result _ _
    (λ rows e. subst (λ xs. Becomes rr.owner xs (add_cname (set_of c.args.node.items) rr)) (ap (λ (r : Record). r ∷ []) (sym c.in_ok-try_copy.ensures) ∙ sym e)
    (cname_put rr c.args.node.items c.requires.node (rw (sym c.deref.ensures.value, sym c.has_other_type.ensures) c.if-has_other_type.false)))
    c.alone.ensures
