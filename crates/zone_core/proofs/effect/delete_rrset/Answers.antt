use Rattle.std.proofs.Common.{◌≡◌, ◌&&◌, false, sym, ◌∙◌}
use Rattle.dns_names.specs.Order.{same_name}
use Rattle.zone_core.specs.Sets.{rank_of}
use Rattle.zone_core.specs.Effects.{is_guarded}
use Rattle.zone_core.proofs.RuleLemmas.{rrset_cut, first_false, second_false}
use Rattle.zone_core.proofs.effect.delete_rrset.Goals.{else-eq-via-then-eq+else-is_guarded, else-eq-via-else-eq}
use Rattle.zone_core.proofs.effect.delete_rrset.Goals as goal

pub returns-else-eq : goal.returns-else-eq
returns-else-eq c =
    let n = c.args.name.now in
    let o = c.args.origin.now in
    let t = c.args.record_type in
    let apart : (same_name n o && is_guarded (rank_of t)) ≡ false =
    elim c.else-eq.branch [
      | else-eq-via-then-eq+else-is_guarded w ↦ second_false (same_name n o) (is_guarded (rank_of t)) (sym w.is_guarded.ensures ∙ w.if-is_guarded.false)
      | else-eq-via-else-eq w ↦ first_false (same_name n o) (is_guarded (rank_of t)) (sym c.eq.ensures ∙ w.if-eq.false)
    ] in
    rrset_cut o n c.args.node.items c.requires t c.without_type.result.items apart c.without_type.ensures
