use Rattle.std.proofs.Common.{◌≡◌, ◌<◌, not, ℕ, List, Option, Some, None, length, sym, subst, ap, ◌∙◌}
use Rattle.std.specs.List.{filter, remove}
use Rattle.dns_data.specs.declared.record.Record.{Record}
use Rattle.zone_core.specs.Prerequisites.{same_data}
use Rattle.zone_core.specs.Nodes.{IsPlaceOf}
use Rattle.zone_core.proofs.effect.without.Goals as goal

pub returns-in-Some : goal.returns-in-Some
returns-in-Some c =
    let there : IsPlaceOf (λ r. same_data c.args.rdata.now r.rdata) c.args.node.items (Some c.in-Some.place) =
    subst (λ (rs : List Record). IsPlaceOf (λ r. same_data c.args.rdata.now r.rdata) rs (Some c.in-Some.place)) c.deref.ensures.value
    (subst (IsPlaceOf (λ r. same_data c.args.rdata.now r.rdata) c.deref.result.now) c.in-Some.is c.place_of.ensures) in
    c.remove.ensures.items ∙ sym there.1

pub returns-in-None : goal.returns-in-None
returns-in-None c =
    let there : IsPlaceOf (λ r. same_data c.args.rdata.now r.rdata) c.args.node.items None =
    subst (λ (rs : List Record). IsPlaceOf (λ r. same_data c.args.rdata.now r.rdata) rs None) c.deref.ensures.value
    (subst (IsPlaceOf (λ r. same_data c.args.rdata.now r.rdata) c.deref.result.now) c.in-None.is c.place_of.ensures) in
    sym there
