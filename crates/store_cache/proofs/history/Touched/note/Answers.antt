use Rattle.std.proofs.Common.{◌≡◌, ◌&&◌, not, refl, sym, ap, ◌∙◌}
use Rattle.dns_data.specs.Rdata.{type_of}
use Rattle.dns_data.specs.declared.record_type.RecordType.TheVariants.{Soa}
use Rattle.grant_policy.specs.Grants.{includes}
use Rattle.dns_names.proofs.NameLemmas.{same_name-Decides}
use Rattle.store_cache.specs.History.{includes_none, leaves_out}
use Rattle.store_cache.proofs.HistoryLemmas.{soa_noted}
use Rattle.store_cache.proofs.history.Touched.note.Goals as goal

pub returns-then-eq : goal.returns-then-eq
returns-then-eq c = λ grants.
    let owner = (same_name-Decides c.args.rr.now.owner c.args.origin.now).0 (sym c.if-eq.ensures) in
    let is : type_of c.args.rr.now.rdata ≡ Soa = sym c.record_type.ensures.value ∙ c.if-is_type.ensures refl in
    soa_noted c.args.self.now.soa (includes grants c.args.origin.now Soa) (includes_none grants c.args.self.now.points.items)
    ∙ ap (λ b. leaves_out grants c.args.origin.now c.args.self.now && not b) (sym (λ i. includes grants (owner i) (is i)))
