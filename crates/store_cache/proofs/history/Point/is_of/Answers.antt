use Rattle.std.proofs.Common.{refl, sym, ◌∙◌}
use Rattle.dns_names.proofs.NameLemmas.{same_name-Decides}
use Rattle.store_cache.proofs.history.Point.is_of.Goals as goal

pub returns-then-is_type : goal.returns-then-is_type
returns-then-is_type c = λ is.
    ((same_name-Decides c.args.self.now.owner c.args.rr.now.owner).0 (sym c.eq.ensures ∙ is), c.if-is_type.ensures refl ∙ c.record_type.ensures.value)
