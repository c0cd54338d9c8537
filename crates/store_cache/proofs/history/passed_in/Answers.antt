use Rattle.std.proofs.Common.{◌≡◌, ap, sym, subst, ◌∙◌}
use Rattle.dns_names.proofs.NameLemmas.{same_name-Decides}
use Rattle.store_cache.specs.History.{Remembers}
use Rattle.store_cache.proofs.history.passed_in.Goals as goal

pub returns-in-Some-clause-passed : goal.returns-in-Some-clause-passed
returns-in-Some-clause-passed c = λ s held there remembers.
    let own : c.in-Some.zone.origin ≡ c.args.origin.now = (same_name-Decides c.in-Some.zone.origin c.args.origin.now).0 (sym c.if-eq.ensures) in
    c.passed.ensures.passed held.changes ((subst (Remembers s) c.in-Some.is remembers) held (ap s.zones own ∙ there))
