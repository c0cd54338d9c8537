use Rattle.std.proofs.Common.{◌≡◌, ◌∙◌, sym, subst}
use Rattle.zone_core.specs.Sets.{listing}
use Rattle.zone_core.specs.Zones.{ZoneOf}
use Rattle.zone_answers.specs.Places.{have_asterisks}
use Rattle.zone_answers.proofs.EncloserLemmas.{none_found}
use Rattle.zone_answers.proofs.zone_index.ZoneIndex.found_at_wildcard.Goals as goal

pub returns-then-not-self : goal.returns-then-not-self
returns-then-not-self c = λ name is.
    let has = subst (λ (z : ZoneOf). c.self.inside.asterisks ≡ have_asterisks (listing z.records)) c.self.view_is c.self.invariant.1 in
    none_found (listing c.args.self.now.records) (sym has ∙ c.if-not-self.true) name c.args.asked
