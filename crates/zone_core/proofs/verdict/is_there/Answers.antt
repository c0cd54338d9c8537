use Rattle.std.proofs.Common.{sym, refl, ◌∙◌}
use Rattle.std.specs.List.{list_any}
use Rattle.zone_core.specs.Prerequisites.{same_data, given_for}
use Rattle.zone_core.proofs.GroupLemmas.{all_of_one}
use Rattle.zone_core.proofs.verdict.is_there.Goals as goal

pub returns-in-Some : goal.returns-in-Some
returns-in-Some c =
    c.is_datum.ensures
    ∙ all_of_one (λ d. list_any (λ r. same_data d r.rdata) c.args.set.now) c.in-Some.given.now (given_for c.args.name.now c.args.record_type c.args.prerequisite.now)
    (rw (sym c.given_for.ensures, c.in-Some.is) refl)
