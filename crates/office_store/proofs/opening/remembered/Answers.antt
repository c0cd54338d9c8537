use Rattle.std.proofs.Common.{List, sym, subst, ap, ◌∙◌}
use Rattle.zone_core.specs.Changes.{ChangeOf}
use Rattle.store_cache.specs.History.{AreTouched}
use Rattle.office_store.proofs.opening.remembered.Goals as goal

pub returns-in-Ok : goal.returns-in-Ok
returns-in-Ok c = λ rows told version all s st same held e.
    let read = rw c.in-Some.is at told in
    let history = c.in-Ok.history in
    subst (λ (cs : List ChangeOf). AreTouched history.origin history.changes.items cs) (read version all s held st same (ap s.zones (sym c.in-Ok.ensures.origin) ∙ e)) c.in-Ok.ensures.all.0
