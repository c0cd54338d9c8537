use Rattle.std.proofs.Common.{subst}
use Rattle.std.proofs.lemmas.Bool.Decides.{same_from_decides}
use Rattle.zone_core.specs.Updates.{IsUpdate, same_update}
use Rattle.zone_core.proofs.SameUpdateLemmas.{same_updates, update_answers, update_differs}
use Rattle.zone_core.proofs.update.Update.is_same.Goals as goal

pub returns-then-eq-clause-equal : goal.returns-then-eq-clause-equal
returns-then-eq-clause-equal c =
    update_answers c.args.self.now c.args.other.now _ _ c.self.view_is c.other.view_is c.eq.result c.eq.ensures c.if-eq.true c.eq-then-eq.result c.eq-then-eq.ensures

pub returns-then-eq-clause-value : goal.returns-then-eq-clause-value
returns-then-eq-clause-value c =
    same_from_decides c.eq-then-eq.result (same_update c.args.self.now c.args.other.now)
    (update_answers c.args.self.now c.args.other.now _ _ c.self.view_is c.other.view_is c.eq.result c.eq.ensures c.if-eq.true c.eq-then-eq.result c.eq-then-eq.ensures)
    (same_updates c.args.self.now c.args.other.now (subst IsUpdate c.self.view_is c.self.invariant) (subst IsUpdate c.other.view_is c.other.invariant))

pub returns-else-eq-clause-equal : goal.returns-else-eq-clause-equal
returns-else-eq-clause-equal c = update_differs c.args.self.now c.args.other.now _ _ c.self.view_is c.other.view_is c.eq.result c.eq.ensures c.if-eq.false

pub returns-else-eq-clause-value : goal.returns-else-eq-clause-value
returns-else-eq-clause-value c =
    same_from_decides c.eq.result (same_update c.args.self.now c.args.other.now)
    (update_differs c.args.self.now c.args.other.now _ _ c.self.view_is c.other.view_is c.eq.result c.eq.ensures c.if-eq.false)
    (same_updates c.args.self.now c.args.other.now (subst IsUpdate c.self.view_is c.self.invariant) (subst IsUpdate c.other.view_is c.other.invariant))
