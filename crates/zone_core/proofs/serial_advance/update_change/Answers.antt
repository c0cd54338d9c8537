use Rattle.std.proofs.Common.{◌≡◌, sym, subst, ◌∷◌}
use Rattle.std.specs.Prelude.{if◌then◌else◌}
use Rattle.std.proofs.lemmas.Result.{IfOk-weaker}
use Rattle.std.specs.Prelude.{Result, Ok, Err, IfOk}
use Rattle.std.specs.declared.alloc.AllocError.{AllocError}
use Rattle.zone_core.specs.Sets.{set_of, minus, AreRows}
use Rattle.zone_core.specs.Effects.{next_version, zone_after}
use Rattle.zone_core.specs.Views.{advances}
use Rattle.zone_core.specs.declared.change.Change.{Change}
use Rattle.zone_core.proofs.SerialAdvanceLemmas.{advanced_change}
use Rattle.zone_core.proofs.serial_advance.update_change.Goals as goal

pub returns-clause-update : goal.returns-clause-update
returns-clause-update c =
    by_result c.with_serial.result c.operations.ensures.update
  where
    by_result : {A : Type 0} (r : Result Change AllocError) → A → IfOk r (λ _. A)
    by_result (Ok x) is = is
    by_result (Err e) is = tt

pub returns-clause-removed : goal.returns-clause-removed
returns-clause-removed c =
    let zone = c.args.zone.now in
    let change = c.in_ok-change.change in
    let soa = c.soa.result.now in
    let done =
    advanced_change zone c.args.update.now c.origin.ensures.zone c.operations.ensures.update c.requires soa c.soa.ensures.value
    c.origin.result.now (set_of c.records.result.now) c.operations.result.now c.origin.ensures.value c.records.ensures.set c.operations.ensures.value
    change.removed.items change.added.items c.in_ok-change.ensures.removed c.in_ok-change.ensures.added in
    IfOk-weaker c.with_serial.result (λ (x : Change). x.removed.items ≡ (if advances change.removed.items change.added.items then soa ∷ change.removed.items else change.removed.items))
    (λ (x : Change). AreRows x.removed.items (minus zone.records (zone_after zone c.args.update.now).records)) (λ x e. subst (λ rs. AreRows rs (minus zone.records (zone_after zone c.args.update.now).records)) (sym e) done.0) c.with_serial.ensures.removed

pub returns-clause-added : goal.returns-clause-added
returns-clause-added c =
    let zone = c.args.zone.now in
    let change = c.in_ok-change.change in
    let soa = c.soa.result.now in
    let done =
    advanced_change zone c.args.update.now c.origin.ensures.zone c.operations.ensures.update c.requires soa c.soa.ensures.value
    c.origin.result.now (set_of c.records.result.now) c.operations.result.now c.origin.ensures.value c.records.ensures.set c.operations.ensures.value
    change.removed.items change.added.items c.in_ok-change.ensures.removed c.in_ok-change.ensures.added in
    IfOk-weaker c.with_serial.result (λ (x : Change). x.added.items ≡ (if advances change.removed.items change.added.items then next_version soa ∷ change.added.items else change.added.items))
    (λ (x : Change). AreRows x.added.items (minus (zone_after zone c.args.update.now).records zone.records)) (λ x e. subst (λ rs. AreRows rs (minus (zone_after zone c.args.update.now).records zone.records)) (sym e) done.1) c.with_serial.ensures.added
