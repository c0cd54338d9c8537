use Rattle.std.proofs.Common.{◌≡◌, ◌↔◌, ◌+◌, true, false, List, take, drop, sym, ap, subst, ◌∙◌}
use Rattle.store_rows.specs.declared.changes.ChangedRecord.{ChangedRecord}
use Rattle.store_rows.specs.ChangeRows.{are_numbered}
use Rattle.store_rows.specs.Checks.{changes_first, AreChangesIn, AreChangesInTurn}
use Rattle.store_rows.proofs.ZoneStepLemmas.{passes, stops, ends}
use Rattle.store_rows.proofs.zones.are_changes_of.Goals as goal

pub loop-origin-init : goal.loop-origin-init
loop-origin-init c = (λ h. h, λ h. h)

pub loop-origin-preserved : goal.loop-origin-preserved
loop-origin-preserved c =
    let origins = c.args.origins.now in
    let cs = c.loop-origin.left.now in
    let i = c.loop-origin.origin-index in
    let o = c.origin-item.result in
    let m = c.changes_first.result in
    let all = AreChangesInTurn origins c.args.changes.now in
    let told : are_numbered (take m cs) ≡ true = ap are_numbered (sym c.split_at.ensures.front) ∙ sym c.are_numbered.ensures ∙ c.if-not-are_numbered.false in
    let on = passes changes_first AreChangesIn all origins i cs c.loop-origin.invariant o c.loop-origin-test.true c.origin-item.is m c.changes_first.ensures.value told in
    subst (λ (l : List ChangedRecord). AreChangesInTurn (drop (i + 1) origins) l ↔ all) (sym c.split_at.ensures.back) on

pub returns-then-not-are_numbered : goal.returns-then-not-are_numbered
returns-then-not-are_numbered c =
    let origins = c.args.origins.now in
    let cs = c.loop-origin.left.now in
    let o = c.origin-item.result in
    let all = AreChangesInTurn origins c.args.changes.now in
    stops changes_first AreChangesIn all origins c.loop-origin.origin-index cs c.loop-origin.invariant o c.loop-origin-test.true c.origin-item.is c.changes_first.result c.changes_first.ensures.value
    (λ told.
    let bad : true ≡ false = sym told ∙ ap are_numbered (sym c.split_at.ensures.front) ∙ sym c.are_numbered.ensures ∙ c.if-not-are_numbered.true in
    cc)

pub returns : goal.returns
returns c =
    let all = AreChangesInTurn c.args.origins.now c.args.changes.now in
    ends changes_first AreChangesIn all c.args.origins.now c.loop-origin.origin-index c.loop-origin.left.now c.loop-origin.invariant c.loop-origin-test.false c.is_empty.result c.is_empty.ensures
