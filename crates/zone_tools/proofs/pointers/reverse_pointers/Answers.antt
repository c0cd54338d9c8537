use Rattle.std.proofs.Common.{subst, List}
use Rattle.std.specs.List.Sorted.{IsStrictlySortedBy}
use Rattle.std.proofs.lemmas.Result.{IfOk-weaker}
use Rattle.dns_data.specs.declared.record.Record.{Record}
use Rattle.dns_data.specs.RecordOrder.{record_order}
use Rattle.zone_tools.specs.Pointers.{AreComplete, AreSound, HaveOwnersOnce, ArePointers, AreFirsts}
use Rattle.zone_tools.proofs.PointerLemmas.{pointers_are, are_complete, are_sound, are_once, in_record_order}
use Rattle.zone_tools.proofs.pointers.reverse_pointers.Goals as goal

pub returns-clause-exact : goal.returns-clause-exact
returns-clause-exact c =
    let origin = c.args.origin.now in
    let rs = c.args.records.now in
    IfOk-weaker c.firsts.result (λ ps. AreFirsts c.in_ok-called.field-0.items ps.items) (λ ps. ArePointers origin rs ps.items)
    (λ ps are. pointers_are origin rs ps.items (subst (λ (all : List Record). AreFirsts all ps.items) c.in_ok-called.ensures are)) c.firsts.ensures

pub returns-clause-complete : goal.returns-clause-complete
returns-clause-complete c =
    let origin = c.args.origin.now in
    let rs = c.args.records.now in
    IfOk-weaker c.firsts.result (λ ps. ArePointers origin rs ps.items) (λ ps. AreComplete origin rs ps.items) (λ ps are. are_complete origin rs ps.items are) (returns-clause-exact c)

pub returns-clause-sound : goal.returns-clause-sound
returns-clause-sound c =
    let origin = c.args.origin.now in
    let rs = c.args.records.now in
    IfOk-weaker c.firsts.result (λ ps. ArePointers origin rs ps.items) (λ ps. AreSound origin rs ps.items) (λ ps are. are_sound origin rs ps.items are) (returns-clause-exact c)

pub returns-clause-once : goal.returns-clause-once
returns-clause-once c =
    IfOk-weaker c.firsts.result (λ ps. ArePointers c.args.origin.now c.args.records.now ps.items) (λ ps. HaveOwnersOnce ps.items) (λ ps are. are_once ps.items are.order) (returns-clause-exact c)

pub returns-clause-order : goal.returns-clause-order
returns-clause-order c =
    IfOk-weaker c.firsts.result (λ ps. ArePointers c.args.origin.now c.args.records.now ps.items) (λ ps. IsStrictlySortedBy record_order ps.items) (λ ps are. in_record_order ps.items are.order) (returns-clause-exact c)
