use Rattle.std.proofs.Common.{sym}
use Rattle.std.proofs.lemmas.List.{append-nil}
use Rattle.zone_core.proofs.BehindLemmas.{behind_all, behind_more, flat_map_push}
use Rattle.zone_tools.specs.Pointers.{pointer_of, called}
use Rattle.zone_tools.proofs.pointers.push_pointers.Goals as goal

pub loop-record-init : goal.loop-record-init
loop-record-init c = sym (append-nil c.args.pointers.now.items)

pub loop-record-preserved : goal.loop-record-preserved
loop-record-preserved c =
    let origin = c.args.origin.now in
    let r = c.record-item.result in
    behind_more (called origin) c.args.pointers.now.items c.args.records.now c.loop-record.record-index r _ (flat_map_push (pointer_of origin) r) c.loop-record-test.true c.record-item.is c.loop-record.invariant
    c.in_ok-push_pointer.ensures

pub returns : goal.returns
returns c = behind_all (called c.args.origin.now) c.args.pointers.now.items c.args.records.now c.loop-record.record-index c.loop-record.invariant c.loop-record-test.false
