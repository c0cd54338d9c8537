use Rattle.std.proofs.Common.{◌<◌, length, arith}
use Rattle.wire_json.specs.Bodies.{IsOperationBody}
use Rattle.wire_json.specs.Reading.{operation_in}
use Rattle.wire_json.proofs.ListLemmas.{read_more, found_more}
use Rattle.wire_json.proofs.item.read_operations.Goals as goal

pub loop-item-preserved : goal.loop-item-preserved
loop-item-preserved c =
    let l = c.loop-item in
    let values = c.args.items.now in
    let x = c.in_ok-read_operation.field-0 in
    let lt : l.item-index < length values = omega arith in
    record {
      read = read_more operation_in values l.operations.items c.push.new.self.items l.item-index c.item-item.result x l.invariant.read lt c.item-item.is c.in_ok-read_operation.ensures.exact c.in_ok-push.ensures.items;
      found = found_more IsOperationBody values l.operations.items c.push.new.self.items l.item-index c.item-item.result x l.invariant.found lt c.item-item.is c.in_ok-read_operation.ensures.found c.in_ok-push.ensures.items;
    }
