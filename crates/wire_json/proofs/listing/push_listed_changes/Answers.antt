use Rattle.std.proofs.Common.{◌<◌, length, arith}
use Rattle.wire_json.specs.Replies.{change_value}
use Rattle.wire_json.proofs.AppendLemmas.{item_pushed}
use Rattle.wire_json.proofs.listing.push_listed_changes.Goals as goal

pub loop-i-preserved : goal.loop-i-preserved
loop-i-preserved c =
    let xs = c.args.changes.now in
    let l = c.loop-i in
    let lt : l.i < length xs = omega arith in
    record {
      pushed = item_pushed change_value xs l.i c.index-changes-i.result c.args.out.now.items l.out.items c.push_change.new.out.items lt c.index-changes-i.is l.invariant.pushed c.in_ok-push_change.ensures.ok;
      room = omega (arith, l.invariant.room, c.in_ok-push_change.ensures.capacity);
    }
