use Rattle.std.proofs.Common.{◌<◌, length, arith}
use Rattle.wire_json.specs.Replies.{delegation_value}
use Rattle.wire_json.proofs.AppendLemmas.{item_pushed}
use Rattle.wire_json.proofs.listing.push_listed_delegations.Goals as goal

pub loop-i-preserved : goal.loop-i-preserved
loop-i-preserved c =
    let xs = c.args.delegations.now in
    let l = c.loop-i in
    let lt : l.i < length xs = omega arith in
    record {
      pushed = item_pushed delegation_value xs l.i c.index-delegations-i.result c.args.out.now.items l.out.items c.push_delegation.new.out.items lt c.index-delegations-i.is l.invariant.pushed c.in_ok-push_delegation.ensures.ok;
      room = omega (arith, l.invariant.room, c.in_ok-push_delegation.ensures.capacity);
    }
