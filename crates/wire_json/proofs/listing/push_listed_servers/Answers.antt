use Rattle.std.proofs.Common.{◌<◌, length, arith}
use Rattle.wire_json.specs.Replies.{server_value}
use Rattle.wire_json.proofs.AppendLemmas.{item_pushed}
use Rattle.wire_json.proofs.listing.push_listed_servers.Goals as goal

pub loop-i-preserved : goal.loop-i-preserved
loop-i-preserved c =
    let xs = c.args.servers.now in
    let l = c.loop-i in
    let lt : l.i < length xs = omega arith in
    record {
      pushed = item_pushed server_value xs l.i c.index-servers-i.result c.args.out.now.items l.out.items c.push_server.new.out.items lt c.index-servers-i.is l.invariant.pushed c.in_ok-push_server.ensures.ok;
      room = omega (arith, l.invariant.room, c.in_ok-push_server.ensures.capacity);
    }
