use Rattle.std.proofs.Common.{◌<◌, [], ◌∷◌, length, map, arith, ap, ◌∙◌}
use Rattle.std.proofs.lemmas.List.{map-append}
use Rattle.wire_json.specs.Bodies.{IsServerBody}
use Rattle.wire_json.specs.Delegating.{server_of}
use Rattle.wire_json.specs.Reading.{server_in}
use Rattle.wire_json.proofs.ListLemmas.{read_more, found_more}
use Rattle.wire_json.proofs.server.read_servers.Goals as goal

pub loop-item-preserved : goal.loop-item-preserved
loop-item-preserved c =
    let l = c.loop-item in
    let values = c.args.items.now in
    let x = c.in_ok-read_server.field-0 in
    let done = map server_of l.servers.items in
    let new = map server_of c.push.new.self.items in
    let all = ap (map server_of) c.in_ok-push.ensures.items ∙ map-append server_of l.servers.items (x ∷ []) in
    let lt : l.item-index < length values = omega arith in
    record {
      read = read_more server_in values done new l.item-index c.item-item.result (server_of x) l.invariant.read lt c.item-item.is c.in_ok-read_server.ensures.exact all;
      found = found_more IsServerBody values done new l.item-index c.item-item.result (server_of x) l.invariant.found lt c.item-item.is c.in_ok-read_server.ensures.found all;
    }
