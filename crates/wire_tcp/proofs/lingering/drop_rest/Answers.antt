use Rattle.std.proofs.Common.{take, length, length-append, length-take, ◌++◌, ◌≡◌, ◌∙◌, arith, rules}
use Rattle.std.proofs.KnownBytes.{Consumes-trans}
use Rattle.wire_tcp.proofs.lingering.drop_rest.Goals as goal

pub loop-left-preserved : goal.loop-left-preserved
loop-left-preserved g c =
    let before = c.loop-left.invariant.got in
    let now = c.in-Ok.ensures.bytes in
    let bound = c.in-Ok.ensures.bound in
    let octets = take c.in-Ok.count c.read_some.new.buffer in
    let whole : length c.read_some.new.buffer ≡ c.min-room.result = search rules in
    let room = c.min-room.ensures in
    let many : length octets ≡ c.in-Ok.count = omega (arith, bound, length-take c.in-Ok.count c.read_some.new.buffer) in
    record {
      got = (before.0 ++ octets, Consumes-trans _ _ _ before.0 octets before.1 now.0, omega (arith, length-append before.0 octets, many, before.2, bound, whole, room));
      fine = c.in-Ok.ensures.fine ∙ c.loop-left.invariant.fine;
    }
