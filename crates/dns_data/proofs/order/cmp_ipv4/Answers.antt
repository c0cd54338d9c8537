use Rattle.std.proofs.Common.{arith}
use Rattle.std.specs.Prelude.{slice_index}
use Rattle.dns_data.proofs.AddressOrderLemmas.{first_decides, second_decides, third_decides, last_decides}
use Rattle.dns_data.proofs.order.cmp_ipv4.Goals as goal

pub returns-then-a-e : goal.returns-then-a-e
returns-then-a-e c =
    let o = c.octets.result in
    let p = c.octets-2.result in
    rw (c.cmp_decimals.ensures, c.from.ensures, c.from-then-a-e.ensures, ← c.octets.ensures, ← c.octets-2.ensures)
    (first_decides (slice_index o 0) (slice_index o 1) (slice_index o 2) (slice_index o 3) (slice_index p 0) (slice_index p 1) (slice_index p 2) (slice_index p 3) (omega arith) (omega arith) c.if-a-e.true)

pub returns-then-b-f : goal.returns-then-b-f
returns-then-b-f c =
    let o = c.octets.result in
    let p = c.octets-2.result in
    rw (c.cmp_decimals-then-b-f.ensures, c.from-then-b-f.ensures, c.from-then-b-f-2.ensures, ← c.octets.ensures, ← c.octets-2.ensures)
    (second_decides (slice_index o 0) (slice_index o 1) (slice_index o 2) (slice_index o 3) (slice_index p 0) (slice_index p 1) (slice_index p 2) (slice_index p 3) c.if-a-e.false (omega arith) (omega arith) c.if-b-f.true)

pub returns-then-c-g : goal.returns-then-c-g
returns-then-c-g c =
    let o = c.octets.result in
    let p = c.octets-2.result in
    rw (c.cmp_decimals-then-c-g.ensures, c.from-then-c-g.ensures, c.from-then-c-g-2.ensures, ← c.octets.ensures, ← c.octets-2.ensures)
    (third_decides (slice_index o 0) (slice_index o 1) (slice_index o 2) (slice_index o 3) (slice_index p 0) (slice_index p 1) (slice_index p 2) (slice_index p 3) c.if-a-e.false c.if-b-f.false (omega arith) (omega arith) c.if-c-g.true)

pub returns : goal.returns
returns c =
    let o = c.octets.result in
    let p = c.octets-2.result in
    rw (c.cmp_decimals-2.ensures, c.from-2.ensures, c.from-3.ensures, ← c.octets.ensures, ← c.octets-2.ensures)
    (last_decides (slice_index o 0) (slice_index o 1) (slice_index o 2) (slice_index o 3) (slice_index p 0) (slice_index p 1) (slice_index p 2) (slice_index p 3) c.if-a-e.false c.if-b-f.false c.if-c-g.false)
