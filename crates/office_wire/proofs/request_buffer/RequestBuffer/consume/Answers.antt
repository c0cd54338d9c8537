use Rattle.std.proofs.Common.{◌≡◌, ◌≤◌, ◌-◌, arith, length, take, drop, vec_len, length-drop}
use Rattle.std.proofs.lemmas.List.{length-take-le}
use Rattle.office_wire.proofs.WindowLemmas.{dropped}
use Rattle.office_wire.proofs.request_buffer.RequestBuffer.consume.Goals as goal

pub returns : goal.returns
returns c =
    let s = c.self.inside in
    let xs = s.bytes.items in
    let len : vec_len s.bytes ≡ length xs = s.bytes.ok.0 in
    let enough : s.end - s.start ≤ length (drop s.start xs) = simp length-drop (omega (arith, len, c.self.invariant.0, c.self.invariant.1, c.self.invariant.2)) in
    let k : length (take (s.end - s.start) (drop s.start xs)) ≡ s.end - s.start = length-take-le (s.end - s.start) (drop s.start xs) enough in
    let asked : c.args.n ≤ length (take (s.end - s.start) (drop s.start xs)) = rw c.self.view_is c.requires in
    rw (← c.self.view_is) (dropped xs s.start s.end c.args.n (omega (arith, k, asked, c.self.invariant.0)))
