use Rattle.std.proofs.Common.{◌≡◌, ◌≤◌, ◌-◌, ◌∙◌, arith, length, take, drop, vec_len, length-drop, ltb-true, sym, ap, subst, ℕ, List}
use Rattle.std.proofs.lemmas.List.{length-take-le}
use Rattle.office_wire.specs.Framing.{WaitsUpTo}
use Rattle.office_wire.proofs.HeadLemmas.{waits_now}
use Rattle.office_wire.proofs.request_buffer.RequestBuffer.is_awaiting.Goals as goal

pub returns : goal.returns
returns c = λ less.
    let s = c.self.inside in
    let xs = s.bytes.items in
    let len : vec_len s.bytes ≡ length xs = s.bytes.ok.0 in
    let enough : s.end - s.start ≤ length (drop s.start xs) = simp length-drop (omega (arith, len, c.self.invariant.0, c.self.invariant.1, c.self.invariant.2)) in
    let k : length (take (s.end - s.start) (drop s.start xs)) ≡ s.end - s.start = length-take-le (s.end - s.start) (drop s.start xs) enough in
    let count : length c.args.self.now ≡ s.end - s.start = sym (ap (λ (l : List ℕ). length l) c.self.view_is) ∙ k in
    let waits : WaitsUpTo c.args.self.now s.awaited = subst (λ (l : List ℕ). WaitsUpTo l s.awaited) c.self.view_is c.self.invariant.4 in
    let few = ltb-true (s.end - s.start) s.awaited less in
    (waits_now c.args.self.now s.awaited waits (omega (arith, count, few)), omega (arith, count, few, c.self.invariant.3))
