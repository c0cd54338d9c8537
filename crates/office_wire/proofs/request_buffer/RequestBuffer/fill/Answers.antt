use Rattle.std.proofs.Common.{rules, ◌≡◌, ◌<◌, ◌≤◌, ◌-◌, ℕ, List, length, take, arith, vec_len, ◌∙◌, subst}
use Rattle.std.proofs.lemmas.List.{length-take-le}
use Rattle.office_wire.specs.Framing.{WaitsUpTo}
use Rattle.office_wire.proofs.HeadLemmas.{waits_with_more}
use Rattle.office_wire.proofs.WindowLemmas.{filled_view}
use Rattle.office_wire.proofs.request_buffer.RequestBuffer.fill.Goals as goal

pub returns-clause-got : goal.returns-clause-got
returns-clause-got g c =
    let n = c.in_ok-got.got in
    let s = c.self.inside in
    let bytes = c.to_front-self-inside.new.bytes in
    let r = c.to_front-self-inside.result in
    let buf = c.read_some.new.buffer in
    let xs = bytes.items in
    let len : vec_len bytes ≡ length xs = bytes.ok.0 in
    let room : vec_len bytes ≡ 81920 = c.to_front-self-inside.ensures.len ∙ c.self.invariant.2 in
    let within : r ≤ length xs = omega (arith, len, room, c.to_front-self-inside.ensures.count, c.self.invariant.0, c.self.invariant.1) in
    let fits : n ≤ length buf = search rules in
    let whole : c.deref_mut.result.now ≡ xs = search rules in
    let same : length buf ≡ length xs - r = search rules in
    let old : take r xs ≡ c.args.self.now = c.to_front-self-inside.ensures.front ∙ c.self.view_is in
    let least : length (take r xs) ≡ r = length-take-le r xs within in
    let asked : length (take r xs) < 81920 = rw old c.requires in
    let some : 0 < length buf = omega (arith, least, asked, same, len, room) in
    let h = c.in_ok-got.ensures.read.bytes in
    (take n buf, rw whole (filled_view xs buf c.args.self.now r n bytes.len len within fits same old), length-take-le n buf fits, h.0, (λ z. h.1 z some), c.in_ok-got.ensures.read.event.0, c.in_ok-got.ensures.read.event.1)

pub invariant_of-self-2 : goal.invariant_of-self-2
invariant_of-self-2 g c =
    let n = c.in_ok-got.got in
    let s = c.self.inside in
    let bytes = c.to_front-self-inside.new.bytes in
    let r = c.to_front-self-inside.result in
    let buf = c.read_some.new.buffer in
    let xs = bytes.items in
    let len : vec_len bytes ≡ length xs = bytes.ok.0 in
    let room : vec_len bytes ≡ 81920 = c.to_front-self-inside.ensures.len ∙ c.self.invariant.2 in
    let within : r ≤ length xs = omega (arith, len, room, c.to_front-self-inside.ensures.count, c.self.invariant.0, c.self.invariant.1) in
    let fits : n ≤ length buf = search rules in
    let whole : c.deref_mut.result.now ≡ xs = search rules in
    let same : length buf ≡ length xs - r = search rules in
    let old : take r xs ≡ c.args.self.now = c.to_front-self-inside.ensures.front ∙ c.self.view_is in
    let waited : WaitsUpTo c.args.self.now s.awaited = subst (λ (l : List ℕ). WaitsUpTo l s.awaited) c.self.view_is c.self.invariant.4 in
    (omega arith, omega (arith, within, fits, same, len, room), room, c.self.invariant.3, rw whole (waits_with_more c.args.self.now (take n buf) _ s.awaited (filled_view xs buf c.args.self.now r n bytes.len len within fits same old) waited))
