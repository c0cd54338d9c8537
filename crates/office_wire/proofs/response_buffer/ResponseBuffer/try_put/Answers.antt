use Rattle.std.proofs.Common.{◌≡◌, ◌≤◌, ℕ, List, length, arith, ap, refl, ◌∙◌}
use Rattle.std.proofs.lemmas.List.{length-take-le}
use Rattle.office_wire.proofs.TextLemmas.{placed_text}
use Rattle.office_wire.proofs.response_buffer.ResponseBuffer.try_put.Goals as goal

pub returns-in-Ok-clause-text : goal.returns-in-Ok-clause-text
returns-in-Ok-clause-text c =
    let old = c.self.inside.text in
    let text = c.push_body.new.out in
    let enough : 256 ≤ length old.items = omega (arith, old.ok.0, c.self.invariant.2) in
    let room : length c.truncate.new.self.items ≡ 256 = ap (λ (l : List ℕ). length l) c.truncate.ensures.items ∙ length-take-le 256 old.items enough in
    let len : c.len.result ≡ length text.items = c.len.ensures ∙ text.ok.0 in
    placed_text c.args.method c.args.response.now c.args.closing _ c.as_slice.result.now _ text.items c.truncate.new.self.items c.len.result _ c.place_head-self-inside.ensures.text c.drop_unsent.ensures.sent
    c.in-Ok.ensures.text room len refl
    (c.as_slice.ensures.value ∙ c.put_head.ensures.text)
