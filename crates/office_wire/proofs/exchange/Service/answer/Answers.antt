use Rattle.std.proofs.Common.{◌≡◌, ◌+◌, [], ◌∷◌, ◌++◌, List, ℕ, drop, refl, ◌∙◌, ap, subst, true, arith}
use Rattle.office_wire.specs.Exchange.{Closes, octets_of, bad_length, bad_head, whole}
use Rattle.office_wire.specs.declared.method.Method.{Method}
use Rattle.office_wire.specs.declared.response.Response.TheVariants.{Refused}
use Rattle.office_wire.specs.Texts.{text_of}
use Rattle.office_wire.specs.Serving.{standing}
use Rattle.office_wire.proofs.ServfailLemmas.{one_noted}
use Rattle.office_wire.proofs.TurnLemmas.{ready, head_some}
use Rattle.office_wire.proofs.exchange.Service.answer.Goals as goal

pub returns-in-Bad-clause-answered : goal.returns-in-Bad-clause-answered
returns-in-Bad-clause-answered g c = λ honest s held. (s, held, ([], (refl, refl), bad_head (rw c.as_slice-pending.ensures.value at c.in-Bad.ensures) refl c.put_short.ensures))

pub returns-in-Refused-clause-answered : goal.returns-in-Refused-clause-answered
returns-in-Refused-clause-answered g c = λ honest s held. let f = rw c.as_slice-pending.ensures.value at c.in-Refused.ensures in
    (s, held, ([], (refl, refl), bad_length f.0 f.1 c.in-Refused.refusal f.2 f.4 f.5 refl (c.put_short-in-Refused.ensures ∙ ap (λ (m : Method). text_of m (Refused c.in-Refused.refusal) true) f.3)))

pub returns-then-last-clause-answered : goal.returns-then-last-clause-answered
returns-then-last-clause-answered g c = λ honest s held.
    let f = c.in-Ready.ensures in
    let a = c.reply-last.ensures.answered honest s held f.0 f.1.asked in
    let before = standing s (g.T.ZoneTable.failures c.args.table.now) in
    let now = standing a.0 (g.T.ZoneTable.failures c.reply-last.new.table) in
    let t = ready c.args.self.now.policy.now before now c.as_slice-pending.result.now c.reply-last.new.out f.0 c.in-Ready.heading c.in-Ready.n a.2.response c.reply-last.result f.1 f.2 f.3 f.4 f.5 a.2.answers a.2.last_is a.2.text_is in
    let closes = whole t.turn _ t.is (t.closing ∙ c.if-last.true) t.octets refl t.text in (
      a.0,
      a.1,
      (t.turn ∷ [], (t.run, a.2.note ∙ one_noted c.args.self.now.servfails t.turn a.2.response t.said), subst (λ (l : List ℕ). Closes l (t.turn ∷ []) c.reply-last.new.out) c.as_slice-pending.ensures.value closes),
    )

pub returns-else-last-clause-answered : goal.returns-else-last-clause-answered
returns-else-last-clause-answered g c = λ honest s held.
    let f = c.in-Ready.ensures in
    let a = c.reply-last.ensures.answered honest s held f.0 f.1.asked in
    let before = standing s (g.T.ZoneTable.failures c.args.table.now) in
    let now = standing a.0 (g.T.ZoneTable.failures c.reply-last.new.table) in
    let t = ready c.args.self.now.policy.now before now c.as_slice-pending.result.now c.reply-last.new.out f.0 c.in-Ready.heading c.in-Ready.n a.2.response c.reply-last.result f.1 f.2 f.3 f.4 f.5 a.2.answers a.2.last_is a.2.text_is in
    let octets = subst (λ (l : List ℕ). l ≡ octets_of t.turn ++ drop (c.in-Ready.heading.len + c.in-Ready.n) l) c.as_slice-pending.ensures.value t.octets in
    (a.0, a.1, (t.turn, (t.run, a.2.note ∙ one_noted c.args.self.now.servfails t.turn a.2.response t.said), record { turn = t.is; stays = t.closing ∙ c.if-last.false }, octets, t.text))

pub returns-else-last-clause-stands : goal.returns-else-last-clause-stands
returns-else-last-clause-stands g c =
    let f = rw c.as_slice-pending.ensures.value at c.in-Ready.ensures in
    let len = f.1.len in
    let some = head_some f.0 in
    (omega arith, f.5)
