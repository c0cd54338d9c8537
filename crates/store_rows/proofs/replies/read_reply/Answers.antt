use Rattle.std.proofs.Common.{◌≡◌, true, sym, ap, subst, ◌∙◌}
use Rattle.std.proofs.lemmas.Result.{err_from_is_err_and}
use Rattle.office_model.specs.declared.reply.UpdateReply.TheVariants.{NoError}
use Rattle.office_model.specs.ReplyWords.{AreWordsOf, Current}
use Rattle.store_rows.specs.RowReading.{reply_in}
use Rattle.store_rows.proofs.NameLemmas.{bytes_is}
use Rattle.store_rows.proofs.ReplyLaws.{one_reply, text_read}
use Rattle.store_rows.proofs.RowSteps.{done, ok_is, refuses_given}
use Rattle.store_rows.proofs.replies.read_reply.Goals as goal

pub returns-in_err-reply-clause-only : goal.returns-in_err-reply-clause-only
returns-in_err-reply-clause-only c = λ reply is are.
    let p = err_from_is_err_and c.from_residual.result c.from_residual.ensures.1 in
    rw (p.1, p.2) (refuses_given c.in_err-reply.field-0.0 (reply_in c.args.words.now) reply reply (text_read reply c.args.words.now is are) c.in_err-reply.ensures)

pub returns-then-not-are_words_of-clause-only : goal.returns-then-not-are_words_of-clause-only
returns-then-not-are_words_of-clause-only c = λ reply is are.
    let read = ok_is reply c.in_ok-reply.reply (sym (text_read reply c.args.words.now is are) ∙ c.in_ok-reply.ensures) in
    let told : c.are_words_of.result ≡ true = c.are_words_of.ensures.1 (subst (λ r. AreWordsOf r c.args.words.now) read are) in
    absurd (let no = c.if-not-are_words_of.true in cc)

pub returns-clause-found : goal.returns-clause-found
returns-clause-found c = (c.are_words_of.ensures.0 c.if-not-are_words_of.false, c.reveal_reply.ensures)

pub returns-clause-only : goal.returns-clause-only
returns-clause-only c = λ reply is are. ap done (ok_is reply c.in_ok-reply.reply (sym (text_read reply c.args.words.now is are) ∙ c.in_ok-reply.ensures))

pub returns-then-eq-clause-found : goal.returns-then-eq-clause-found
returns-then-eq-clause-found c = ((Current, bytes_is c.args.words.now c.text.result.now (sym c.eq.ensures ∙ c.if-eq.true) ∙ c.text.ensures), tt)

pub returns-then-eq-clause-only : goal.returns-then-eq-clause-only
returns-then-eq-clause-only c = λ reply is are.
    ap done (one_reply c.args.words.now reply NoError is tt are (Current, bytes_is c.args.words.now c.text.result.now (sym c.eq.ensures ∙ c.if-eq.true) ∙ c.text.ensures))
