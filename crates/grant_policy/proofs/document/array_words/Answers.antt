use Rattle.std.proofs.Common.{◌∙◌}
use Rattle.std.proofs.lemmas.Result.{err_from_is_err_and}
use Rattle.grant_policy.proofs.ReadLemmas.{Refuses-on, item_here, words_more, words_stop, words_done}
use Rattle.grant_policy.proofs.document.array_words.Goals as goal

pub loop-item-preserved : goal.loop-item-preserved
loop-item-preserved g c =
    let items = c.args.items.now in
    let i = c.loop-item.item-index in
    let v = c.item-item.result in
    let here = item_here items i v c.loop-item-test.true c.item-item.is in
    rw c.in_ok-push.ensures.items (c.loop-item.invariant ∙ words_more g.T.Word.word_of c.args.place items c.loop-item.words.items i v c.in_ok-word_of.field-0 c.loop-item-test.true here c.in_ok-word_of.ensures)

pub returns-in_err-word_of : goal.returns-in_err-word_of
returns-in_err-word_of g c =
    let p = err_from_is_err_and c.from_residual.result c.from_residual.ensures.1 in
    let items = c.args.items.now in
    let i = c.loop-item.item-index in
    let v = c.item-item.result in
    let here = item_here items i v c.loop-item-test.true c.item-item.is in
    rw (p.1, p.2) (Refuses-on _ _ _ (λ fault e. c.loop-item.invariant ∙ words_stop g.T.Word.word_of c.args.place items c.loop-item.words.items i v fault here e) c.in_err-word_of.ensures)

pub returns : goal.returns
returns g c = c.loop-item.invariant ∙ words_done g.T.Word.word_of c.args.place c.args.items.now c.loop-item.words.items c.loop-item.item-index c.loop-item-test.false
