use Rattle.std.proofs.Common.{◌∙◌, ap}
use Rattle.toml.specs.Data.{string}
use Rattle.policy_build.proofs.PrintingLemmas.{words_more}
use Rattle.policy_build.proofs.printing.words_value.Goals as goal

pub loop-word-preserved : goal.loop-word-preserved
loop-word-preserved g c =
    let words = c.args.words.now in
    let i = c.loop-word.word-index in
    rw c.in_ok-push.ensures.items (words_more g.T.Word.word_text words i c.word-item.result c.loop-word.values.items c.in_ok-string.field-0 c.loop-word-test.true c.word-item.is c.loop-word.invariant (c.in_ok-string.ensures ∙ ap string c.word.ensures))
