use Rattle.std.proofs.Common.{◌≡◌, drop}
use Rattle.toml.specs.View.{items_view}
use Rattle.grant_policy.specs.Reading.{words_of}
use Rattle.grant_policy.proofs.ReadLemmas.{with_front}
use Rattle.grant_policy.proofs.document.array_words.Given as goal

-- the words so far stand before those of the other items
abbrev pub invariant-loop-item : goal.invariant-loop-item
invariant-loop-item g l =
    words_of g.T.Word.word_of l.place (items_view l.items) ≡ with_front l.words.items (words_of g.T.Word.word_of l.place (items_view (drop l.item-index l.items)))
