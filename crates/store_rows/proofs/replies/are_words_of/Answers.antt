use Rattle.std.proofs.Common.{◌≡◌, ◌++◌, inr, ⊎_elim, true, sym, ◌∙◌}
use Rattle.std.proofs.lemmas.Bool.{false≢true}
use Rattle.std.proofs.lemmas.Slice.Eq.{bytes_eq-Decides}
use Rattle.std.specs.Prelude.{codes}
use Rattle.office_model.specs.ReplyWords.{is_by_default}
use Rattle.store_rows.proofs.ReplyLaws.{written_or_former}
use Rattle.store_rows.proofs.replies.are_words_of.Goals as goal

pub returns-then-is_by_default : goal.returns-then-is_by_default
returns-then-is_by_default c =
    let words = c.args.words.now in
    let written = c.args.written.now in
    let told = written_or_former c.args.reply.now words written c.requires in
    let default : is_by_default c.args.reply.now ≡ true = sym c.is_by_default.ensures ∙ c.if-is_by_default.true in (
      λ e. told.1 (inr (default, c.ends_in_closing.ensures.0 e)),
      λ are. ⊎_elim (λ (same : words ≡ written). absurd (false≢true (sym c.if-eq.false ∙ c.eq.ensures ∙ (bytes_eq-Decides words written).1 same)))
          (λ (former : (is_by_default c.args.reply.now ≡ true) × (written ≡ words ++ codes " closing")). c.ends_in_closing.ensures.1 former.1) (told.0 are),
    )
