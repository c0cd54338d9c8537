use Rattle.std.proofs.Common.{◌≡◌, ◌++◌, ℕ, List, Some, sym, ap, ◌∙◌}
use Rattle.std.proofs.lemmas.Bool.Decides.{Decides-eqb}
use Rattle.std.proofs.lemmas.List.{append_cancel_right}
use Rattle.std.proofs.lemmas.Slice.Eq.{bytes_eq-Decides, strip_suffix_is}
use Rattle.std.specs.Prelude.{codes}
use Rattle.store_rows.proofs.replies.ends_in_closing.Goals as goal

pub returns-in-Some : goal.returns-in-Some
returns-in-Some c =
    let front = c.in-Some.front.now in
    let words = c.args.words.now in
    let cut : c.as_bytes.result.now ≡ front ++ c.as_slice.result.now = strip_suffix_is Decides-eqb c.as_bytes.result.now c.as_slice.result.now (Some c.in-Some.front) c.in-Some.ensures.cases in
    let whole : c.args.written.now ≡ front ++ codes " closing" = sym c.as_bytes.ensures.value ∙ cut ∙ ap (λ (l : List ℕ). front ++ l) c.as_slice.ensures in
    let same = bytes_eq-Decides front c.as_bytes-in-Some.result.now in (
      λ e. whole ∙ ap (λ (l : List ℕ). l ++ codes " closing") (same.0 (sym c.eq.ensures ∙ e) ∙ c.as_bytes-in-Some.ensures.value),
      λ e. c.eq.ensures ∙ same.1 (append_cancel_right front words (codes " closing") (sym whole ∙ e) ∙ sym c.as_bytes-in-Some.ensures.value),
    )
