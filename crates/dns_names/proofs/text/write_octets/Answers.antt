use Rattle.std.proofs.Common.{◌≡◌, ℕ, List, [], ◌∷◌, ◌++◌, sym, ap, ◌∙◌, append_assoc, append-nil, refl}
use Rattle.std.proofs.Output.{has_written_append, has_written_of_eq}
use Rattle.std.proofs.lemmas.List.{nil_from_length}
use Rattle.dns_names.proofs.TextLemmas.{run_fits, first_run, run_and_octet, last_run}
use Rattle.dns_names.proofs.text.write_octets.Goals as goal

pub split_at-requires : goal.split_at-requires
split_at-requires g c = run_fits c.loop-octet.rest.now c.plain_len.result c.plain_len.ensures

pub plain_text-requires : goal.plain_text-requires
plain_text-requires g c = first_run c.loop-octet.rest.now c.split_at.result.0.now c.plain_len.result c.plain_len.ensures c.split_at.ensures.front

pub returns-in_default : goal.returns-in_default
returns-in_default g c = λ plain ok.
    let now = c.loop-octet.invariant plain in
    let run = c.split_at.result.0.now in
    let passes = first_run c.loop-octet.rest.now run c.plain_len.result c.plain_len.ensures c.split_at.ensures.front in
    let whole : c.loop-octet.rest.now ≡ run = c.split_at.ensures.by_index.0 ∙ ap (λ (l : List ℕ). run ++ l) (nil_from_length c.split_at.result.1.now c.in_default.ensures.cases) ∙ append-nil run in
    let wrote = has_written_append _ _ _ _ _ _ now.1 (rw c.plain_text.ensures at (c.in_ok-write_str.ensures.writes now.1.plain refl)) in
    has_written_of_eq _ _ _ _ _ (last_run now.0 run c.args.label.now passes (ap (λ (l : List ℕ). now.0 ++ l) (sym whole) ∙ now.2)) wrote

pub loop-octet-preserved : goal.loop-octet-preserved
loop-octet-preserved g c = λ plain.
    let now = c.loop-octet.invariant plain in
    let run = c.split_at.result.0.now in
    let octet = c.in-Some.octet.now in
    let others = c.in-Some.others.now in
    let passes = first_run c.loop-octet.rest.now run c.plain_len.result c.plain_len.ensures c.split_at.ensures.front in
    let whole : c.loop-octet.rest.now ≡ run ++ octet ∷ others = c.split_at.ensures.by_index.0 ∙ ap (λ (l : List ℕ). run ++ l) c.in-Some.ensures.cases.0 in
    let wrote = has_written_append _ _ _ _ _ _ now.1 (rw c.plain_text.ensures at (c.in_ok-write_str.ensures.writes now.1.plain refl)) in (
      now.0 ++ (run ++ octet ∷ []),
      has_written_of_eq _ _ _ _ _ (run_and_octet now.0 run octet passes) (has_written_append _ _ _ _ _ _ wrote (c.in_ok-write_octet.ensures wrote.plain refl)),
      append_assoc now.0 (run ++ octet ∷ []) others ∙ ap (λ (l : List ℕ). now.0 ++ l) (append_assoc run (octet ∷ []) others ∙ sym whole) ∙ now.2,
    )
