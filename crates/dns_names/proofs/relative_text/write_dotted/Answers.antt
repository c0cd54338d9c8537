use Rattle.std.proofs.Common.{List, ℕ, [], ◌∷◌, ◌++◌, sym, ap, ◌∙◌, append_assoc, append-nil, refl}
use Rattle.std.proofs.Output.{has_written_append, has_written_of_eq}
use Rattle.std.proofs.lemmas.List.{flat_map_more}
use Rattle.std.specs.List.{flat_map}
use Rattle.dns_names.specs.Spelling.{dotted_label}
use Rattle.dns_names.proofs.relative_text.write_dotted.Goals as goal

pub loop-label-preserved : goal.loop-label-preserved
loop-label-preserved g c = λ plain.
    let now = c.loop-label.invariant plain in
    let label = c.in-Some.label.now in
    let dot = c.in_ok-write_str.ensures.writes now.1.plain refl in (
      now.0 ++ label ∷ [],
      has_written_of_eq _ _ _ _ _ (flat_map_more dotted_label [] now.0 label) (has_written_append _ _ _ _ _ _ now.1 (has_written_append _ _ _ _ _ _ dot (c.in_ok-write_octets.ensures dot.plain refl))),
      append_assoc now.0 (label ∷ []) c.next.new.self ∙ ap (λ (l : List (List ℕ)). now.0 ++ l) (sym c.in-Some.ensures.steps) ∙ now.2,
    )

pub returns : goal.returns
returns g c = λ plain ok.
    let now = c.loop-label.invariant plain in
    let all = sym (append-nil now.0) ∙ ap (λ (l : List (List ℕ)). now.0 ++ l) (sym c.in-None.ensures.steps.0) ∙ now.2 in
    has_written_of_eq _ _ _ _ _ (ap (flat_map dotted_label) all) now.1
