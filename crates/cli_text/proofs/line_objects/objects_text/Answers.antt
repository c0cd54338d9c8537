use Rattle.std.proofs.Common.{◌∙◌, ap, sym, List, ℕ, Bor}
use Rattle.std.specs.List.{flat_map}
use Rattle.std.proofs.lemmas.List.Folds.{flat_map-map}
use Rattle.cli_text.specs.LineObjects.{line_object}
use Rattle.cli_text.proofs.line_objects.objects_text.Goals as goal

pub returns : goal.returns
returns c =
    let each = λ (line : Bor (List ℕ)). line_object c.args.kind line.now in
    let same = ap (flat_map each) c.deref.ensures.value ∙ (sym (flat_map-map (line_object c.args.kind) (λ (line : Bor (List ℕ)). line.now) c.in_ok-lines.lines.items)
    ∙ ap (flat_map (line_object c.args.kind)) c.in_ok-lines.ensures) in
    rw same at c.objects_of.ensures
