use Rattle.std.proofs.Common.{◌∙◌, ap, sym, List, ℕ, Bor, ◌++◌, map, drop}
use Rattle.std.proofs.lemmas.Simd.{map-map}
use Rattle.std.specs.List.{join_with_byte}
use Rattle.wire_json.specs.Json.{quoted}
use Rattle.cli_text.proofs.LineObjectLemmas.{joined, in_brackets}
use Rattle.cli_text.proofs.line_objects.array.Goals as goal

pub returns : goal.returns
returns c =
    let words = c.args.words.now in
    let list = join_with_byte 44 (map quoted (map (λ (w : Bor (List ℕ)). w.now) words)) in
    let rest =
    c.after_first.ensures
    ∙ (ap (drop 1) (c.deref.ensures.value ∙ c.in_ok-strings.ensures)
    ∙ (joined 44 (λ (w : Bor (List ℕ)). quoted w.now) words ∙ ap (join_with_byte 44) (sym (map-map quoted (λ (w : Bor (List ℕ)). w.now) words)))) in
    in_brackets c.in_ok-value.value.items list c.extend_from_slice.new.self.items c.push.new.self.items (c.in_ok-value.ensures.items)
    (c.in_ok-extend_from_slice.ensures.items ∙ ap (λ (l : List ℕ). c.in_ok-value.value.items ++ l) rest) c.in_ok-push.ensures.items
