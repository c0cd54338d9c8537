use Rattle.std.proofs.Common.{◌≡◌, ◌∷◌, ◌++◌, [], true, None, Some, take, get_or, refl, sym, ap, ◌∙◌}
use Rattle.std.specs.List.{position}
use Rattle.std.proofs.Output.{has_written_append, has_written_of_eq}
use Rattle.std.proofs.lemmas.List.Quantifiers.{position-Some}
use Rattle.dns_data.specs.Strings.{is_escaped, string_text}
use Rattle.dns_data.proofs.RunLemmas.{run_plain, rest_plain, step_parts, run_text, last_text}
use Rattle.dns_data.proofs.text.CharacterStringDisplay.fmt.Goals as goal

pub loop-at-init : goal.loop-at-init
loop-at-init g c = ([], c.octets-rest.ensures.octets, λ plain. c.in_ok-write_str.ensures.writes plain (refl {a = true}))

pub write_run-requires : goal.write_run-requires
write_run-requires g c = run_plain c.loop-at.rest.now c.in-Some.at (sym c.in-Some.ensures.value)

pub loop-at-preserved : goal.loop-at-preserved
loop-at-preserved g c =
    let l = c.loop-at in
    let front = l.invariant.0 in
    let rest = l.rest.now in
    let at = c.in-Some.at in
    let found : position is_escaped rest ≡ Some at = sym c.in-Some.ensures.value in
    let place = position-Some is_escaped rest at 0 found in
    let run = take at rest in
    let o = get_or rest at 0 in (
      front ++ (run ++ o ∷ []),
      step_parts c.args.self.now front rest at place.0 l.invariant.1,
      λ plain.
          let now = l.invariant.2 plain in
          let more = has_written_append _ _ _ _ _ _ now (c.in_ok-write_run.ensures now.plain (refl {a = true})) in
          has_written_of_eq _ _ _ _ _ (ap (λ text. 34 ∷ text) (run_text front run o (run_plain rest at found))) (has_written_append _ _ _ _ _ _ more (c.in_ok-write_octet.ensures more.plain (refl {a = true}))),
    )

pub write_run-requires-2 : goal.write_run-requires-2
write_run-requires-2 g c = rest_plain c.loop-at.rest.now (sym c.in_default.ensures.value)

pub returns-clause-writes : goal.returns-clause-writes
returns-clause-writes g c = λ plain ok.
    let l = c.loop-at in
    let front = l.invariant.0 in
    let rest = l.rest.now in
    let ends : position is_escaped rest ≡ None = sym c.in_default.ensures.value in
    let now = l.invariant.2 plain in
    let more = has_written_append _ _ _ _ _ _ now (c.in_ok-write_run-2.ensures now.plain (refl {a = true})) in
    let text = last_text front rest (rest_plain rest ends) ∙ ap string_text l.invariant.1 in
    has_written_of_eq _ _ _ _ _ (ap (λ text. 34 ∷ text ++ 34 ∷ []) text) (has_written_append _ _ _ _ _ _ more (c.write_str-2.ensures.writes more.plain ok))
