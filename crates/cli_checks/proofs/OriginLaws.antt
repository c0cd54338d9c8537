-- What `zones` prints is a list of zones.
use Rattle.std.proofs.Common.{◌≡◌, ◌∙◌, ℕ, ◌+◌, ◌<◌, Bool, true, false, not, ◌||◌, cond, eqb, List, [], ◌∷◌, ◌++◌, length, map, Option, Some, None, Result, Ok, Err, refl, sym, ap, append_assoc, arith}
use Rattle.std.specs.Prelude.{bytes_eq}
use Rattle.std.specs.List.{AllByRecursion, find, flat_map, list_any, slice_split}
use Rattle.std.specs.Option.{option_to_list}
use Rattle.std.proofs.Math.Bool.{or-true}
use Rattle.std.proofs.lemmas.Bool.{false≢true}
use Rattle.std.proofs.lemmas.Bool.Decides.{nat_tests}
use Rattle.std.proofs.lemmas.List.Elements.{All-weaker, All-append, All-cons, All-from_recursion}
use Rattle.std.proofs.lemmas.List.Splits.{slice_split_at}
use Rattle.std.proofs.lemmas.Slice.Eq.{bytes_eq-Decides}
use Rattle.dns_names.specs.declared.name_fault.NameFault.{NameFault}
use Rattle.dns_names.specs.declared.name_fault.NameFault.TheVariants.{Empty}
use Rattle.dns_names.specs.Labels.{IsName}
use Rattle.dns_names.specs.Reading.{absolute_name}
use Rattle.dns_names.specs.Spelling.{label_octets, label_text, name_text}
use Rattle.dns_names.proofs.ReadingLaws.{absolute_again}
use Rattle.dns_data.proofs.CutLemmas.{name_visible}
use Rattle.policy_tools.specs.ExpectationLines.{is_blank, lines_of}
use Rattle.policy_tools.specs.ExpectationReading.{is_comment}
use Rattle.cli_core.specs.declared.refusal.Refusal.{Refusal}
use Rattle.cli_core.specs.LineFaults.{◌>>=◌}
use Rattle.cli_text.specs.Questions.{name_on}
use Rattle.cli_checks.specs.OriginLists.{first_word, elsewhere, is_passed_over, origin_on, origins_from, ListedZone, listed_line, listed_end, IsOneLine, EndIsOneLine, IsListed, ListsAreRead}

-- ---- octets of names

no_feed : (o : ℕ) → 32 < o → eqb o 10 ≡ false
no_feed o h = grind (arith, nat_tests)

no_blank : (o : ℕ) → 32 < o → is_blank o ≡ false
no_blank o h = grind (arith, nat_tests)

-- a text that is no name is not that of one
other_text : (name : List (List ℕ)) (text : List ℕ) (fault : NameFault) → IsName name → absolute_name text ≡ Err fault → ¬ (name_text name ≡ text)
other_text name text fault is none same =
    let read = absolute_again name is in
    let none' = ap absolute_name same ∙ none in
    cc (read, none')

not_so : (b : Bool) → ¬ (b ≡ true) → b ≡ false
not_so true other = absurd (other refl)
not_so false other = refl

apart : (a b : List ℕ) → ¬ (a ≡ b) → bytes_eq a b ≡ false
apart a b other = not_so (bytes_eq a b) (λ e. other ((bytes_eq-Decides a b).0 e))

abbrev has_octets : List ℕ → Bool
has_octets text = not (eqb (length text) 0)

some_octets : (text : List ℕ) → ¬ (text ≡ []) → has_octets text ≡ true
some_octets [] other = absurd (other refl)
some_octets (o ∷ text) other = grind (arith, nat_tests)

-- ---- a name has a dot

abbrev has_dot : List ℕ → Bool
has_dot text = list_any (λ o. eqb o 46) text

dot_in : (a b : List ℕ) → has_dot (a ++ 46 ∷ b) ≡ true
dot_in [] b = refl
dot_in (o ∷ a) b = ap (λ r. eqb o 46 || r) (dot_in a b) ∙ or-true (eqb o 46)

name_dot : (name : List (List ℕ)) → has_dot (name_text name) ≡ true
name_dot [] = refl
name_dot (label ∷ labels) =
    ap has_dot (append_assoc (label_octets label) (46 ∷ []) (flat_map label_text labels)) ∙ dot_in (label_octets label) (flat_map label_text labels)

no_elsewhere : (name : List (List ℕ)) → ¬ (name_text name ≡ elsewhere)
no_elsewhere name same = false≢true (sym (ap has_dot same) ∙ name_dot name)

-- ---- the line of a zone

word_first : (name : List (List ℕ)) (figures : List ℕ) → IsName name → first_word (name_text name ++ 32 ∷ figures) ≡ Some (name_text name)
word_first name figures is =
    ap (find has_octets) (slice_split_at is_blank (name_text name) 32 figures (All-weaker _ _ no_blank (name_text name) (name_visible name)) refl)
    ∙ ap (λ b. cond b (Some (name_text name)) (find has_octets (slice_split is_blank figures))) (some_octets (name_text name) (other_text name [] Empty is refl))

kept : (name : List (List ℕ)) → is_comment (name_text name) ≡ false → is_passed_over (name_text name) ≡ false
kept name plain = ap (λ b. b || bytes_eq (name_text name) elsewhere) plain ∙ apart (name_text name) elsewhere (no_elsewhere name)

abbrev with_name : ℕ → Result (List (List ℕ)) NameFault → Result (Option (List (List ℕ))) Refusal
with_name line read = name_on line read >>= λ origin. Ok (Some origin)

origin_read : (line : ℕ) (name : List (List ℕ)) (figures : List ℕ) → IsName name → is_comment (name_text name) ≡ false → origin_on line (first_word (name_text name ++ 32 ∷ figures)) ≡ Ok (Some name)
origin_read line name figures is plain =
    ap (origin_on line) (word_first name figures is)
    ∙ ap (λ b. cond b (Ok None) (with_name line (absolute_name (name_text name)))) (kept name plain)
    ∙ ap (with_name line) (absolute_again name is)

-- ---- lines

cut : (a b c : List ℕ) → (a ++ 32 ∷ (b ++ 10 ∷ [])) ++ c ≡ (a ++ 32 ∷ b) ++ 10 ∷ c
cut a b c = simp append_assoc

one_line : (name : List (List ℕ)) (figures : List ℕ) → IsOneLine figures → IsOneLine (name_text name ++ 32 ∷ figures)
one_line name figures line =
    let P : ℕ → Type 0 = λ o. eqb o 10 ≡ false in
    All-append P (name_text name) (32 ∷ figures) (All-weaker _ P no_feed (name_text name) (name_visible name)) (All-cons P 32 figures refl line)

end_line : (figures : List ℕ) → IsOneLine figures → IsOneLine (elsewhere ++ 32 ∷ figures)
end_line figures line =
    let P : ℕ → Type 0 = λ o. eqb o 10 ≡ false in
    All-append P elsewhere (32 ∷ figures) (All-from_recursion P elsewhere (refl, (refl, (refl, (refl, (refl, (refl, (refl, (refl, (refl, tt)))))))))) (All-cons P 32 figures refl line)

line_first : (row more : List ℕ) → IsOneLine row → lines_of (row ++ 10 ∷ more) ≡ row ∷ lines_of more
line_first row more line = slice_split_at (λ o. eqb o 10) row 10 more line refl

abbrev Origins : Type 0
Origins = Result (List (List (List ℕ))) Refusal

abbrev onto : Result (Option (List (List ℕ))) Refusal → Origins → Origins
onto here rest = here >>= λ origin. rest >>= λ origins. Ok (option_to_list origin ++ origins)

each : (number : ℕ) (zones : List ListedZone) (end : Option (List ℕ)) → AllByRecursion IsListed zones → EndIsOneLine end
    → origins_from number (lines_of (flat_map listed_line zones ++ listed_end end)) ≡ Ok (map (λ z. z.origin) zones)
each number [] None all one = refl
each number [] (Some figures) all one =
    ap (λ text. origins_from number (lines_of text)) (sym (append_assoc elsewhere (32 ∷ figures) (10 ∷ [])))
    ∙ ap (origins_from number) (line_first (elsewhere ++ 32 ∷ figures) [] (end_line figures one))
each number (z ∷ zones) end all one =
    let row = name_text z.origin ++ 32 ∷ z.figures in
    let rest = flat_map listed_line zones ++ listed_end end in
    ap (λ text. origins_from number (lines_of text)) (append_assoc (listed_line z) (flat_map listed_line zones) (listed_end end) ∙ cut (name_text z.origin) z.figures rest)
    ∙ ap (origins_from number) (line_first row rest (one_line z.origin z.figures all.0.line))
    ∙ ap (λ here. onto here (origins_from (number + 1) (lines_of rest))) (origin_read number z.origin z.figures all.0.valid all.0.plain)
    ∙ ap (onto (Ok (Some z.origin))) (each (number + 1) zones end all.1 one)

pub lists_are_read : ListsAreRead
lists_are_read zones end all one = each 1 zones end all one
