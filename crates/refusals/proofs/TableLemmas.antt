-- What holds of the table, by computation, and of the rows of a number.
use Rattle.std.proofs.Common.{◌≡◌, ◌∙◌, ap, ap₂, ℕ, Bool, true, false, cond, List, [], ◌∷◌, Option, Some, None, refl, sym, subst, option_map}
use Rattle.std.specs.Prelude.{◌&&◌, bytes_eq, find, option_and_then}
use Rattle.std.specs.List.{join_with_byte}
use Rattle.std.proofs.lemmas.Bool.{and_parts}
use Rattle.std.proofs.lemmas.Slice.Eq.{bytes_eq-Decides}
use Rattle.std.proofs.lemmas.List.Splits.{join_with_byte-slice_split}
use Rattle.refusals.specs.declared.row.NumberPlace.{NumberPlace}
use Rattle.refusals.specs.declared.row.NumberPlace.TheVariants as place
use Rattle.refusals.specs.Tables.{RowOf, rows, input_rows, name_rows, data_rows, file_rows, zone_rows, policy_rows, store_rows, request_rows, command_rows, code_rows}
use Rattle.refusals.specs.Numbers.{behind, ends, may_be, parts_of, row_in, rows_from}
use Rattle.refusals.specs.Laws.{NumbersAreApart, RowsAreOfTheirNumber, TextsArePlain, numbers}

pub apart : NumbersAreApart
unfolding rows input_rows name_rows data_rows file_rows zone_rows policy_rows store_rows request_rows command_rows code_rows
apart = refl

pub plain : TextsArePlain
unfolding rows input_rows name_rows data_rows file_rows zone_rows policy_rows store_rows request_rows command_rows code_rows
plain = refl

-- ---- the rows of a number

found_passes : {T : Type 0} (test : T → Bool) (all : List T) (t : T) → find test all ≡ Some t → test t ≡ true
found_passes test [] t e = absurd cc
found_passes {T} test (s ∷ all) t e = first_passes (test s) refl (found_passes test all t) e
  where
    first_passes : (b : Bool) → test s ≡ b → (find test all ≡ Some t → test t ≡ true) → cond b (Some s) (find test all) ≡ Some t → test t ≡ true
    first_passes true p later e = let q : s ≡ t = cc in subst (λ (u : T). test u ≡ true) q p
    first_passes false p later e = later e

none_left : (at : NumberPlace) (found : List RowOf) → ends at ≡ Some found → numbers found ≡ []
none_left place.End found e = let q : [] ≡ found = cc in ap numbers (sym q)
none_left place.Start found e = absurd cc
none_left place.Entry found e = absurd cc
none_left place.Name found e = absurd cc

one_more : (row : RowOf) (part : List ℕ) (parts : List (List ℕ)) (found : List RowOf) (more : Option (List RowOf)) → row.number ≡ part
    → ((rest : List RowOf) → more ≡ Some rest → numbers rest ≡ parts) → option_map (λ rest. row ∷ rest) more ≡ Some found → numbers found ≡ part ∷ parts
one_more row part parts found None is others e = absurd cc
one_more row part parts found (Some rest) is others e =
    let q : (row ∷ rest) ≡ found = cc in
    ap numbers (sym q) ∙ ap₂ (λ n ns. n ∷ ns) is (others rest refl)

rows_are : (all : List RowOf) (at : NumberPlace) (parts : List (List ℕ)) (found : List RowOf) → rows_from all at parts ≡ Some found → numbers found ≡ parts
rows_are all at [] found e = none_left at found e
rows_are all at (part ∷ parts) found e = from_row (λ behind_it rest. rows_are all behind_it parts rest) (row_in all at part) refl e
  where
    from_row : ((behind_it : NumberPlace) (rest : List RowOf) → rows_from all behind_it parts ≡ Some rest → numbers rest ≡ parts)
        → (o : Option RowOf) → row_in all at part ≡ o
        → option_and_then (λ row. option_map (λ more. row ∷ more) (rows_from all (behind row.kind) parts)) o ≡ Some found → numbers found ≡ part ∷ parts
    from_row others None is f = absurd cc
    from_row others (Some row) is f =
        let passes = found_passes (λ r. may_be r.kind at && bytes_eq r.number part) all row is in
        one_more row part parts found (rows_from all (behind row.kind) parts) ((bytes_eq-Decides row.number part).0 (and_parts (may_be row.kind at) (bytes_eq row.number part) passes).1)
        (λ rest h. others (behind row.kind) rest h) f

pub of_their_number : RowsAreOfTheirNumber
of_their_number number found e = ap (join_with_byte 46) (rows_are rows place.Start (parts_of number) found e) ∙ join_with_byte-slice_split 46 number
