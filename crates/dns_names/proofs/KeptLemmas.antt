-- Pieces of a text, as far as a name has room for them.
use Rattle.std.proofs.Common.{◌≡◌, ℕ, ◌+◌, ◌≤◌, inl, inr, Bool, true, false, List, [], ◌∷◌, ◌++◌, length, min, set, sum, take, map, refl, sym, ap, ◌∙◌, append_assoc, append-nil, arith, length-append}
use Rattle.std.specs.Prelude.{◌||◌}
use Rattle.std.specs.List.{concat, list_any}
use Rattle.std.proofs.lemmas.Bool.{cases_lt, ltb-false}
use Rattle.std.proofs.lemmas.Bool.Decides.{eqb_tells}
use Rattle.std.proofs.lemmas.List.{take_all, take-append-le, take_more_set, take-set-le, length-map, map-append}
use Rattle.std.proofs.lemmas.List.Folds.{concat-append}
use Rattle.dns_names.specs.Labels.{labels_of, wire_len}
use Rattle.dns_names.proofs.RowLemmas.{sum-lengths, labels_of-name, wire_len-name}
use Rattle.dns_names.specs.Reading.{Pieces, is_empty, is_long}
use Rattle.dns_names.specs.declared.pieces.PieceRows.{PieceRows}
use Rattle.dns_names.specs.Rows.{kept_len, AreKept, AreEnded, with_octet, with_dot}

either_false : (a b : Bool) → (a || b) ≡ false → (a ≡ false) × (b ≡ false)
either_false true b e = absurd cc
either_false false b e = (refl, e)

-- one more after those that are kept, which has a place or is left out
pub keep_more : (room n : ℕ) (row xs : List ℕ) (o : ℕ) → length row ≡ room → n ≡ length xs → take (min n room) row ≡ take room xs → take (min (n + 1) room) (set row n o) ≡ take room (xs ++ o ∷ [])
keep_more room n row xs o long here kept =
    elim (cases_lt n room) [
      | inl l ↦
          let a : min (n + 1) room ≡ n + 1 = omega arith in
          let b : min n room ≡ n = omega arith in
          ap (λ (k : ℕ). take k (set row n o)) a ∙ take_more_set row n o (omega arith) ∙ ap (λ (l : List ℕ). l ++ o ∷ []) (ap (λ (k : ℕ). take k row) (sym b) ∙ kept ∙ take_all room xs (omega arith))
          ∙ sym (take_all room (xs ++ o ∷ []) (omega (arith, length-append xs (o ∷ []))))
      | inr h ↦
          let a : min (n + 1) room ≡ room = omega arith in
          let b : min n room ≡ room = omega arith in
          ap (λ (k : ℕ). take k (set row n o)) a ∙ take-set-le room row n o h ∙ ap (λ (k : ℕ). take k row) (sym b) ∙ kept ∙ sym (take-append-le room xs (o ∷ []) (omega arith))
    ]

module _ (ended : List (List ℕ)) (last : List ℕ) where
  pub octets_more : (o : ℕ) → (concat ended ++ last) ++ o ∷ [] ≡ concat ended ++ (last ++ o ∷ [])
  octets_more o = append_assoc (concat ended) last (o ∷ [])

  pub octets_ended : concat ended ++ last ≡ concat (ended ++ last ∷ []) ++ []
  octets_ended = sym (append-nil (concat (ended ++ last ∷ [])) ∙ concat-append ended (last ∷ []) ∙ ap (λ (l : List ℕ). concat ended ++ l) (append-nil last))

  pub lengths_more : map kept_len ended ++ kept_len last ∷ [] ≡ map kept_len (ended ++ last ∷ [])
  lengths_more = sym (map-append kept_len ended (last ∷ []))

-- a test of one more
pub any_more : (test : List ℕ → Bool) (ls : List (List ℕ)) (l : List ℕ) → (list_any test ls || test l) ≡ list_any test (ls ++ l ∷ [])
any_more test [] l = by (test l)
  where
    by : (b : Bool) → b ≡ (b || false)
    by true = refl
    by false = refl
any_more test (x ∷ ls) l = by (test x) (list_any test ls) (test l) (list_any test (ls ++ l ∷ [])) (any_more test ls l)
  where
    by : (a b c d : Bool) → (b || c) ≡ d → ((a || b) || c) ≡ (a || d)
    by true b c d e = refl
    by false b c d e = e

-- ---- how many there are

module _ (rows new : PieceRows) (given : Pieces) where
  pub counts_octet : (o : ℕ) → AreKept rows given → AreKept new (with_octet given o) → new.total + new.ended ≡ rows.total + rows.ended + 1
  counts_octet o was is = omega (arith, was.total, was.ended, is.total, is.ended, length-append (concat given.ended) given.last, length-append (concat given.ended) (given.last ++ o ∷ []), length-append given.last (o ∷ []))

  pub counts_dot : AreKept rows given → AreKept new (with_dot given) → new.total + new.ended ≡ rows.total + rows.ended + 1
  counts_dot was is = omega (arith, was.total, was.ended, is.total, is.ended, ap (length {A = ℕ}) (octets_ended given.ended given.last), length-append given.ended (given.last ∷ []))

-- ---- pieces for which there is room

-- labels that are not empty have no fewer octets than there are labels
some_octets : (ls : List (List ℕ)) → list_any is_empty ls ≡ false → length ls ≤ length (concat ls)
some_octets [] some = omega arith
some_octets (l ∷ ls) some =
    let both = either_false (is_empty l) (list_any is_empty ls) some in
    elim (eqb_tells (length l) 0) [
      | inl t ↦ absurd (let a = t.0 in let b = both.0 in cc)
      | inr f ↦ omega (arith, f.1, some_octets ls both.1, length-append l (concat ls))
    ]

-- the lengths of labels that are not too long stand in an octet
short_lengths : (ls : List (List ℕ)) → list_any is_long ls ≡ false → map kept_len ls ≡ map length ls
short_lengths [] short = refl
short_lengths (l ∷ ls) short =
    let both = either_false (is_long l) (list_any is_long ls) short in
    let here : kept_len l ≡ length l = omega (arith, ltb-false 63 (length l) both.0) in
    rw here (ap (λ (ns : List ℕ). length l ∷ ns) (short_lengths ls both.1))

module _ (rows : PieceRows) (given : Pieces) (kept : AreKept rows given) (ends : AreEnded given) where
  octets_whole : concat given.ended ++ given.last ≡ concat given.ended
  octets_whole = ap (λ (l : List ℕ). concat given.ended ++ l) ends.none ∙ append-nil (concat given.ended)

  total_is : rows.total ≡ length (concat given.ended)
  total_is = kept.total ∙ ap (length {A = ℕ}) octets_whole

  -- how long the name is
  pub wire_len-kept : (tail : List (List ℕ)) → wire_len (given.ended ++ tail) ≡ 1 + (rows.total + rows.ended + (length tail + length (concat tail)))
  wire_len-kept tail =
      omega (arith, wire_len-name (given.ended ++ tail), length-append given.ended tail, ap (length {A = ℕ}) (concat-append given.ended tail), length-append (concat given.ended) (concat tail), total_is, kept.ended)

  module _ (fits : rows.total + rows.ended ≤ 254) where
    octets_are : take rows.total rows.octets ≡ concat given.ended
    octets_are =
        let few : min rows.total 254 ≡ rows.total = omega arith in
        ap (λ (k : ℕ). take k rows.octets) (sym few) ∙ kept.octets ∙ ap (take 254) octets_whole ∙ take_all 254 (concat given.ended) (omega (arith, total_is))

    lengths_are : take rows.ended rows.lengths ≡ map length given.ended
    lengths_are =
        let some = some_octets given.ended ends.some in
        let few : min rows.ended 127 ≡ rows.ended = omega (arith, some, total_is, kept.ended) in
        ap (λ (k : ℕ). take k rows.lengths) (sym few) ∙ kept.lengths ∙ ap (take 127) (short_lengths given.ended ends.short) ∙ take_all 127 (map length given.ended) (omega (arith, length-map given.ended length, some, total_is, kept.ended))

    -- there are no more labels than there is room for
    pub ended_fits : rows.ended ≤ 127
    ended_fits = omega (arith, some_octets given.ended ends.some, total_is, kept.ended)

    pub kept_whole : sum (take rows.ended rows.lengths) ≡ length (take rows.total rows.octets)
    kept_whole = ap sum lengths_are ∙ sum-lengths given.ended ∙ ap (length {A = ℕ}) (sym octets_are)

    pub kept_labels : labels_of (take rows.ended rows.lengths) (take rows.total rows.octets) ≡ given.ended
    kept_labels = ap (λ (ns : List ℕ). labels_of ns (take rows.total rows.octets)) lengths_are ∙ ap (labels_of (map length given.ended)) (octets_are ∙ sym (append-nil (concat given.ended))) ∙ labels_of-name given.ended []
