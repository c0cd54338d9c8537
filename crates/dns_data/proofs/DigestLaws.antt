-- The laws of digests: what is read is spelled by the digits, what they spell is read, and so is what is printed.
use Rattle.std.proofs.Common.{◌≡◌, ℕ, zero, suc, ◌+◌, ◌*◌, ◌/◌, ◌%◌, ◌<◌, true, false, cond, ltb, eqb, List, [], ◌∷◌, ◌++◌, length, slice_index, Option, Some, None, Result, Ok, Err, refl, sym, ap, subst, ◌∙◌, arith, ltb-false, le-ltb}
use Rattle.std.specs.List.{AllByRecursion, list_all}
use Rattle.std.specs.Str.{IsAscii, IsUtf8}
use Rattle.std.proofs.lemmas.Bool.{and_parts, ltb-true}
use Rattle.std.proofs.lemmas.Bool.Decides.{nat_tests}
use Rattle.std.proofs.lemmas.Str.{IsUtf8-from_ascii}
use Rattle.hex.specs.declared.error.FromHexError.{FromHexError}
use Rattle.hex.specs.Hex.{IsBytes, hex_digit_value, digit_or_error, value_at, pair_value, decode_pairs, decode_of, lower_digits, encode_with, encode_lower, ◌>>=◌ as hex_bind}
use Rattle.hex.proofs.HexLemmas.{IsAscii-encode_with, decode_of-ok, decode_of-even, decode_of-encode_lower}
use Rattle.hex.proofs.Pairs.{cons_byte, decode_pairs-ok_pair}
use Rattle.dns_data.specs.declared.data_fault.DataFault.TheVariants.{BadDigest, DataTooLong}
use Rattle.dns_data.specs.Faults.{◌>>=◌}
use Rattle.dns_data.specs.Digests.{IsDigest, SpellsPair, SpellsDigest, of_pairs, fitting_digest, digest_of}
use Rattle.dns_data.proofs.StepLaws.{bind_ok, guard_ok, guarded_ok, ok_is}

-- ---- steps of hex

-- a result with a value
abbrev hex_done : {A : Type 0} → A → Result A FromHexError
hex_done x = Ok x

hex_ok_is : {A : Type 0} (x y : A) → hex_done x ≡ hex_done y → x ≡ y
hex_ok_is x y e = cc

hex_bind_ok : {A B : Type 0} (r : Result A FromHexError) (f : A → Result B FromHexError) (y : B) → hex_bind r f ≡ Ok y → (x : A) × (r ≡ Ok x) × (f x ≡ Ok y)
hex_bind_ok (Ok x) f y e = (x, refl, e)
hex_bind_ok (Err d) f y e = absurd cc

digit_is : (c i v : ℕ) (o : Option ℕ) → digit_or_error c i o ≡ Ok v → o ≡ Some v
digit_is c i v (Some w) e = ap Some (hex_ok_is w v e)
digit_is c i v None e = absurd cc

-- ---- octets

pub octets_from : (octets : List ℕ) → IsBytes octets → AllByRecursion (λ o. o < 256) octets
octets_from [] h = tt
octets_from (o ∷ octets) h = (h 0, octets_from octets (λ i. h (suc i)))

octets_to : (octets : List ℕ) → AllByRecursion (λ o. o < 256) octets → IsBytes octets
octets_to [] h i = omega arith
octets_to (o ∷ octets) h zero = h.0
octets_to (o ∷ octets) h (suc i) = octets_to octets h.1 i

-- ---- pairs of digits

-- pairs that are read are spelled
pairs_found : (i : ℕ) (text octets : List ℕ) → decode_pairs i text ≡ Ok octets → SpellsDigest octets text
unfolding decode_pairs
pairs_found i [] octets e = subst (λ (os : List ℕ). SpellsDigest os []) (hex_ok_is [] octets e) refl
pairs_found i (digit ∷ []) octets e = absurd cc
pairs_found i (high ∷ low ∷ rest) octets e =
    let p = hex_bind_ok (pair_value high low i) _ octets e in
    let h = hex_bind_ok (value_at high i) _ p.0 p.1 in
    let l = hex_bind_ok (value_at low (i + 1)) _ p.0 h.2 in
    let r = hex_bind_ok (decode_pairs (i + 2) rest) _ octets p.2 in
    let pair : SpellsPair p.0 high low = record {
      high_digit = h.0;
      low_digit = l.0;
      high_is = digit_is high i h.0 (hex_digit_value high) h.1;
      low_is = digit_is low (i + 1) l.0 (hex_digit_value low) l.1;
      octet_is = sym (hex_ok_is (h.0 * 16 + l.0) p.0 l.2);
    } in
    subst (λ (os : List ℕ). SpellsDigest os (high ∷ low ∷ rest)) (hex_ok_is (p.0 ∷ r.0) octets r.2) (high, low, rest, refl, pair, pairs_found (i + 2) rest r.0 r.1)

-- pairs that are spelled are read
pairs_only : (i : ℕ) (octets text : List ℕ) → SpellsDigest octets text → decode_pairs i text ≡ Ok octets
unfolding decode_pairs
pairs_only i [] text h = rw h refl
pairs_only i (octet ∷ octets) text (high, low, rest, parts, pair, more) =
    let hv : value_at high i ≡ Ok pair.high_digit = ap (digit_or_error high i) pair.high_is in
    let lv : value_at low (i + 1) ≡ Ok pair.low_digit = ap (digit_or_error low (i + 1)) pair.low_is in
    let both : pair_value high low i ≡ Ok (pair.high_digit * 16 + pair.low_digit) = rw (hv, lv) refl in
    ap (decode_pairs i) parts ∙ decode_pairs-ok_pair i high low _ rest both ∙ ap (cons_byte (pair.high_digit * 16 + pair.low_digit)) (pairs_only (i + 2) octets rest more) ∙ ap (λ (o : ℕ). Ok (o ∷ octets)) (sym pair.octet_is)

-- two digits for each octet
spelled_even : (octets text : List ℕ) → SpellsDigest octets text → length text ≡ 2 * length octets
spelled_even [] text h = rw h refl
spelled_even (octet ∷ octets) text (high, low, rest, parts, pair, more) =
    let e = spelled_even octets rest more in rw parts (omega arith)

-- ---- digests

of_pairs_ok : (r : Result (List ℕ) FromHexError) (octets : List ℕ) → of_pairs r ≡ Ok octets → r ≡ Ok octets
of_pairs_ok (Ok os) octets e = ap Ok (ok_is os octets e)
of_pairs_ok (Err f) octets e = absurd cc

not_none : (octets : List ℕ) → eqb (length octets) 0 ≡ false → 0 < length octets
not_none [] e = absurd cc
not_none (o ∷ octets) e = omega arith

-- a digest that is read is spelled
pub digest_found : (text digest : List ℕ) → digest_of text ≡ Ok digest → IsDigest digest × SpellsDigest digest text
digest_found text digest e =
    let b = bind_ok (of_pairs (decode_of text)) fitting_digest digest e in
    let read = of_pairs_ok (decode_of text) b.0 b.1 in
    let is = decode_of-ok text b.0 read in
    let spelled = pairs_found 0 text b.0 (sym (decode_of-even text is.0) ∙ read) in
    let some = guarded_ok (eqb (length b.0) 0) BadDigest (cond (ltb 65531 (length b.0)) (Err DataTooLong) (Ok b.0)) digest b.2 in
    let fits = guard_ok (ltb 65531 (length b.0)) DataTooLong b.0 digest some.1 in
    subst (λ (d : List ℕ). IsDigest d × SpellsDigest d text) fits.1
    (record { octets = octets_from b.0 is.3; some = not_none b.0 some.0; fits = ltb-false 65531 (length b.0) fits.0 }, spelled)

none_not : (octets : List ℕ) → 0 < length octets → eqb (length octets) 0 ≡ false
none_not [] some = absurd (omega arith)
none_not (o ∷ octets) some = grind (arith, nat_tests)

-- a digest that is spelled is read
pub digest_only : (text digest : List ℕ) → IsDigest digest → SpellsDigest digest text → digest_of text ≡ Ok digest
digest_only text digest is h =
    let two = spelled_even digest text h in
    let read : decode_of text ≡ Ok digest = decode_of-even text (omega arith) ∙ pairs_only 0 digest text h in
    ap (λ (r : Result (List ℕ) FromHexError). of_pairs r >>= fitting_digest) read ∙ rw (none_not digest is.some, le-ltb 65531 (length digest) is.fits) refl

-- the printed digest spells it
pub digest_spells : (digest : List ℕ) → IsDigest digest → SpellsDigest digest (encode_lower digest)
digest_spells digest is =
    let read = decode_of-encode_lower digest (octets_to digest is.octets) in
    let even = decode_of-ok (encode_lower digest) digest read in
    pairs_found 0 (encode_lower digest) digest (sym (decode_of-even (encode_lower digest) even.0) ∙ read)

-- ---- what is printed

-- digits of a front and of the rest
pub digits_append : (front rest : List ℕ) → encode_lower front ++ encode_lower rest ≡ encode_lower (front ++ rest)
unfolding encode_with
digits_append [] rest = refl
digits_append (o ∷ front) rest = ap (λ (text : List ℕ). slice_index lower_digits (o / 16) ∷ slice_index lower_digits (o % 16) ∷ text) (digits_append front rest)

pub no_digits : encode_lower [] ≡ []
unfolding encode_with
no_digits = refl

below_at : (xs : List ℕ) → list_all (λ o. ltb o 128) xs ≡ true → IsAscii xs
below_at [] h i = omega arith
below_at (x ∷ xs) h zero = ltb-true x 128 (and_parts (ltb x 128) (list_all (λ o. ltb o 128) xs) h).0
below_at (x ∷ xs) h (suc i) = below_at xs (and_parts (ltb x 128) (list_all (λ o. ltb o 128) xs) h).1 i

-- printed digits are text
pub digits_are_text : (octets : List ℕ) → IsUtf8 (encode_lower octets)
digits_are_text octets = IsUtf8-from_ascii (encode_lower octets) (IsAscii-encode_with lower_digits octets (below_at lower_digits refl))
