-- The octets of printed numbers, addresses and digests: digits, the letters a to f, dots and colons.
use Rattle.std.proofs.Common.{◌≡◌, ℕ, zero, suc, ◌+◌, ◌/◌, ◌%◌, ◌<◌, ◌≤◌, ◌^◌, Bool, true, cond, eqb, leb, ltb, not, ◌||◌, ◌&&◌, List, [], ◌∷◌, ◌++◌, length, take, drop, get_or, refl, arith, length-append, length-drop}
use Rattle.std.proofs.lemmas.Bool.{cond_both, and_parts, agree_below, agree_below_at}
use Rattle.std.proofs.lemmas.Bool.Decides.{nat_tests}
use Rattle.std.specs.Prelude.{codes, decimal, slice_index}
use Rattle.std.specs.List.{AllByRecursion, list_all, flat_map}
use Rattle.std.specs.Char.{is_ascii_digit, digit_char}
use Rattle.std.specs.Net.Addr.{IsIpv4Addr, IsIpv6Addr, ipv4_octets, ipv6_segments}
use Rattle.std.specs.Net.Text.{ipv4_text, leading_zero_digits, hex, groups_text, longest_zero_run, hex_groups_text}
use Rattle.std.specs.declared.net.ipv4_addr.Ipv4Addr.{Ipv4Addr}
use Rattle.std.specs.declared.net.ipv6_addr.Ipv6Addr.{Ipv6Addr}
use Rattle.hex.specs.Hex.{lower_digits, encode_with, encode_lower}
use Rattle.dns_names.proofs.SymbolLaws.{All-both}
use Rattle.dns_data.specs.Digests.{IsDigest}
use Rattle.dns_data.proofs.NumberLaws.{digit_range, is_numeral, decimal_is_number}

-- a digit, one of the letters a to f, a dot or a colon
abbrev pub is_plain : ℕ → Bool
is_plain o = (leb 48 o && leb o 58) || ((leb 97 o && leb o 102) || eqb o 46)

abbrev pub IsPlain : ℕ → Type 0
IsPlain o = is_plain o ≡ true

abbrev pub ArePlain : List ℕ → Type 0
ArePlain text = AllByRecursion IsPlain text

-- such octets, one or more
pub record IsPlainText (text : List ℕ) : Type 0 where
  pub some : 0 < length text
  pub plain : ArePlain text

-- what a test says of each octet that is so
plain_below : (o : ℕ) → IsPlain o → o < 128
plain_below o h = grind (arith, nat_tests)

pub plain_passes : (p : ℕ → Bool) → agree_below (λ o. not (is_plain o) || p o) (λ o. true) 128 ≡ true → (text : List ℕ) → ArePlain text → AllByRecursion (λ o. p o ≡ true) text
plain_passes p says [] h = tt
plain_passes p says (o ∷ text) h =
    let either : (not (is_plain o) || p o) ≡ true = agree_below_at (λ n. not (is_plain n) || p n) (λ n. true) 128 o says (plain_below o h.0) in
    (rw h.0 at either, plain_passes p says text h.1)

-- ---- numbers

digit_plain : (o : ℕ) → is_ascii_digit o ≡ true → IsPlain o
digit_plain o h =
    let r = digit_range o h in
    let fits : o < 256 = omega (arith, r.0, r.1) in
    let either : (not (is_ascii_digit o) || is_plain o) ≡ true = agree_below_at (λ n. not (is_ascii_digit n) || is_plain n) (λ n. true) 256 o refl fits in
    rw h at either

digits_plain : (text : List ℕ) → list_all is_ascii_digit text ≡ true → ArePlain text
digits_plain [] h = tt
digits_plain (o ∷ rest) h = let p = and_parts (is_ascii_digit o) (list_all is_ascii_digit rest) h in (digit_plain o p.0, digits_plain rest p.1)

pub decimal_plain : (n : ℕ) → n < 2 ^ 64 → IsPlainText (decimal n)
decimal_plain n h =
    let number = decimal_is_number n h in
    record {
      some = number.0.0;
      plain = digits_plain (decimal n) (and_parts (ltb 0 (length (decimal n))) (list_all is_ascii_digit (decimal n)) (is_numeral (decimal n) number.0)).1;
    }

-- ---- digests

hex_digit_plain : (d : ℕ) → d < 16 → IsPlain (slice_index lower_digits d)
hex_digit_plain d h = agree_below_at (λ n. is_plain (slice_index lower_digits n)) (λ n. true) 16 d refl h

encoded_plain : (octets : List ℕ) → AllByRecursion (λ o. o < 256) octets → ArePlain (encode_lower octets)
unfolding encode_with
encoded_plain [] h = tt
encoded_plain (o ∷ octets) h =
    let fits = h.0 in
    let high : o / 16 < 16 = omega arith in
    let low : o % 16 < 16 = omega arith in
    (hex_digit_plain (o / 16) high, (hex_digit_plain (o % 16) low, encoded_plain octets h.1))

encoded_some : (octets : List ℕ) → 0 < length octets → 0 < length (encode_lower octets)
unfolding encode_with
encoded_some [] h = absurd (omega arith)
encoded_some (o ∷ octets) h = omega arith

pub digest_plain : (digest : List ℕ) → IsDigest digest → IsPlainText (encode_lower digest)
digest_plain digest is = record { some = encoded_some digest is.some; plain = encoded_plain digest is.octets }

-- ---- addresses

-- what holds of a dot and of the decimals of its octets holds of the octets of an IPv4 address
pub ipv4_holds : (P : ℕ → Type 0) → P 46 → (o : List ℕ) → ((k : ℕ) → AllByRecursion P (decimal (slice_index o k))) → AllByRecursion P (ipv4_text o)
ipv4_holds P dot o h =
    let ab = All-both P (decimal (slice_index o 0) ++ 46 ∷ []) (decimal (slice_index o 1)) (All-both P (decimal (slice_index o 0)) (46 ∷ []) (h 0) (dot, tt)) (h 1) in
    let abc = All-both P ((decimal (slice_index o 0) ++ 46 ∷ []) ++ decimal (slice_index o 1) ++ 46 ∷ []) (decimal (slice_index o 2)) (All-both P ((decimal (slice_index o 0) ++ 46 ∷ []) ++ decimal (slice_index o 1)) (46 ∷ []) ab (dot, tt)) (h 2) in
    All-both P (((decimal (slice_index o 0) ++ 46 ∷ []) ++ decimal (slice_index o 1) ++ 46 ∷ []) ++ decimal (slice_index o 2) ++ 46 ∷ []) (decimal (slice_index o 3))
    (All-both P (((decimal (slice_index o 0) ++ 46 ∷ []) ++ decimal (slice_index o 1) ++ 46 ∷ []) ++ decimal (slice_index o 2)) (46 ∷ []) abc (dot, tt)) (h 3)

ipv4_some : (o : List ℕ) → 0 < length (ipv4_text o)
ipv4_some o = omega (arith, length-append (((decimal (slice_index o 0) ++ 46 ∷ []) ++ decimal (slice_index o 1) ++ 46 ∷ []) ++ decimal (slice_index o 2) ++ 46 ∷ []) (decimal (slice_index o 3)), length-append (((decimal (slice_index o 0) ++ 46 ∷ []) ++ decimal (slice_index o 1) ++ 46 ∷ []) ++ decimal (slice_index o 2)) (46 ∷ []))

pub ipv4_plain : (a : Ipv4Addr) → IsIpv4Addr a → IsPlainText (ipv4_text (ipv4_octets a))
ipv4_plain a is = record { some = ipv4_some (ipv4_octets a); plain = ipv4_holds IsPlain refl (ipv4_octets a) (λ k. let fits = is.1 k in (decimal_plain (slice_index (ipv4_octets a) k) (omega arith)).plain) }

pub all_dropped : (P : ℕ → Type 0) (n : ℕ) (xs : List ℕ) → AllByRecursion P xs → AllByRecursion P (drop n xs)
all_dropped P zero xs h = h
all_dropped P (suc n) [] h = h
all_dropped P (suc n) (x ∷ xs) h = all_dropped P n xs h.1

all_taken : (P : ℕ → Type 0) (n : ℕ) (xs : List ℕ) → AllByRecursion P xs → AllByRecursion P (take n xs)
all_taken P zero xs h = tt
all_taken P (suc n) [] h = tt
all_taken P (suc n) (x ∷ xs) h = (h.0, all_taken P n xs h.1)

digit_char_plain : (d : ℕ) → d < 16 → IsPlain (digit_char d)
digit_char_plain d h = agree_below_at (λ n. is_plain (digit_char n)) (λ n. true) 16 d refl h

segment_plain : (n : ℕ) → n < 65536 → ArePlain (hex n)
unfolding hex
segment_plain n h =
    all_dropped IsPlain (leading_zero_digits n) (digit_char (n / 0x1000) ∷ digit_char (n / 0x100 % 16) ∷ digit_char (n / 0x10 % 16) ∷ digit_char (n % 16) ∷ [])
    (digit_char_plain (n / 0x1000) (omega arith), (digit_char_plain (n / 0x100 % 16) (omega arith), (digit_char_plain (n / 0x10 % 16) (omega arith), (digit_char_plain (n % 16) (omega arith), tt))))

-- what holds of a colon and of the octets of its segments holds of the octets of an IPv6 address
module _ (P : ℕ → Type 0) (colon : P 58) where
  more_groups : (segments : List ℕ) → AllByRecursion (λ s. AllByRecursion P (hex s)) segments → AllByRecursion P (flat_map (λ t. codes ":" ++ hex t) segments)
  more_groups [] h = tt
  more_groups (s ∷ segments) h = All-both P (codes ":" ++ hex s) (flat_map (λ t. codes ":" ++ hex t) segments) (colon, h.0) (more_groups segments h.1)

  groups_hold : (segments : List ℕ) → AllByRecursion (λ s. AllByRecursion P (hex s)) segments → AllByRecursion P (groups_text segments)
  groups_hold [] h = tt
  groups_hold (s ∷ segments) h = All-both P (hex s) (flat_map (λ t. codes ":" ++ hex t) segments) h.0 (more_groups segments h.1)

  pub segments_hold : (segments : List ℕ) → AllByRecursion (λ s. AllByRecursion P (hex s)) segments → AllByRecursion P (hex_groups_text segments)
  unfolding hex_groups_text
  segments_hold segments h =
      let Shown : ℕ → Type 0 = λ s. AllByRecursion P (hex s) in
      let run = longest_zero_run segments in
      cond_both (ltb 1 run.1) (groups_text (take run.0 segments) ++ codes "::" ++ groups_text (drop (run.0 + run.1) segments)) (groups_text segments) (λ (text : List ℕ). AllByRecursion P text)
      (λ _. All-both P (groups_text (take run.0 segments) ++ codes "::") (groups_text (drop (run.0 + run.1) segments))
      (All-both P (groups_text (take run.0 segments)) (codes "::") (groups_hold (take run.0 segments) (all_taken Shown run.0 segments h)) (colon, (colon, tt)))
      (groups_hold (drop (run.0 + run.1) segments) (all_dropped Shown (run.0 + run.1) segments h)))
      (λ _. groups_hold segments h)

segments_plain : (segments : List ℕ) → ((k : ℕ) → get_or segments k 0 < 65536) → AllByRecursion (λ s. ArePlain (hex s)) segments
segments_plain [] h = tt
segments_plain (s ∷ segments) h = (segment_plain s (h 0), segments_plain segments (λ k. h (suc k)))

segment_some : (n : ℕ) → 0 < length (hex n)
unfolding hex
segment_some n =
    let digits : List ℕ = digit_char (n / 0x1000) ∷ digit_char (n / 0x100 % 16) ∷ digit_char (n / 0x10 % 16) ∷ digit_char (n % 16) ∷ [] in
    let few : leading_zero_digits n ≤ 3 = cond_both (leb 0x1000 n) 0 (cond (leb 0x100 n) 1 (cond (leb 0x10 n) 2 3)) (λ (k : ℕ). k ≤ 3) (λ _. omega arith)
    (λ _. cond_both (leb 0x100 n) 1 (cond (leb 0x10 n) 2 3) (λ (k : ℕ). k ≤ 3) (λ _. omega arith) (λ _. cond_both (leb 0x10 n) 2 3 (λ (k : ℕ). k ≤ 3) (λ _. omega arith) (λ _. omega arith))) in
    omega (arith, few, length-drop (leading_zero_digits n) digits)

groups_some : (segments : List ℕ) → 0 < length segments → 0 < length (groups_text segments)
groups_some [] h = absurd (omega arith)
groups_some (s ∷ segments) h = omega (arith, segment_some s, length-append (hex s) (flat_map (λ t. codes ":" ++ hex t) segments))

segments_some : (segments : List ℕ) → 0 < length segments → 0 < length (hex_groups_text segments)
unfolding hex_groups_text
segments_some segments h =
    let run = longest_zero_run segments in
    let a = groups_text (take run.0 segments) in
    let b = groups_text (drop (run.0 + run.1) segments) in
    cond_both (ltb 1 run.1) (a ++ codes "::" ++ b) (groups_text segments) (λ (text : List ℕ). 0 < length text)
    (λ _. omega (arith, length-append (a ++ codes "::") b, length-append a (codes "::"))) (λ _. groups_some segments h)

pub ipv6_plain : (a : Ipv6Addr) → IsIpv6Addr a → IsPlainText (hex_groups_text (ipv6_segments a))
ipv6_plain a is =
    let eight = is.0 in
    record { some = segments_some (ipv6_segments a) (omega arith); plain = segments_hold IsPlain refl (ipv6_segments a) (segments_plain (ipv6_segments a) is.1) }
