-- The texts of reverse names are read as them.
use Rattle.std.proofs.Common.{◌≡◌, ◌≢◌, ℕ, suc, ◌+◌, ◌/◌, ◌%◌, ◌<◌, ◌≤◌, ◌^◌, true, nat_le, List, [], ◌∷◌, ◌++◌, map, reverse, length, get_or, ◌*◌, ◌&&◌, Ok, codes, decimal, refl, sym, ap, ◌∙◌, arith, append_assoc, length-append, inl}
use Rattle.std.specs.List.{AllByRecursion, flat_map}
use Rattle.std.specs.Char.{digit_value, digit_char}
use Rattle.std.specs.Str.Parse.{AllDigits}
use Rattle.std.proofs.lemmas.Bool.Decides.{nat_tests}
use Rattle.std.proofs.lemmas.Fmt.{decimal_is_IsNumeral, length-decimal-le}
use Rattle.dns_names.specs.Labels.{IsFolded, IsLabel, wire_len}
use Rattle.dns_names.specs.Spelling.{SpellsLabel, SpellsLabels}
use Rattle.dns_names.specs.Reading.{absolute_name}
use Rattle.dns_names.proofs.ReadingLaws.{absolute_only}
use Rattle.zone_tools.specs.HostNames.{ipv4_names, ipv6_names}
use Rattle.std.specs.declared.net.ipv4_addr.Ipv4Addr.{Ipv4Addr}
use Rattle.std.specs.declared.net.ipv6_addr.Ipv6Addr.{Ipv6Addr}
use Rattle.std.specs.Net.Addr.{ipv4_octets, ipv6_octets, ipv6_segments, octets_of, IsIpv4Addr, IsIpv6Addr}
use mathlib.Core.List.{reverse_aux}
use Rattle.std.proofs.lemmas.List.{length-reverse, reverse-append}
use Rattle.std.proofs.lemmas.Grind.{flat_map-append}
use Rattle.zone_tools.specs.ReverseNames.{ipv4_name, ipv6_name, decimal_text, nibbles, nibble_label, nibbles_text}

-- ---- octets that stand for themselves

pub record IsSelf (o : ℕ) : Type 0 where
  pub folded : IsFolded o
  pub no_dot : o ≢ 46
  pub no_backslash : o ≢ 92

abbrev pub AreSelves : List ℕ → Type 0
AreSelves = AllByRecursion IsSelf

self_spelled : (label : List ℕ) → AreSelves label → SpellsLabel label label
self_spelled [] all = refl
self_spelled (o ∷ os) all =
    (o ∷ [], os, refl, (o, all.0.folded.below, all.0.folded.folded, inl (all.0.no_dot, all.0.no_backslash, refl)), self_spelled os all.1)

abbrev pub dotted : List ℕ → List ℕ
dotted label = label ++ 46 ∷ []

labels_spelled : (labels : List (List ℕ)) → AllByRecursion AreSelves labels → SpellsLabels labels (flat_map dotted labels)
labels_spelled [] all = refl
labels_spelled (label ∷ labels) all =
    (label, flat_map dotted labels, append_assoc label (46 ∷ []) (flat_map dotted labels), self_spelled label all.0, labels_spelled labels all.1)

folded_octets : (label : List ℕ) → AreSelves label → AllByRecursion IsFolded label
folded_octets [] all = tt
folded_octets (o ∷ os) all = (all.0.folded, folded_octets os all.1)

pub record IsSelfLabel (label : List ℕ) : Type 0 where
  pub octets : AreSelves label
  pub some : 0 < length label
  pub short : length label ≤ 63

self_labels : (labels : List (List ℕ)) → AllByRecursion IsSelfLabel labels → AllByRecursion AreSelves labels
self_labels [] all = tt
self_labels (label ∷ labels) all = (all.0.octets, self_labels labels all.1)

are_labels : (labels : List (List ℕ)) → AllByRecursion IsSelfLabel labels → AllByRecursion IsLabel labels
are_labels [] all = tt
are_labels (label ∷ labels) all =
    (record { octets = folded_octets label all.0.octets; not_empty = all.0.some; short = all.0.short }, are_labels labels all.1)

-- labels of such octets with a dot after each are read as they are
pub self_read : (label : List ℕ) (labels : List (List ℕ)) → AllByRecursion IsSelfLabel (label ∷ labels) → wire_len (label ∷ labels) ≤ 255
    → absolute_name (flat_map dotted (label ∷ labels)) ≡ Ok (label ∷ labels)
self_read label labels all short =
    absolute_only (label ∷ labels) (flat_map dotted (label ∷ labels)) (record { labels = are_labels (label ∷ labels) all; short = short })
    (labels_spelled (label ∷ labels) (self_labels (label ∷ labels) all))

-- ---- octets in decimal

digit_self : (c : ℕ) → digit_value c < 10 → IsSelf c
digit_self c lt =
    record {
      folded = record { below = grind (arith, nat_tests); folded = grind (arith, nat_tests) };
      no_dot = grind (arith, nat_tests);
      no_backslash = grind (arith, nat_tests);
    }

digits_selves : (ds : List ℕ) → AllDigits 10 ds → AreSelves ds
digits_selves [] all = tt
digits_selves (d ∷ ds) all = (digit_self d all.0, digits_selves ds all.1)

pub decimal_label : (n : ℕ) → n < 256 → IsSelfLabel (decimal n)
decimal_label n lt =
    let numeral = decimal_is_IsNumeral n (omega arith) in
    let short = length-decimal-le 3 n (omega arith) (omega arith) (omega arith) in
    record { octets = digits_selves (decimal n) numeral.0.1; some = numeral.0.0; short = omega (arith, short) }

pub decimal_is_label : (n : ℕ) → n < 256 → IsLabel (decimal n)
decimal_is_label n lt = (are_labels (decimal n ∷ []) (decimal_label n lt, tt)).0

-- with its dot it is spelled so
pub decimal_spelled : (n : ℕ) → n < 256 → SpellsLabels (decimal n ∷ []) (decimal n ++ 46 ∷ [])
decimal_spelled n lt = (decimal n, [], refl, self_spelled (decimal n) (decimal_label n lt).octets, refl)

first_is_digit : (ds : List ℕ) → AllDigits 10 ds → ds ≢ 64 ∷ []
first_is_digit [] all = λ e. cc
first_is_digit (d ∷ ds) all = λ e. (let f : d ≡ 64 = cc in let g : digit_value d ≡ 36 = ap digit_value f in omega (arith, g, all.0))

pub not_at : (n : ℕ) → n < 256 → decimal n ≢ 64 ∷ []
not_at n lt = first_is_digit (decimal n) (decimal_is_IsNumeral n (omega arith)).0.1

pub decimal_short : (n : ℕ) → n < 256 → length (decimal n) ≤ 3
decimal_short n lt = length-decimal-le 3 n (omega arith) (omega arith) (omega arith)

-- ---- names

letter : (c : ℕ) → 97 ≤ c → c ≤ 122 → IsSelf c
letter c low high =
    record {
      folded = record { below = omega arith; folded = grind (arith, nat_tests) };
      no_dot = λ e. omega arith;
      no_backslash = λ e. omega arith;
    }

-- the labels of in-addr.arpa and of ip6.arpa
hyphen : IsSelf 45
hyphen = record { folded = record { below = omega arith; folded = refl }; no_dot = λ e. omega arith; no_backslash = λ e. omega arith }

six : IsSelf 54
six = record { folded = record { below = omega arith; folded = refl }; no_dot = λ e. omega arith; no_backslash = λ e. omega arith }

at_letter : (c : ℕ) → nat_le 97 c && nat_le c 122 ≡ true → IsSelf c
at_letter c e = letter c (grind (arith, nat_tests)) (grind (arith, nat_tests))

in_addr : IsSelfLabel (codes "in-addr")
in_addr =
    record {
      octets = (at_letter 105 refl, (at_letter 110 refl, (hyphen, (at_letter 97 refl, (at_letter 100 refl, (at_letter 100 refl, (at_letter 114 refl, tt)))))));
      some = omega arith;
      short = omega arith;
    }

ip6 : IsSelfLabel (codes "ip6")
ip6 = record { octets = (at_letter 105 refl, (at_letter 112 refl, (six, tt))); some = omega arith; short = omega arith }

arpa : IsSelfLabel (codes "arpa")
arpa = record { octets = (at_letter 97 refl, (at_letter 114 refl, (at_letter 112 refl, (at_letter 97 refl, tt)))); some = omega arith; short = omega arith }

-- ---- names of IPv4 addresses

decimal_labels : (os : List ℕ) → AllByRecursion (λ o. o < 256) os → AllByRecursion IsSelfLabel (map decimal os ++ ipv4_names)
decimal_labels [] all = (in_addr, (arpa, tt))
decimal_labels (o ∷ os) all = (decimal_label o all.0, decimal_labels os all.1)

decimal_len : (os : List ℕ) → AllByRecursion (λ o. o < 256) os → wire_len (map decimal os ++ ipv4_names) ≤ 4 * length os + 14
decimal_len [] all = omega arith
decimal_len (o ∷ os) all = omega (arith, decimal_short o all.0, decimal_len os all.1)

decimals_text : (os : List ℕ) → flat_map decimal_text os ++ codes "in-addr.arpa." ≡ flat_map dotted (map decimal os ++ ipv4_names)
decimals_text [] = refl
decimals_text (o ∷ os) = append_assoc (decimal_text o) (flat_map decimal_text os) (codes "in-addr.arpa.") ∙ ap (λ t. decimal_text o ++ t) (decimals_text os)

octets_below : (os : List ℕ) → ((k : ℕ) → get_or os k 0 < 2 ^ 8) → AllByRecursion (λ o. o < 256) os
octets_below [] all = tt
octets_below (o ∷ os) all = (all 0, octets_below os (λ k. all (suc k)))

some_read : (labels : List (List ℕ)) → 0 < length labels → AllByRecursion IsSelfLabel labels → wire_len labels ≤ 255 → absolute_name (flat_map dotted labels) ≡ Ok labels
some_read [] some all short = absurd (omega arith)
some_read (label ∷ labels) some all short = self_read label labels all short

all_onto : (P : ℕ → Type 0) (os rest : List ℕ) → AllByRecursion P os → AllByRecursion P rest → AllByRecursion P (reverse_aux os rest)
all_onto P [] rest all more = more
all_onto P (o ∷ os) rest all more = all_onto P os (o ∷ rest) all.1 (all.0, more)

all_reversed : (P : ℕ → Type 0) (os : List ℕ) → AllByRecursion P os → AllByRecursion P (reverse os)
all_reversed P os all = all_onto P os [] all tt

pub ipv4_len : (address : Ipv4Addr) → IsIpv4Addr address → wire_len (ipv4_name address) ≤ 30
ipv4_len address is =
    let os = ipv4_octets address in
    let all = all_reversed (λ o. o < 256) os (octets_below os is.1) in
    omega (arith, decimal_len (reverse os) all, length-reverse os, is.0)

pub ipv4_read : (address : Ipv4Addr) → IsIpv4Addr address → absolute_name (flat_map decimal_text (reverse (ipv4_octets address)) ++ codes "in-addr.arpa.") ≡ Ok (ipv4_name address)
ipv4_read address is =
    let os = ipv4_octets address in
    let all = all_reversed (λ o. o < 256) os (octets_below os is.1) in
    let long = decimal_len (reverse os) all in
    rw decimals_text (some_read (map decimal (reverse os) ++ ipv4_names) (omega (arith, length-append (map decimal (reverse os)) ipv4_names)) (decimal_labels (reverse os) all) (omega (arith, long, length-reverse os, is.0)))

-- ---- names of IPv6 addresses

nibble_self : (n : ℕ) → n < 16 → IsSelf (digit_char n)
nibble_self n lt =
    record {
      folded = record { below = grind (arith, nat_tests); folded = grind (arith, nat_tests) };
      no_dot = grind (arith, nat_tests);
      no_backslash = grind (arith, nat_tests);
    }

nibble_is_label : (n : ℕ) → n < 16 → IsSelfLabel (nibble_label n)
nibble_is_label n lt = record { octets = (nibble_self n lt, tt); some = omega arith; short = omega arith }

-- the nibbles of an octet, the low one first
abbrev low_first : ℕ → List ℕ
low_first octet = (octet % 16) ∷ (octet / 16) ∷ []

nibbles_reversed : (os : List ℕ) → reverse (nibbles os) ≡ flat_map low_first (reverse os)
nibbles_reversed [] = refl
nibbles_reversed (o ∷ os) =
    reverse-append ((o / 16) ∷ (o % 16) ∷ []) (nibbles os) ∙ ap (λ t. t ++ low_first o) (nibbles_reversed os)
    ∙ sym (flat_map-append low_first (reverse os) (o ∷ [])) ∙ ap (flat_map low_first) (sym (reverse-append (o ∷ []) os))

nibble_labels : (os : List ℕ) → AllByRecursion (λ o. o < 256) os → AllByRecursion IsSelfLabel (map nibble_label (flat_map low_first os) ++ ipv6_names)
nibble_labels [] all = (ip6, (arpa, tt))
nibble_labels (o ∷ os) all =
    let lt : o < 256 = all.0 in
    (nibble_is_label (o % 16) (omega arith), (nibble_is_label (o / 16) (omega arith), nibble_labels os all.1))

nibbles_len : (os : List ℕ) → wire_len (map nibble_label (flat_map low_first os) ++ ipv6_names) ≡ 4 * length os + 10
nibbles_len [] = omega arith
nibbles_len (o ∷ os) = omega (arith, nibbles_len os)

nibbles_are_text : (os : List ℕ) → flat_map nibbles_text os ++ codes "ip6.arpa." ≡ flat_map dotted (map nibble_label (flat_map low_first os) ++ ipv6_names)
nibbles_are_text [] = refl
nibbles_are_text (o ∷ os) = ap (λ t. nibbles_text o ++ t) (nibbles_are_text os)

halves_below : (ss : List ℕ) → ((k : ℕ) → get_or ss k 0 < 2 ^ 16) → AllByRecursion (λ o. o < 256) (octets_of ss)
halves_below [] all = tt
halves_below (s ∷ ss) all =
    let lt : s < 2 ^ 16 = all 0 in
    (omega arith, (omega arith, halves_below ss (λ k. all (suc k))))

halves_len : (ss : List ℕ) → length (octets_of ss) ≡ 2 * length ss
halves_len [] = omega arith
halves_len (s ∷ ss) = omega (arith, halves_len ss)

pub ipv6_read : (address : Ipv6Addr) → IsIpv6Addr address → absolute_name (flat_map nibbles_text (reverse (ipv6_octets address)) ++ codes "ip6.arpa.") ≡ Ok (ipv6_name address)
ipv6_read address is =
    let os = ipv6_octets address in
    let xs = reverse os in
    let all = all_reversed (λ o. o < 256) os (halves_below (ipv6_segments address) is.1) in
    rw (nibbles_are_text, nibbles_reversed) (some_read (map nibble_label (flat_map low_first xs) ++ ipv6_names)
    (omega (arith, length-append (map nibble_label (flat_map low_first xs)) ipv6_names)) (nibble_labels xs all)
    (omega (arith, nibbles_len xs, length-reverse os, halves_len (ipv6_segments address), is.0)))
