-- The words for types that are not kept, and which types a signer makes.
use Rattle.std.specs.Prelude.{ℕ, List, [], ◌∷◌, codes, length, take, Bool, false, not, ◌||◌, ◌&&◌, ◌==◌}
use Rattle.std.specs.List.{list_all}
use Rattle.std.specs.Char.{is_ascii_alphabetic, is_ascii_alphanumeric}
use Rattle.std.specs.Str.{str_eq_ignore_ascii_case}
use Rattle.dns_master.specs.Fields.{is_other_class}

-- a text begins with this word, in either letter case
abbrev pub begins_with_word : List ℕ → List ℕ → Bool
begins_with_word word text = str_eq_ignore_ascii_case (take (length word) text) word

-- the types by which signatures, keys and denials are told, by their names: RFC 4034, RFC 5155, RFC 7344 and RFC 8976
abbrev pub is_signer_name : List ℕ → Bool
is_signer_name text =
    str_eq_ignore_ascii_case text (codes "RRSIG") || str_eq_ignore_ascii_case text (codes "NSEC") || str_eq_ignore_ascii_case text (codes "NSEC3")
    || str_eq_ignore_ascii_case text (codes "NSEC3PARAM") || str_eq_ignore_ascii_case text (codes "DNSKEY") || str_eq_ignore_ascii_case text (codes "CDS")
    || str_eq_ignore_ascii_case text (codes "CDNSKEY") || str_eq_ignore_ascii_case text (codes "ZONEMD")

-- and by their numbers (RFC 3597 section 5). By 65534, a type for private use, BIND marks what it has signed
abbrev pub is_signer_number : List ℕ → Bool
is_signer_number text =
    str_eq_ignore_ascii_case text (codes "TYPE46") || str_eq_ignore_ascii_case text (codes "TYPE47") || str_eq_ignore_ascii_case text (codes "TYPE50")
    || str_eq_ignore_ascii_case text (codes "TYPE51") || str_eq_ignore_ascii_case text (codes "TYPE48") || str_eq_ignore_ascii_case text (codes "TYPE59")
    || str_eq_ignore_ascii_case text (codes "TYPE60") || str_eq_ignore_ascii_case text (codes "TYPE63") || str_eq_ignore_ascii_case text (codes "TYPE65534")

-- the types that a signer makes
abbrev pub is_signer_type : List ℕ → Bool
is_signer_type text = is_signer_name text || is_signer_number text

-- SVCB and HTTPS, whose data have keys, each with its value directly after its `=` (RFC 9460 section 2.1)
abbrev pub has_keys : List ℕ → Bool
has_keys text =
    str_eq_ignore_ascii_case text (codes "SVCB") || str_eq_ignore_ascii_case text (codes "HTTPS") || str_eq_ignore_ascii_case text (codes "TYPE64")
    || str_eq_ignore_ascii_case text (codes "TYPE65")

-- the last octet after this one
abbrev pub last_octet : ℕ → List ℕ → ℕ
last_octet o [] = o
last_octet o (next ∷ rest) = last_octet next rest

-- the last octet is `=`
abbrev pub ends_with_equals : List ℕ → Bool
ends_with_equals text = last_octet 0 text == 61

-- the kept types by their numbers (RFC 3597 section 5)
abbrev pub is_kept_number : List ℕ → Bool
is_kept_number text =
    str_eq_ignore_ascii_case text (codes "TYPE1") || str_eq_ignore_ascii_case text (codes "TYPE2") || str_eq_ignore_ascii_case text (codes "TYPE5")
    || str_eq_ignore_ascii_case text (codes "TYPE6") || str_eq_ignore_ascii_case text (codes "TYPE12") || str_eq_ignore_ascii_case text (codes "TYPE15")
    || str_eq_ignore_ascii_case text (codes "TYPE16") || str_eq_ignore_ascii_case text (codes "TYPE28") || str_eq_ignore_ascii_case text (codes "TYPE33")
    || str_eq_ignore_ascii_case text (codes "TYPE43")

-- letters, digits and hyphens, of which the words for types are made
abbrev pub is_type_octet : ℕ → Bool
is_type_octet o = is_ascii_alphanumeric o || o == 45

abbrev pub begins_with_letter : List ℕ → Bool
begins_with_letter [] = false
begins_with_letter (o ∷ rest) = is_ascii_alphabetic o

-- the classes (RFC 1035 section 3.2.4)
abbrev pub is_class : List ℕ → Bool
is_class text = str_eq_ignore_ascii_case text (codes "IN") || is_other_class text

-- A word that can stand for a type that is not kept: it begins with a letter, and is no class, also not by number, and no kept type by
-- number (RFC 3597 section 5). A number of a type has no zero before it.
abbrev pub is_other_type : List ℕ → Bool
is_other_type text =
    begins_with_letter text && list_all is_type_octet text && not (begins_with_word (codes "CLASS") text) && not (begins_with_word (codes "TYPE0") text)
    && not (is_kept_number text) && not (is_class text)
