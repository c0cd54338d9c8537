-- Identifiers are text.
use Rattle.std.proofs.Common.{◌≡◌, ℕ, ◌<◌, ◌≤◌, zero, suc, Bool, true, false, eqb, leb, ◌&&◌, ◌||◌, List, [], ◌∷◌, refl, arith, eqb-true}
use Rattle.std.proofs.lemmas.Bool.{and_parts, leb-true}
use Rattle.std.proofs.lemmas.Str.{IsUtf8-from_ascii}
use Rattle.std.specs.Char.{is_ascii_alphanumeric}
use Rattle.std.specs.Int.{is_in_range}
use Rattle.std.specs.Prelude.{slice_index, IsUtf8}
use Rattle.std.specs.List.{list_all}
use Rattle.grant_policy.specs.Identifiers.{IsIdentifier, is_identifier_octet}

either : {P : Type 0} (a b : Bool) → (a || b) ≡ true → (a ≡ true → P) → (b ≡ true → P) → P
either true b e f g = f refl
either false b e f g = g e

in_range : (low high o : ℕ) → (leb low o && leb o high) ≡ true → o ≤ high
in_range low high o e = leb-true o high (and_parts (leb low o) (leb o high) e).1

pub octet_below : (o : ℕ) → is_identifier_octet o ≡ true → o < 128
octet_below o e =
    either (is_ascii_alphanumeric o) (eqb o 45 || (eqb o 95 || eqb o 46)) e
    (λ a. either (is_in_range 48 57 o || is_in_range 65 90 o) (is_in_range 97 122 o) a
    (λ b. either (is_in_range 48 57 o) (is_in_range 65 90 o) b (λ c. let h = in_range 48 57 o c in omega arith) (λ c. let h = in_range 65 90 o c in omega arith))
    (λ b. let h = in_range 97 122 o b in omega arith))
    (λ a. either (eqb o 45) (eqb o 95 || eqb o 46) a (λ b. let h = eqb-true o 45 b in omega arith)
    (λ b. either (eqb o 95) (eqb o 46) b (λ c. let h = eqb-true o 95 c in omega arith) (λ c. let h = eqb-true o 46 c in omega arith)))

octet_at : (text : List ℕ) → list_all is_identifier_octet text ≡ true → (i : ℕ) → slice_index text i < 128
octet_at [] e i = omega arith
octet_at (o ∷ text) e zero = octet_below o (and_parts (is_identifier_octet o) (list_all is_identifier_octet text) e).0
octet_at (o ∷ text) e (suc i) = octet_at text (and_parts (is_identifier_octet o) (list_all is_identifier_octet text) e).1 i

pub identifier_is_text : (id : List ℕ) → IsIdentifier id → IsUtf8 id
identifier_is_text id is = IsUtf8-from_ascii id (octet_at id is.octets)
