-- Strings in which no octet is escaped.
use Rattle.std.proofs.Common.{◌≡◌, ℕ, true, List, [], ◌∷◌, refl, arith}
use Rattle.std.specs.List.{list_all}
use Rattle.std.proofs.lemmas.Bool.{and_parts}
use Rattle.std.proofs.lemmas.Bool.Decides.{nat_tests}
use Rattle.wire_json.specs.Json.{is_plain_octet, escaped_octet, escaped}

octet_plain : (o : ℕ) → is_plain_octet o ≡ true → escaped_octet o ≡ o ∷ []
octet_plain o h = grind (arith, nat_tests)

-- they stand as they are
pub escaped_plain : (text : List ℕ) → list_all is_plain_octet text ≡ true → escaped text ≡ text
escaped_plain [] h = refl
escaped_plain (o ∷ text) h =
    let parts = and_parts (is_plain_octet o) (list_all is_plain_octet text) h in
    rw (octet_plain o parts.0, escaped_plain text parts.1) refl
