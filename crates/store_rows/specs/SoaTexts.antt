-- The canonical text of the data of an SOA record, around the serial.
use Rattle.std.specs.Prelude.{ℕ, List, [], ◌∷◌, ◌++◌, decimal}
use Rattle.dns_names.specs.Spelling.{name_text}
use Rattle.dns_data.specs.declared.soa.SoaFields.{SoaFields}

-- the two names, with a space after each
abbrev pub before_serial : SoaFields → List ℕ
before_serial soa = name_text soa.mname ++ 32 ∷ name_text soa.rname ++ 32 ∷ []

-- the four durations, with a space before each
abbrev pub behind_serial : SoaFields → List ℕ
behind_serial soa = 32 ∷ decimal soa.refresh.0 ++ 32 ∷ decimal soa.retry.0 ++ 32 ∷ decimal soa.expire.0 ++ 32 ∷ decimal soa.minimum.0
