-- How the logic stores a zone: its origin, and its records under their keys.
use Rattle.std.specs.Prelude.{ℕ, List, refl}
use Rattle.std.specs.Coded.{Coded, code_by, coded×, coded_ℕ, coded_list}
use Rattle.std.specs.FinMap as map
use Rattle.dns_data.specs.contracts.record.Record as of_record
use Rattle.zone_core.specs.Sets.{Records, Key}
use Rattle.zone_core.specs.Zones.{ZoneOf}

-- a name is stored as its labels
abbrev pub name_code : Coded (List (List ℕ))
name_code = coded_list (coded_list coded_ℕ)

-- a key is stored as its parts
abbrev pub key_code : Coded Key
key_code =
    code_by (List (List ℕ) × (ℕ × List ℕ)) (coded× name_code (coded× coded_ℕ (coded_list coded_ℕ))) (λ k. (k.0, (k.1, k.2))) (λ p. (p.0, p.1.0, p.1.1))
    (λ _. refl)

-- a set is stored as its entries
abbrev pub records_code : Coded Records
records_code = map.code key_code of_record.the_row.coded

-- a zone is stored as its origin and its records
abbrev pub zone_code : Coded ZoneOf
zone_code =
    code_by (List (List ℕ) × Records) (coded× name_code records_code) (λ z. (z.origin, z.records)) (λ p. record { origin = p.0; records = p.1 })
    (λ _. refl)
