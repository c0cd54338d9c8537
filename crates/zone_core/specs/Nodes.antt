-- The records at one name as a row in record order.
use Rattle.std.specs.Prelude.{◌≡◌, ℕ, ◌<◌, List, length, Bool, not, ◌++◌, ◌==◌, if◌then◌else◌, Option, Some, None}
use Rattle.std.specs.List.{AllByRecursion, filter, remove}
use Rattle.dns_data.specs.declared.record.Record.{Record}
use Rattle.dns_data.specs.declared.record_type.RecordType.{RecordType}
use Rattle.zone_core.specs.Sets.{Records, key_of, rank_of, set_of, InOrder}

-- records at a name, in record order
pub record IsNode (name : List (List ℕ)) (rs : List Record) : Type 0 where
  pub order : InOrder rs
  pub here : AllByRecursion (λ r. r.owner ≡ name) rs

-- they are those of a set
pub record Becomes (name : List (List ℕ)) (rs : List Record) (whole : Records) : Type 0 where
  pub node : IsNode name rs
  pub set : set_of rs ≡ whole

-- a record with a TTL, if it has a type
abbrev pub with_type_ttl : RecordType → ℕ → Record → Record
with_type_ttl record_type ttl r = record r { ttl = if (key_of r).1 == rank_of record_type then ttl else r.ttl }

-- the place of the one record that passes a test, or that none does
abbrev pub IsPlaceOf : (Record → Bool) → List Record → Option ℕ → Type 0
IsPlaceOf p rs None = filter (λ r. not (p r)) rs ≡ rs
IsPlaceOf p rs (Some i) = (i < length rs) × (filter (λ r. not (p r)) rs ≡ remove rs i)

-- a row grows by the records of a set
pub record Grows (old new : List Record) (whole : Records) : Type 0 where
  pub more : List Record
  pub grown : new ≡ old ++ more
  pub set : set_of more ≡ whole
