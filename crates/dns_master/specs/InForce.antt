-- What is in force before each entry: the origin, the owner and the TTL that it takes from those before it (RFC 1035 section
-- 5.1, RFC 2308 section 4).
use Rattle.std.specs.Prelude.{ℕ, ◌≤◌, List, length, nat_le, if◌then◌else◌, Option, Some, None, option_and_then}
use Rattle.std.specs.List.{slice_get}
use Rattle.dns_data.specs.declared.rdata.Data.{Data}
use Rattle.dns_data.specs.declared.rdata.Data.TheVariants.{Soa}
use Rattle.dns_master.specs.declared.statement.Statement.{Statement}
use Rattle.dns_master.specs.declared.statement.Statement.TheVariants.{Origin, DefaultTtl, Record}
use Rattle.dns_master.specs.Greatest.{LastSaid, LastOr}

-- ---- what an entry states of each

-- the origin that `$ORIGIN` sets
abbrev pub origin_said : Statement → Option (List (List ℕ))
origin_said (Origin name) = Some name
origin_said statement = None

-- the owner that a record states
abbrev pub owner_said : Statement → Option (List (List ℕ))
owner_said (Record stated) = stated.owner
owner_said statement = None

-- the TTL of `$TTL`
abbrev pub default_said : Statement → Option ℕ
default_said (DefaultTtl ttl) = Some ttl
default_said statement = None

-- the TTL that a record states
abbrev pub ttl_said : Statement → Option ℕ
ttl_said (Record stated) = stated.ttl
ttl_said statement = None

-- the MINIMUM of an SOA (RFC 1035 section 3.3.13)
abbrev pub minimum_in : Data → Option ℕ
minimum_in (Soa soa) = Some soa.minimum.0
minimum_in rdata = None

abbrev pub minimum_said : Statement → Option ℕ
minimum_said (Record stated) = minimum_in stated.rdata
minimum_said statement = None

-- ---- by the greatest earlier entry

-- the origin, the owner stated last, the TTL of `$TTL`, the TTL stated last, and the MINIMUM of the last SOA
pub record InForce : Type 0 where
  pub origin : List (List ℕ)
  pub owner : Option (List (List ℕ))
  pub default_ttl : Option ℕ
  pub stated_ttl : Option ℕ
  pub minimum : Option ℕ

-- what the entry of a number states
abbrev pub at_entry : {A : Type 0} → List Statement → (Statement → Option A) → ℕ → Option A
at_entry statements says k = option_and_then says (slice_get statements k)

-- What is in force before each entry: the origin of the greatest earlier `$ORIGIN`, else the one handed in; the owner of the
-- greatest earlier record that states one; the TTL of the greatest earlier `$TTL`, that of the greatest earlier record that
-- states one, and the MINIMUM of the greatest earlier SOA (RFC 1035 section 5.1, RFC 2308 section 4).
pub record AreInForce (statements : List Statement) (handed : List (List ℕ)) (before : ℕ → InForce) : Type 0 where
  pub origins : (k : ℕ) → k ≤ length statements → LastOr (at_entry statements origin_said) k handed (before k).origin
  pub owners : (k : ℕ) → k ≤ length statements → LastSaid (at_entry statements owner_said) k (before k).owner
  pub default_ttls : (k : ℕ) → k ≤ length statements → LastSaid (at_entry statements default_said) k (before k).default_ttl
  pub stated_ttls : (k : ℕ) → k ≤ length statements → LastSaid (at_entry statements ttl_said) k (before k).stated_ttl
  pub minimums : (k : ℕ) → k ≤ length statements → LastSaid (at_entry statements minimum_said) k (before k).minimum

-- ---- the record of an entry

-- the first that is there
abbrev pub or_else : {A : Type 0} → Option A → Option A → Option A
or_else None other = other
or_else (Some x) other = Some x

-- a TTL has 31 bits (RFC 2181 section 8)
abbrev pub fitting_ttl : Option ℕ → Option ℕ
fitting_ttl None = None
fitting_ttl (Some seconds) = if nat_le seconds 2147483647 then Some seconds else None

-- The TTL of a record: its own, else that of `$TTL`, else the one stated last, else the MINIMUM of the last SOA up to this
-- record, where it is a TTL (RFC 1035 section 5.1, RFC 2308 section 4).
abbrev pub ttl_in_force : Option ℕ → InForce → InForce → Option ℕ
ttl_in_force own before behind = or_else own (or_else before.default_ttl (or_else before.stated_ttl (fitting_ttl behind.minimum)))

-- ---- carried from entry to entry

abbrev pub origin_or : Option (List (List ℕ)) → List (List ℕ) → List (List ℕ)
origin_or None origin = origin
origin_or (Some name) origin = name

-- what is in force after an entry
abbrev pub behind_entry : Statement → InForce → InForce
behind_entry s before = record {
  origin = origin_or (origin_said s) before.origin;
  owner = or_else (owner_said s) before.owner;
  default_ttl = or_else (default_said s) before.default_ttl;
  stated_ttl = or_else (ttl_said s) before.stated_ttl;
  minimum = or_else (minimum_said s) before.minimum;
}

-- what is in force before the first entry
abbrev pub handed_in : List (List ℕ) → InForce
handed_in origin = record { origin = origin; owner = None; default_ttl = None; stated_ttl = None; minimum = None }
