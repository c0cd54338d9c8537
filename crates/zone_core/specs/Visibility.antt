-- What tells two sets of records apart where only the records at some names are seen, and of the SOA at the origin only whether
-- there is one.
use Rattle.std.specs.Prelude.{◌≡◌, ◌≢◌, ◌⊎◌, ℕ, List, [], Bool, true, false}
use Rattle.std.specs.List.{AllByRecursion, filter}
use Rattle.std.specs.FinMap.{get}
use Rattle.dns_data.specs.declared.record.Record.{Record}
use Rattle.dns_data.specs.declared.record_type.RecordType.TheVariants as types
use Rattle.dns_data.specs.Rdata.{type_of}
use Rattle.zone_core.specs.declared.update.Prerequisite.{Prerequisite}
use Rattle.zone_core.specs.declared.update.Prerequisite.TheVariants.{RrsetExists, RrsetEquals, RrsetAbsent, NameUsed, NameUnused}
use Rattle.zone_core.specs.declared.update.Operation.{Operation}
use Rattle.zone_core.specs.declared.update.Operation.TheVariants.{Add, DeleteRrset, DeleteName, DeleteRecord}
use Rattle.zone_core.specs.Sets.{Records, Key, key_of, listing, part, has, at, minus}
use Rattle.zone_core.specs.Zones.{AreKept}
use Rattle.zone_core.specs.Updates.{IsOperation, acted_name}
use Rattle.zone_core.specs.Prerequisites.{verdict}
use Rattle.zone_core.specs.Effects.{effects, serial_advanced}

-- Two sets are indistinguishable at some names, in a zone of this origin: the same is found there, the origin's SOA aside, and both have an
-- SOA at the origin or neither has.
pub record Indistinguishable (Seen : List (List ℕ) → Type 0) (origin : List (List ℕ)) (a b : Records) : Type 0 where
  pub same : (k : Key) → Seen k.0 → at origin types.Soa k ≡ false → get a k ≡ get b k
  pub soa : has a (at origin types.Soa) ≡ has b (at origin types.Soa)

-- a prerequisite tests one of these names, and does not test the SOA at the origin (the tests of whole names may be at the origin)
abbrev pub TestsSeen : (List (List ℕ) → Type 0) → List (List ℕ) → Prerequisite → Type 0
TestsSeen Seen origin (RrsetExists name record_type) = Seen name × (name ≡ origin → record_type ≢ types.Soa)
TestsSeen Seen origin (RrsetEquals name rdata) = Seen name × (name ≡ origin → type_of rdata ≢ types.Soa)
TestsSeen Seen origin (RrsetAbsent name record_type) = Seen name × (name ≡ origin → record_type ≢ types.Soa)
TestsSeen Seen origin (NameUsed name) = Seen name
TestsSeen Seen origin (NameUnused name) = Seen name

-- an operation acts at none of these names, or adds an SOA at the origin
abbrev pub IsInvisible : (List (List ℕ) → Type 0) → List (List ℕ) → Operation → Type 0
IsInvisible Seen origin (Add r) = (¬ Seen r.owner) ⊎ ((r.owner ≡ origin) × (type_of r.rdata ≡ types.Soa))
IsInvisible Seen origin (DeleteRrset name record_type) = ¬ Seen name
IsInvisible Seen origin (DeleteName name) = ¬ Seen name
IsInvisible Seen origin (DeleteRecord name rdata) = ¬ Seen name

-- a test passes only records at these names, and of the origin no SOA
abbrev pub PassesSeen : (List (List ℕ) → Type 0) → List (List ℕ) → (Record → Bool) → Type 0
PassesSeen Seen origin f = (r : Record) → f r ≡ true → Seen r.owner × (at origin types.Soa (key_of r) ≡ false)

-- ---- what does not tell them apart

module _ (Seen : List (List ℕ) → Type 0) where
  -- prerequisites that test what is seen
  abbrev pub VerdictsAreIndistinguishable : Type 0
  VerdictsAreIndistinguishable =
      (origin : List (List ℕ)) (a b : Records) → Indistinguishable Seen origin a b
      → (ps : List Prerequisite) → AllByRecursion (TestsSeen Seen origin) ps → verdict a ps ≡ verdict b ps

  -- operations at names that are seen, of an update
  abbrev pub UpdatesStayIndistinguishable : Type 0
  UpdatesStayIndistinguishable =
      (origin : List (List ℕ)) (a b : Records) → AreKept a → AreKept b → Indistinguishable Seen origin a b
      → (ops : List Operation) → AllByRecursion IsOperation ops → AllByRecursion (λ op. Seen (acted_name op)) ops
      → Indistinguishable Seen origin (serial_advanced origin a (effects origin a ops)) (serial_advanced origin b (effects origin b ops))

  -- operations elsewhere, and additions of an SOA at the origin
  abbrev pub InvisibleUpdatesAreIndistinguishable : Type 0
  InvisibleUpdatesAreIndistinguishable =
      (origin : List (List ℕ)) (a : Records) → AreKept a
      → (ops : List Operation) → AllByRecursion (IsInvisible Seen origin) ops → Indistinguishable Seen origin a (serial_advanced origin a (effects origin a ops))

  -- lists of records that are seen
  abbrev pub ListingsAreIndistinguishable : Type 0
  ListingsAreIndistinguishable =
      (origin : List (List ℕ)) (a b : Records) → AreKept a → AreKept b → Indistinguishable Seen origin a b
      → (f : Record → Bool) → PassesSeen Seen origin f → filter f (listing a) ≡ filter f (listing b)

  -- of a part of a set too
  abbrev pub PartsAreIndistinguishable : Type 0
  PartsAreIndistinguishable =
      (origin : List (List ℕ)) (a b : Records) → AreKept a → AreKept b → Indistinguishable Seen origin a b
      → (test : Key → Bool) (f : Record → Bool) → PassesSeen Seen origin f → filter f (listing (part a test)) ≡ filter f (listing (part b test))

  -- and changes, to the records that are seen
  abbrev pub ChangesAreIndistinguishable : Type 0
  ChangesAreIndistinguishable =
      (origin : List (List ℕ)) (a b c d : Records) → AreKept a → AreKept b → Indistinguishable Seen origin a b → Indistinguishable Seen origin c d
      → (f : Record → Bool) → PassesSeen Seen origin f → filter f (listing (minus a c)) ≡ filter f (listing (minus b d))

  -- between indistinguishable sets no change is seen
  abbrev pub InvisibleChangesShowNothing : Type 0
  InvisibleChangesShowNothing =
      (origin : List (List ℕ)) (a b : Records) → AreKept a → Indistinguishable Seen origin a b
      → (f : Record → Bool) → PassesSeen Seen origin f → filter f (listing (minus a b)) ≡ []
