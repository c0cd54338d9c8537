-- Sets of records, of which no two are the same (RFC 2136 section 1.1.1): a record stands under its key, which is its owner,
-- the place of its type in record order, and the text of its data.
use Rattle.std.specs.Prelude.{◌≡◌, ℕ, List, map, Bool, true, false, not, ◌&&◌, ◌==◌, if◌then◌else◌, Option, Some, None}
use Rattle.std.specs.FinMap.{FinMap, get, insert, retain_keys, len, entries, from_entries}
use Rattle.std.specs.List.Sorted.{IsStrictlySortedBy}
use Rattle.std.specs.Ordering.{eq_by_cmp}
use Rattle.dns_names.specs.Labels.{is_within}
use Rattle.dns_names.specs.Order.{same_name}
use Rattle.dns_data.specs.declared.record.Record.{Record}
use Rattle.dns_data.specs.declared.record_type.RecordType.{RecordType}
pub use Rattle.dns_data.specs.RecordOrder.{Key, key_of, key_cmp, rank_of, record_order}

-- a set of records, each under its key
abbrev pub Records : Type 0
Records = FinMap key_cmp Record

-- records with their keys
abbrev pub keyed : List Record → List (Key × Record)
keyed rs = map (λ r. (key_of r, r)) rs

-- the set of a list's records; of two that are the same the earlier is in it
abbrev pub set_of : List Record → Records
set_of rs = from_entries (keyed rs)

-- the records of a set in record order
abbrev pub listing : Records → List Record
listing set = map (λ e. e.1) (entries set)

-- records stand in record order, and no two are the same
abbrev pub InOrder : List Record → Type 0
InOrder rs = IsStrictlySortedBy record_order rs

-- the records of a set, in record order
pub record AreRows (rs : List Record) (whole : Records) : Type 0 where
  pub order : InOrder rs
  pub set : set_of rs ≡ whole

-- whether two keys are one
abbrev pub same_key : Key → Key → Bool
same_key = eq_by_cmp key_cmp

-- a record is in a set, with its TTL
abbrev pub IsIn : Record → Records → Type 0
IsIn r set = get set (key_of r) ≡ Some r

-- ---- parts of a set

-- the records whose keys pass a test
abbrev pub part : Records → (Key → Bool) → Records
part set test = retain_keys set test

-- the records whose keys do not
abbrev pub cut : Records → (Key → Bool) → Records
cut set test = part set (λ k. not (test k))

-- how many records pass a test
abbrev pub count : Records → (Key → Bool) → ℕ
count set test = len (part set test)

-- whether some record passes a test
abbrev pub has : Records → (Key → Bool) → Bool
has set test = not (count set test == 0)

-- a key of this owner
abbrev pub at_name : List (List ℕ) → Key → Bool
at_name name k = same_name k.0 name

-- a key of this owner and type: of a record set (RFC 2181 section 5)
abbrev pub at : List (List ℕ) → RecordType → Key → Bool
at name record_type k = same_name k.0 name && (k.1 == rank_of record_type)

-- a key of an owner within a name
abbrev pub within : List (List ℕ) → Key → Bool
within name k = is_within k.0 name

-- ---- sets made from sets

-- the set with a record in the place of the same one
abbrev pub put : Records → Record → Records
put set r = insert set (key_of r) r

-- a record with a TTL, if its key passes a test
abbrev pub given : (Key → Bool) → ℕ → Key × Record → Key × Record
given test ttl e = (e.0, record e.1 { ttl = if test e.0 then ttl else e.1.ttl })

-- the set in which the records that pass a test have this TTL
abbrev pub with_ttl : Records → (Key → Bool) → ℕ → Records
with_ttl set test ttl = from_entries (map (given test ttl) (entries set))

-- ---- what two sets differ in

-- whether the same is found under a key, its TTL counted
abbrev pub same_ttl : Option Record → Option Record → Bool
same_ttl None None = true
same_ttl None (Some s) = false
same_ttl (Some r) None = false
same_ttl (Some r) (Some s) = r.ttl == s.ttl

-- the records of one set that another has not, or has with another TTL
abbrev pub minus : Records → Records → Records
minus a b = part a (λ k. not (same_ttl (get a k) (get b k)))

-- whether two sets have the same records with the same TTLs
abbrev pub is_same : Records → Records → Bool
is_same a b = (len (minus a b) == 0) && (len (minus b a) == 0)
