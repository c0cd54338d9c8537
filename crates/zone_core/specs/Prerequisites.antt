-- What prerequisites test (RFC 2136 sections 2.4 and 3.2).
use Rattle.std.specs.Prelude.{ℕ, suc, List, [], ◌∷◌, map, Bool, false, ◌&&◌, ◌==◌, if◌then◌else◌, Option, Some, None, Result, Ok, Err}
use Rattle.std.specs.List.{list_any, list_all, flat_map}
use Rattle.std.specs.Option.{option_or, option_map}
use Rattle.std.specs.Ordering.{is_eq}
use Rattle.dns_names.specs.Order.{same_name}
use Rattle.dns_data.specs.declared.rdata.Data.{Data}
use Rattle.dns_data.specs.declared.record_type.RecordType.{RecordType}
use Rattle.dns_data.specs.Rdata.{type_of}
use Rattle.dns_data.specs.RecordOrder.{data_order}
use Rattle.zone_core.specs.declared.prerequisite_code.PrerequisiteCode.{PrerequisiteCode}
use Rattle.zone_core.specs.declared.prerequisite_code.PrerequisiteCode.TheVariants.{NxDomain, YxDomain, NxRrset, YxRrset}
use Rattle.zone_core.specs.declared.update.Prerequisite.{Prerequisite}
use Rattle.zone_core.specs.declared.update.Prerequisite.TheVariants.{RrsetExists, RrsetEquals, RrsetAbsent, NameUsed, NameUnused}
use Rattle.zone_core.specs.declared.verdict.Failed.{Failed}
use Rattle.zone_core.specs.Sets.{Records, rank_of, listing, part, has, at_name, at}

-- the code with which a test by itself fails (RFC 2136 sections 2.4.1, 2.4.3, 2.4.4 and 2.4.5)
abbrev pub fails : Records → Prerequisite → Option PrerequisiteCode
fails set (RrsetExists name record_type) = if has set (at name record_type) then None else Some NxRrset
fails set (RrsetEquals name rdata) = None
fails set (RrsetAbsent name record_type) = if has set (at name record_type) then Some YxRrset else None
fails set (NameUsed name) = if has set (at_name name) then None else Some NxDomain
fails set (NameUnused name) = if has set (at_name name) then Some YxDomain else None

-- ---- sets that are given whole (RFC 2136 section 2.4.2)

-- whether two data are the same
abbrev pub same_data : Data → Data → Bool
same_data a b = is_eq (data_order a b)

-- the data that a test gives for a name and a type
abbrev pub given_for : List (List ℕ) → RecordType → Prerequisite → List Data
given_for name record_type (RrsetEquals n rdata) = if same_name n name && (rank_of (type_of rdata) == rank_of record_type) then rdata ∷ [] else []
given_for name record_type p = []

-- whether a test gives a set whole, of a name and a type
abbrev pub is_of_set : List (List ℕ) → RecordType → Prerequisite → Bool
is_of_set name record_type (RrsetEquals n rdata) = same_name n name && (rank_of (type_of rdata) == rank_of record_type)
is_of_set name record_type p = false

-- whether a test gives the same set whole as another
abbrev pub are_of_one_set : Prerequisite → Prerequisite → Bool
are_of_one_set p (RrsetEquals name rdata) = is_of_set name (type_of rdata) p
are_of_one_set p q = false

-- whether each of these data is among those
abbrev pub all_among : List Data → List Data → Bool
all_among xs ys = list_all (λ x. list_any (same_data x) ys) xs

-- the data of a set's records
abbrev pub data_in : Records → List Data
data_in set = map (λ r. r.rdata) (listing set)

-- whether the data of a set are these, whatever their order and repeats
abbrev pub are_data : Records → List Data → Bool
are_data set given = all_among (data_in set) given && all_among given (data_in set)

-- The code with which a set that is given whole fails: the data of the set are all those that the tests give for it. All
-- tests of one set fail or hold together.
abbrev pub set_fails : Records → List Prerequisite → Prerequisite → Option PrerequisiteCode
set_fails set all (RrsetEquals name rdata) =
    if are_data (part set (at name (type_of rdata))) (flat_map (given_for name (type_of rdata)) all) then None else Some NxRrset
set_fails set all p = None

-- ---- the verdict

-- an item that fails with a code
abbrev pub failed : ℕ → PrerequisiteCode → Failed
failed i code = record { code = code; item = i }

-- the first of the items from this number on that has a code
abbrev pub first_failed : (Prerequisite → Option PrerequisiteCode) → ℕ → List Prerequisite → Option Failed
first_failed code i [] = None
first_failed code i (p ∷ ps) = option_or (option_map (failed i) (code p)) (first_failed code (suc i) ps)

-- the first test that fails: those by themselves in their order, and then sets that are given whole, by their first item
abbrev pub verdict : Records → List Prerequisite → Option Failed
verdict set ps = option_or (first_failed (fails set) 0 ps) (first_failed (set_fails set ps) 0 ps)

-- the failure that an answer tells
abbrev pub failure : {A : Type 0} → Result A Failed → Option Failed
failure (Ok x) = None
failure (Err f) = Some f
