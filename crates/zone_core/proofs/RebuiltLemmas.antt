-- The records of a zone, in whatever order and however often they come, are built as that zone.
use Rattle.std.proofs.Common.{◌≡◌, ◌<◌, ℕ, zero, suc, List, [], ◌∷◌, length, get_or, map, reverse, min, Bool, true, false, cond, ◌==◌, Option, Some, None, refl, sym, ap, ◌∙◌, arith}
use Rattle.std.specs.List.{AllByRecursion, filter}
use Rattle.std.specs.FinMap.{get, find}
use Rattle.std.proofs.lemmas.Bool.{and_parts, eqb-true}
use Rattle.std.proofs.lemmas.List.Elements.{All-from_recursion, recursion_from_All}
use Rattle.std.proofs.lemmas.List.Sorted.{All-permutation, Contains-permutation, IsPermutation-reverse}
use Rattle.dns_names.specs.Order.{same_name}
use Rattle.dns_data.specs.declared.record.Record.{Record}
use Rattle.dns_data.specs.Rdata.{type_of}
use Rattle.dns_data.proofs.RecordOrderLemmas.{one_rank}
use Rattle.zone_core.specs.Sets.{Records, Key, key_of, key_cmp, same_key, keyed, set_of, listing, InOrder, IsIn}
use Rattle.zone_core.specs.Zones.{ZoneOf, IsZone, AreKept, least_ttl, least_below, beside, min_rrset_ttls, latest, fault_in, unless_fault}
use Rattle.zone_core.specs.Views.{set_ttl, given_ttls, min_ttl_rows}
use Rattle.zone_core.specs.Rebuilt.{AreAllOf, ZonesAreRebuilt}
use Rattle.zone_core.proofs.SetLemmas.{by_cases, name_is, key_self, same_sets}
use Rattle.zone_core.proofs.RowLemmas.{get-set_of, found_has, found_key, each_in}
use Rattle.zone_core.proofs.MinTtlLemmas.{beside_self, min_ttl_set}
use Rattle.zone_core.proofs.WholeLemmas.{no_fault}
use Rattle.zone_core.proofs.ChangedLemmas.{listed}

-- ---- their set

-- under the key of a record of a row something is found
found_some : (rs : List Record) (r : Record) (i : ℕ) → i < length rs → get_or rs i r ≡ r → find key_cmp (key_of r) (keyed rs) ≡ None → ⊥
found_some [] r i below is e = absurd (omega arith)
found_some (x ∷ rs) r zero below is e =
    let tied : same_key (key_of r) (key_of x) ≡ true = ap (λ q. same_key (key_of r) (key_of q)) is ∙ key_self (key_of r) in
    let bad : Some x ≡ None = rw tied at e in
    absurd cc
found_some (x ∷ rs) r (suc i) below is e =
    by_cases (same_key (key_of r) (key_of x)) ⊥ (λ t. let bad : Some x ≡ None = rw t at e in absurd cc)
    (λ f. let later : find key_cmp (key_of r) (keyed rs) ≡ None = rw f at e in found_some rs r i (omega arith) is later)

module _ (set : Records) (kept : AreKept set) where
  pub set_of_all : (rs : List Record) → AreAllOf rs set → set_of rs ≡ set
  set_of_all rs all = same_sets (set_of rs) set (λ k. get-set_of rs k ∙ by_found k (find key_cmp k (keyed rs)) refl)
    where
      by_held : (k : Key) → find key_cmp k (keyed rs) ≡ None → (o : Option Record) → get set k ≡ o → None ≡ o
      by_held k e None here = refl
      by_held k e (Some r) here =
          let own : key_of r ≡ k = (kept k r here).0 in
          let there = all.whole r (ap (get set) own ∙ here) in
          absurd (found_some rs r there.0 there.1 there.2 (ap (λ q. find key_cmp q (keyed rs)) own ∙ e))

      by_found : (k : Key) (o : Option Record) → find key_cmp k (keyed rs) ≡ o → o ≡ get set k
      by_found k None e = by_held k e (get set k) refl
      by_found k (Some r) e = sym (ap (get set) (found_key rs k r e) ∙ found_has (λ x. IsIn x set) rs k r all.inside e)

  turned : (rs : List Record) → AreAllOf rs set → AreAllOf (reverse rs) set
  turned rs all = record {
    inside = recursion_from_All (λ r. IsIn r set) (reverse rs) (All-permutation (λ r. IsIn r set) rs (reverse rs) (IsPermutation-reverse rs) (All-from_recursion (λ r. IsIn r set) rs all.inside));
    whole = λ r here. Contains-permutation rs (reverse rs) r (IsPermutation-reverse rs) (all.whole r here);
  }

  pub latest_is : (rs : List Record) → AreAllOf rs set → latest rs ≡ set
  latest_is rs all = set_of_all (reverse rs) (turned rs all)

-- ---- sets that have one TTL each

same_min : (n : ℕ) → min n n ≡ n
same_min n = omega arith

all_one : (ttl : ℕ) (rs : List Record) → AllByRecursion (λ r. r.ttl ≡ ttl) rs → least_below ttl rs ≡ ttl
all_one ttl [] all = refl
all_one ttl (r ∷ rs) all = ap (λ n. least_below (min ttl n) rs) all.0 ∙ ap (λ n. least_below n rs) (same_min ttl) ∙ all_one ttl rs all.1

-- the least TTL of records that have one, where there is a record
least_one : (ttl : ℕ) (rs : List Record) → AllByRecursion (λ r. r.ttl ≡ ttl) rs → 0 < length rs → least_ttl rs ≡ ttl
least_one ttl [] all some = absurd (omega arith)
least_one ttl (r ∷ rs) all some = ap (λ n. least_below n rs) all.0 ∙ all_one ttl rs all.1

passes : (p : Record → Bool) (rs : List Record) (P Q : Record → Type 0) → ((r : Record) → P r → p r ≡ true → Q r) → AllByRecursion P rs → AllByRecursion Q (filter p rs)
passes p [] P Q f all = tt
passes p (r ∷ rs) P Q f all =
    by_cases (p r) (AllByRecursion Q (filter p (r ∷ rs))) (λ t. rw t (f r all.0 t, passes p rs P Q f all.1)) (λ e. rw e (passes p rs P Q f all.1))

more : (b : Bool) (x : Record) (rs : List Record) → 0 < length rs → 0 < length (cond b (x ∷ rs) rs)
more true x rs some = omega arith
more false x rs some = some

some_pass : (p : Record → Bool) (rs : List Record) (r : Record) → p r ≡ true → find key_cmp (key_of r) (keyed rs) ≡ Some r → 0 < length (filter p rs)
some_pass p [] r t e = absurd cc
some_pass p (x ∷ rs) r t e =
    by_cases (same_key (key_of r) (key_of x)) (0 < length (filter p (x ∷ rs)))
    (λ here.
    let first : Some x ≡ Some r = rw here at e in
    let is : x ≡ r = cc in
    let holds : p x ≡ true = ap p is ∙ t in
    rw holds (omega arith))
    (λ there. let later : find key_cmp (key_of r) (keyed rs) ≡ Some r = rw there at e in more (p x) x (filter p rs) (some_pass p rs r t later))

-- records whose TTLs are put in their own places
given_same : (f : Record → ℕ) (rs : List Record) → AllByRecursion (λ r. f r ≡ r.ttl) rs → given_ttls rs (map f rs) ≡ rs
given_same f [] all = refl
given_same f (r ∷ rs) all = λ i. record r { ttl = all.0 i } ∷ given_same f rs all.1 i

all_from : (P Q : Record → Type 0) → ((r : Record) → P r → Q r) → (rs : List Record) → AllByRecursion P rs → AllByRecursion Q rs
all_from P Q f [] all = tt
all_from P Q f (r ∷ rs) all = (f r all.0, all_from P Q f rs all.1)

module _ (zone : ZoneOf) (is : IsZone zone) where
  abbrev rows : List Record
  rows = listing zone.records

  order : InOrder rows
  order = (listed zone.records is.kept).order

  there : AllByRecursion (λ r. find key_cmp (key_of r) (keyed rows) ≡ Some r) rows
  there = each_in rows order

  inside : (r : Record) → find key_cmp (key_of r) (keyed rows) ≡ Some r → IsIn r zone.records
  inside r e = ap (λ (s : Records). get s (key_of r)) (sym (listed zone.records is.kept).set) ∙ get-set_of rows (key_of r) ∙ e

  own_ttl : (r : Record) → find key_cmp (key_of r) (keyed rows) ≡ Some r → set_ttl rows r ≡ r.ttl
  own_ttl r e =
      least_one r.ttl (filter (λ s. beside (key_of r) (key_of s)) rows)
      (passes (λ s. beside (key_of r) (key_of s)) rows (λ s. find key_cmp (key_of s) (keyed rows) ≡ Some s) (λ s. s.ttl ≡ r.ttl) (λ s here p.
      let both = and_parts (same_name s.owner r.owner) ((key_of s).1 == (key_of r).1) p in
      is.ttls r s (inside r e) (inside s here) (name_is s.owner r.owner both.0) (one_rank (type_of s.rdata) (type_of r.rdata) (eqb-true (key_of s).1 (key_of r).1 both.1))) there)
      (some_pass (λ s. beside (key_of r) (key_of s)) rows r (beside_self (key_of r)) e)

  pub min_rrset_ttls_is : min_rrset_ttls zone.records ≡ zone.records
  min_rrset_ttls_is =
      let set : set_of rows ≡ zone.records = (listed zone.records is.kept).set in
      let same : min_ttl_rows rows ≡ rows = given_same (set_ttl rows) rows (all_from (λ r. find key_cmp (key_of r) (keyed rows) ≡ Some r) (λ r. set_ttl rows r ≡ r.ttl) own_ttl rows there) in
      ap min_rrset_ttls (sym set) ∙ sym (min_ttl_set rows order) ∙ ap set_of same ∙ set

-- ---- the law

pub zones_are_rebuilt : ZonesAreRebuilt
zones_are_rebuilt zone rs is all =
    let set : min_rrset_ttls (latest rs) ≡ zone.records = ap min_rrset_ttls (latest_is zone.records is.kept rs all) ∙ min_rrset_ttls_is zone is in
    (λ i. unless_fault zone.origin (set i) (fault_in zone.origin (set i))) ∙ ap (unless_fault zone.origin zone.records) (no_fault zone.origin zone.records is.kept is)
