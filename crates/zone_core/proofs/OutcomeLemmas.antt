-- The rows of a set, from those of another and what the two differ in.
use Rattle.std.proofs.Common.{◌≡◌, ℕ, List, true, ◌==◌, Option, Some, None, refl, sym, ap, subst, ◌∙◌, arith}
use Rattle.std.specs.FinMap.{get}
use Rattle.std.proofs.lemmas.Bool.{eqb-true}
use Rattle.std.specs.Cmp.{both_ways}
use Rattle.std.proofs.lemmas.Bool.Decides.{nat_tests}
use Rattle.dns_data.specs.declared.record.Record.{Record}
use Rattle.dns_data.specs.Rdata.{type_of}
use Rattle.dns_data.proofs.ApartLaws.{one_text}
use Rattle.dns_data.proofs.RecordOrderLemmas.{one_rank}
use Rattle.zone_core.specs.Sets.{Records, Key, key_of, set_of, minus, same_ttl, InOrder, AreRows}
use Rattle.zone_core.specs.Zones.{ZoneOf, IsZone, AreKept}
use Rattle.zone_core.specs.Views.{zone_in, AreOfZone}
use Rattle.zone_core.specs.Changes.{change_between}
use Rattle.zone_core.proofs.RowLemmas.{listing_of}
use Rattle.zone_core.proofs.ChangeLemmas.{listed_so}

-- a row in order is the only one of its set
pub one_row : (xs ys : List Record) → InOrder xs → InOrder ys → set_of xs ≡ set_of ys → xs ≡ ys
one_row xs ys order others same = listed_so xs (set_of ys) order same ∙ listing_of ys others

-- records with one key and one TTL are one
pub one_record : (a b : Records) → AreKept a → AreKept b → (k : Key) (r s : Record) → get a k ≡ Some r → get b k ≡ Some s → r.ttl ≡ s.ttl → r ≡ s
one_record a b kept also k r s e f ttls =
    let first = kept k r e in
    let second = also k s f in
    let keys : key_of r ≡ key_of s = first.0 ∙ sym second.0 in
    let owners : r.owner ≡ s.owner = ap (λ (q : Key). q.0) keys in
    let rdatas = one_text r.rdata s.rdata first.1.rdata second.1.rdata (one_rank (type_of r.rdata) (type_of s.rdata) (ap (λ (q : Key). q.1) keys)) (ap (λ (q : Key). q.2) keys) in
    λ i. record { owner = owners i; ttl = ttls i; rdata = rdatas i }

same_turned : (m n : ℕ) → (m == n) ≡ true → (n == m) ≡ true
same_turned m n e = let same = eqb-true m n e in rw (same) (self n)
  where
    self : (n : ℕ) → (n == n) ≡ true
    self n = grind (arith, nat_tests)

pub ttl_turned : (x y : Option Record) → same_ttl x y ≡ same_ttl y x
ttl_turned None None = refl
ttl_turned None (Some s) = refl
ttl_turned (Some r) None = refl
ttl_turned (Some r) (Some s) = both_ways (r.ttl == s.ttl) (s.ttl == r.ttl) (same_turned r.ttl s.ttl) (same_turned s.ttl r.ttl)

-- the zone of rows that are those of a zone
pub of_zone : (after : ZoneOf) → IsZone after → (origin : List (List ℕ)) (rows : List Record) → origin ≡ after.origin → AreRows rows after.records → AreOfZone origin rows × (zone_in origin rows ≡ after)
of_zone after is origin rows own are =
    let same : zone_in origin rows ≡ after = λ i. record { origin = own i; records = are.set i } in
    (record { order = are.order; zone = subst IsZone (sym same) is }, same)

-- a change whose sides are what two sets differ in is the one between them
pub change_is : (removed added : List Record) (before after : Records) → AreRows removed (minus before after) → AreRows added (minus after before) → record { removed = removed; added = added } ≡ change_between before after
change_is removed added before after goes comes =
    let gone = listed_so removed (minus before after) goes.order goes.set in
    let come = listed_so added (minus after before) comes.order comes.set in
    λ i. record { removed = gone i; added = come i }
