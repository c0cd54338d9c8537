use Rattle.std.proofs.Common.{List, map, Option, Result, Ok, Err, IfOk, IfSome, subst}
use Rattle.std.proofs.lemmas.List.Sorted.{IsPermutation-map, IsPermutation-sym}
use Rattle.zone_core.specs.Zones.{ZoneOf}
use Rattle.store_rows.specs.declared.ordered.ZoneRecord.{ZoneRecord}
use Rattle.store_rows.specs.declared.row_fault.RowFault.{RowFault}
use Rattle.store_rows.specs.declared.row_fault.RowFault.TheVariants.{BadRow, NoMemory}
use Rattle.store_rows.specs.Checks.{row_of_record, AreRecordsInTurn, AreRecordsOf, Checks, IsZoneRecord}
use Rattle.store_rows.specs.ReadZones.{IsReadAmong}
use Rattle.store_rows.proofs.ListLemmas.{all_permutation}
use Rattle.store_rows.proofs.ReadZoneLemmas.{read_among_moved}
use Rattle.store_rows.proofs.ZoneCheckLemmas.{records_pass, are_records_of}
use Rattle.store_rows.proofs.zones.check_records.Goals as goal

-- a check of what comes to the same
checks_same : {X : Type 0} (P Q : Type 0) (r : Result X RowFault) → (P → Q) → (Q → P) → Checks P r → Checks Q r
checks_same P Q (Ok x) to from p = to p
checks_same P Q (Err BadRow) to from none = λ q. none (from q)
checks_same P Q (Err NoMemory) to from nothing = tt

in_ok : {X E : Type 0} {P Q : X → Type 0} (r : Result X E) → ((x : X) → P x → Q x) → IfOk r P → IfOk r Q
in_ok (Ok x) then p = then x p
in_ok (Err e) then p = tt

pub returns-clause-check : goal.returns-clause-check
returns-clause-check c =
    let origins = c.args.origins.now in
    let read = c.args.records.items in
    let rows = map row_of_record read in
    let rs = c.in_ok-records.records.items in
    let found = c.in_ok-records.ensures in
    let same = IsPermutation-sym rows (map row_of_record rs) (IsPermutation-map row_of_record read rs found.0) in
    checks_same (AreRecordsInTurn origins rs) (AreRecordsOf origins rows) c.largest_zone.result (are_records_of origins c.requires.origins rows rs same)
    (records_pass origins c.requires.origins rows rs same (all_permutation IsZoneRecord read rs found.0 c.requires.records) found.1)
    (subst (λ (l : List ZoneRecord). Checks (AreRecordsInTurn origins l) c.largest_zone.result) c.deref.ensures.value c.largest_zone.ensures.check)

pub returns-clause-zone : goal.returns-clause-zone
returns-clause-zone c =
    let origins = c.args.origins.now in
    let read = c.args.records.items in
    let rs = c.in_ok-records.records.items in
    let same = IsPermutation-sym (map row_of_record read) (map row_of_record rs) (IsPermutation-map row_of_record read rs c.in_ok-records.ensures.0) in
    in_ok c.largest_zone.result (λ (found : Option ZoneOf). read_among_moved origins (map row_of_record rs) (map row_of_record read) found same)
    (subst (λ (l : List ZoneRecord). IfOk c.largest_zone.result (λ found. IfSome found (λ zone. IsReadAmong origins (map row_of_record l) zone))) c.deref.ensures.value c.largest_zone.ensures.zone)
