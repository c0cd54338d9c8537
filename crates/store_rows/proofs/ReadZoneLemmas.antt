-- A zone that was read, and the one that a state has.
use Rattle.std.proofs.Common.{◌≡◌, ◌≢◌, ◌⊎◌, inl, inr, ℕ, zero, suc, ◌+◌, Bool, true, false, cond, filter, ◌<◌, List, [], ◌∷◌, ◌++◌, append_assoc, append-nil, length, get_or, map, take, drop, Option, None, Some, IfSome, Ok, IsPermutation, refl, sym, ap, subst, ◌∙◌, arith}
use Rattle.std.specs.Prelude.{ℤ, bytes_eq, option_map}
use Rattle.std.specs.List.{AllByRecursion}
use Rattle.std.proofs.lemmas.List.Sorted.{IsPermutation-sym, IsPermutation-trans}
use Rattle.sqlite_rules.specs.Lists.{Has}
use Rattle.sqlite_rules.proofs.ListLemmas.{all_has, has_at, has_left, has_right, some_from}
use Rattle.sqlite_trees.proofs.ListLemmas.{IsPermutation-filter, IsPermutation-same}
use Rattle.sqlite_keyed.proofs.ListLemmas.{all-append, all_weaker, test_from_all}
use Rattle.sqlite_trees.specs.Tree.{IsAscending}
use Rattle.std.proofs.lemmas.Cmp.{tied_itself}
use Rattle.std.proofs.lemmas.List.{map-append, take_more, take-append-drop}
use Rattle.std.proofs.lemmas.List.Elements.{filter-append}
use Rattle.std.specs.declared.cmp.Ordering.TheVariants.{Less, Equal}
use Rattle.dns_names.specs.Order.{canonical_cmp, canonical_total}
use Rattle.dns_names.specs.Labels.{IsName}
use Rattle.dns_names.specs.Order.{same_name}
use Rattle.dns_names.specs.Spelling.{name_text}
use Rattle.dns_data.specs.declared.record.Record.{Record}
use Rattle.dns_data.specs.Rdata.{IsRecord}
use Rattle.zone_core.specs.Zones.{ZoneOf, built}
use Rattle.zone_core.specs.Views.{zone_in}
use Rattle.zone_core.proofs.SetLemmas.{by_cases, name_is, name_other, name_self}
use Rattle.office_model.specs.States.{State, zone_held, zone_at}
use Rattle.store_sql.specs.Rows.{RecordRowOf, RowsOf}
use Rattle.store_sql.specs.Lookups.{records_of}
use Rattle.store_rows.specs.declared.ordered.ZoneRecord.{ZoneRecord}
use Rattle.store_rows.specs.Contents.{AreOfState}
use Rattle.store_rows.specs.Checks.{row_of_record, IsZoneRecord, AreOrigins, AreOriginRows}
use Rattle.store_rows.specs.ReadZones.{own_records, IsReadAmong, IsReadIn, IsReadOf}
use Rattle.store_rows.specs.RecordRows.{record_row}
use Rattle.store_rows.specs.RowFaults.{◌>>=◌, of_zones}
use Rattle.store_rows.specs.RowReading.{zone_by}
use Rattle.store_rows.proofs.ListLemmas.{has_map, has_permutation}
use Rattle.store_rows.proofs.NameLemmas.{bytes_same, text_same}
use Rattle.store_rows.proofs.OrderLemmas.{rises_up}
use Rattle.store_rows.proofs.RowSteps.{ok_is}
use Rattle.store_rows.proofs.StateLaws.{zones_are_listed}
use Rattle.store_rows.proofs.StoredLaws.{rows_stored}
use Rattle.store_rows.proofs.ZoneReadLemmas.{of_own, rows_moved, zone_of_state, zone_stored}

abbrev Labels : Type 0
Labels = List (List ℕ)

module _ (o : Labels) where
  abbrev is_own : ZoneRecord → Bool
  is_own r = same_name o r.origin

  -- the rows of the origin are those of its records
  own_rows : IsName o → (rs : List ZoneRecord) → AllByRecursion IsZoneRecord rs → records_of (name_text o) (map row_of_record rs) ≡ map (record_row o) (own_records o rs)
  own_rows named [] all = refl
  own_rows named (r ∷ rs) all =
      let later = own_rows named rs all.1 in
      let told : bytes_eq (name_text r.origin) (name_text o) ≡ is_own r = text_same r.origin o all.0.origin named in
      by_cases (is_own r) (records_of (name_text o) (map row_of_record (r ∷ rs)) ≡ map (record_row o) (own_records o (r ∷ rs)))
      (λ t.
      rw (told, t)
      (λ i. record_row (sym (name_is o r.origin t) i) r.rr ∷ later i))
      (λ f. rw (told, f) later)

  own_all : (rs : List ZoneRecord) → AllByRecursion IsZoneRecord rs → AllByRecursion IsRecord (own_records o rs)
  own_all [] all = tt
  own_all (r ∷ rs) all =
      by_cases (is_own r) (AllByRecursion IsRecord (own_records o (r ∷ rs)))
      (λ t. rw t ((all.0.rr, own_all rs all.1)))
      (λ f. rw f (own_all rs all.1))

  own_here : (qs : List Record) → AllByRecursion (λ (row : RecordRowOf). bytes_eq row.origin (name_text o) ≡ true) (map (record_row o) qs)
  own_here [] = tt
  own_here (q ∷ qs) = (bytes_same (name_text o) (name_text o) refl, own_here qs)

  -- they are read as what the records make
  own_read : (qs : List Record) → AllByRecursion IsRecord qs → zone_by o (map (record_row o) qs) ≡ of_zones (built o qs)
  own_read qs all =
      let rows = map (record_row o) qs in
      of_own o rows (test_from_all (λ (row : RecordRowOf). bytes_eq row.origin (name_text o)) rows (own_here qs)) ∙ ap (λ r. r >>= λ rs. of_zones (built o rs)) (rows_stored o qs all)

-- a zone that an origin's records make is read of their rows
pub made_read : (o : Labels) (rs : List ZoneRecord) (zone : ZoneOf) → IsName o → AllByRecursion IsZoneRecord rs → zone.origin ≡ o → of_zones (built o (own_records o rs)) ≡ Ok zone → IsReadOf (map row_of_record rs) zone
made_read o rs zone named all own made =
    subst (λ n. (rows : List RecordRowOf) × IsPermutation (records_of (name_text n) (map row_of_record rs)) rows × (zone_by n rows ≡ Ok zone)) (sym own)
    (map (record_row o) (own_records o rs), IsPermutation-same _ _ (own_rows o named rs all), own_read o (own_records o rs) (own_all o rs all) ∙ made)

-- the order of the rows tells nothing
pub read_moved : (rows others : List RecordRowOf) (zone : ZoneOf) → IsPermutation rows others → IsReadOf rows zone → IsReadOf others zone
read_moved rows others zone same read =
    let by_origin = λ (row : RecordRowOf). bytes_eq row.origin (name_text zone.origin) in
    (read.0, IsPermutation-trans (records_of (name_text zone.origin) others) (records_of (name_text zone.origin) rows) read.0 (IsPermutation-filter by_origin others rows (IsPermutation-sym rows others same)) read.1, read.2)

pub read_among_moved : (origins : List Labels) (rows others : List RecordRowOf) (found : Option ZoneOf) → IsPermutation rows others → IfSome found (λ zone. IsReadAmong origins rows zone) → IfSome found (λ zone. IsReadAmong origins others zone)
read_among_moved origins rows others None same read = tt
read_among_moved origins rows others (Some zone) same read = (read.0, read_moved rows others zone same read.1)

-- what stands before another in a list that ascends
before_at : {X : Type 0} (R : X → X → Type 0) (xs : List X) → IsAscending R xs → (i : ℕ) (x : X) → i < length xs → x ≡ get_or xs i x → (p : X) → Has (take i xs) p → R p x
before_at R [] up i x below is p has = absurd (omega arith)
before_at R (y ∷ xs) up zero x below is p has = absurd has
before_at R (y ∷ xs) up (suc i) x below is p (inl same) = subst (λ (q : _). R q x) (sym same) (all_has (R y) xs x up.0 (has_at xs i x (omega (arith, below)) is))
before_at R (y ∷ xs) up (suc i) x below is p (inr later) = before_at R xs up.1 i x (omega (arith, below)) is p later

-- ---- zone by zone

-- of the records of other origins none is one's own
none_own : (o : Labels) (rs : List ZoneRecord) → AllByRecursion (λ r. r.origin ≢ o) rs → own_records o rs ≡ []
none_own o [] all = refl
none_own o (r ∷ rs) all =
    let other : same_name o r.origin ≡ false = name_other o r.origin (λ e. all.0 (sym e)) in
    ap (λ (b : Bool). map (λ (x : ZoneRecord). x.rr) (cond b (r ∷ filter (is_own o) rs) (filter (is_own o) rs))) other ∙ none_own o rs all.1

-- and of its own all are
all_own : (o : Labels) (rs : List ZoneRecord) → AllByRecursion (λ r. r.origin ≡ o) rs → own_records o rs ≡ map (λ r. r.rr) rs
all_own o [] all = refl
all_own o (r ∷ rs) all =
    let here : same_name o r.origin ≡ true = ap (same_name o) all.0 ∙ name_self o in
    ap (λ (b : Bool). map (λ (x : ZoneRecord). x.rr) (cond b (r ∷ filter (is_own o) rs) (filter (is_own o) rs))) here ∙ ap (λ (l : List Record). r.rr ∷ l) (all_own o rs all.1)

own_both : (o : Labels) (xs ys : List ZoneRecord) → own_records o (xs ++ ys) ≡ own_records o xs ++ own_records o ys
own_both o xs ys = ap (map (λ (x : ZoneRecord). x.rr)) (filter-append (is_own o) xs ys) ∙ map-append (λ (x : ZoneRecord). x.rr) (filter (is_own o) xs) (filter (is_own o) ys)

-- a zone of some origins is what its records among some make
abbrev pub IsMadeOf : List Labels → List ZoneRecord → ZoneOf → Type 0
IsMadeOf names done zone = Has names zone.origin × (of_zones (built zone.origin (own_records zone.origin done)) ≡ Ok zone)

-- the first of some records are of the first origins, and the largest zone so far is of them
pub record IsDone (origins : List Labels) (i : ℕ) (rs left : List ZoneRecord) (largest : Option ZoneOf) : Type 0 where
  pub done : List ZoneRecord
  pub whole : rs ≡ done ++ left
  pub each : AllByRecursion (λ r. Has (take i origins) r.origin) done
  pub made : IfSome largest (IsMadeOf (take i origins) done)

pub none_done : (origins : List Labels) (rs : List ZoneRecord) → IsDone origins 0 rs rs None
none_done origins rs = record { done = []; whole = refl; each = tt; made = tt }

-- a later origin is not among the first ones
module _ (origins : List Labels) (are : AreOrigins origins) (i : ℕ) (o : Labels) (below : i < length origins) (is : o ≡ get_or origins i o) where
  first_apart : (p : Labels) → Has (take i origins) p → p ≢ o
  first_apart p has e =
      let up = rises_up canonical_cmp canonical_total origins are.order in
      let less = before_at (λ a b. canonical_cmp a b ≡ Less) origins up i o below is p has in
      let tie : canonical_cmp p o ≡ Equal = ap (λ (q : Labels). canonical_cmp q o) e ∙ tied_itself canonical_total o in
      let bad : Less ≡ Equal = sym less ∙ tie in cc

  one_more : take (i + 1) origins ≡ take i origins ++ o ∷ []
  one_more = take_more origins i o below ∙ ap (λ (x : Labels). take i origins ++ x ∷ []) (sym is)

  module _ (rs left own other : List ZoneRecord) (largest : Option ZoneOf) (done : IsDone origins i rs left largest) (cut : left ≡ own ++ other) (mine : AllByRecursion (λ r. r.origin ≡ o) own) where
    -- the records of an origin before are the same with those of the next zone
    before_same : (p : Labels) → Has (take i origins) p → own_records p (done.done ++ own) ≡ own_records p done.done
    before_same p has =
        own_both p done.done own
        ∙ ap (λ (l : List Record). own_records p done.done ++ l) (none_own p own (all_weaker (λ r. r.origin ≡ o) (λ r. r.origin ≢ p) (λ r same e. first_apart p has (sym e ∙ same)) own mine))
        ∙ append-nil (own_records p done.done)

    next_own : own_records o (done.done ++ own) ≡ map (λ r. r.rr) own
    next_own =
        own_both o done.done own
        ∙ ap (λ (l : List Record). l ++ own_records o own) (none_own o done.done (all_weaker (λ r. Has (take i origins) r.origin) (λ r. r.origin ≢ o) (λ r has. first_apart r.origin has) done.done done.each))
        ∙ all_own o own mine

    wider : (p : Labels) → Has (take i origins) p → Has (take (i + 1) origins) p
    wider p has = subst (λ (l : List Labels). Has l p) (sym one_more) (has_left (take i origins) (o ∷ []) p has)

    here : Has (take (i + 1) origins) o
    here = subst (λ (l : List Labels). Has l o) (sym one_more) (has_right (take i origins) (o ∷ []) o (inl refl))

    kept : (z : Option ZoneOf) → IfSome z (IsMadeOf (take i origins) done.done) → IfSome z (IsMadeOf (take (i + 1) origins) (done.done ++ own))
    kept None made = tt
    kept (Some zone) made = (wider zone.origin made.0, ap (λ (l : List Record). of_zones (built zone.origin l)) (before_same zone.origin made.0) ∙ made.1)

    next : (zone : ZoneOf) → zone.origin ≡ o → of_zones (built o (map (λ r. r.rr) own)) ≡ Ok zone → IsMadeOf (take (i + 1) origins) (done.done ++ own) zone
    next zone named made =
        subst (λ (n : Labels). Has (take (i + 1) origins) n × (of_zones (built n (own_records n (done.done ++ own))) ≡ Ok zone)) (sym named)
        (here, ap (λ (l : List Record). of_zones (built o l)) next_own ∙ made)

    pub done_more : (zone : ZoneOf) (after : Option ZoneOf) → zone.origin ≡ o → of_zones (built o (map (λ r. r.rr) own)) ≡ Ok zone → (after ≡ largest) ⊎ (after ≡ Some zone) → IsDone origins (i + 1) rs other after
    done_more zone after named made which = record {
      done = done.done ++ own;
      whole = done.whole ∙ ap (λ (l : List ZoneRecord). done.done ++ l) cut ∙ sym (append_assoc done.done own other);
      each =
          all-append (λ r. Has (take (i + 1) origins) r.origin) done.done own (all_weaker (λ r. Has (take i origins) r.origin) (λ r. Has (take (i + 1) origins) r.origin) (λ r has. wider r.origin has) done.done done.each)
          (all_weaker (λ r. r.origin ≡ o) (λ r. Has (take (i + 1) origins) r.origin) (λ r same. subst (Has (take (i + 1) origins)) (sym same) here) own mine);
      made = elim which [ inl same ↦ subst (λ (z : Option ZoneOf). IfSome z (IsMadeOf (take (i + 1) origins) (done.done ++ own))) (sym same) (kept largest done.made) | inr new ↦ subst (λ (z : Option ZoneOf). IfSome z (IsMadeOf (take (i + 1) origins) (done.done ++ own))) (sym new) (next zone named made) ];
    }

-- after the last zone
pub done_all : (origins : List Labels) (i : ℕ) (rs left : List ZoneRecord) (largest : Option ZoneOf) → AllByRecursion IsName origins → AllByRecursion IsZoneRecord rs → IsDone origins i rs left largest → left ≡ []
    → IfSome largest (λ zone. IsReadAmong origins (map row_of_record rs) zone)
done_all origins i rs left largest names all done none = go largest done.made
  where
    all_done : done.done ≡ rs
    all_done = sym (done.whole ∙ ap (λ (l : List ZoneRecord). done.done ++ l) none ∙ append-nil done.done)

    go : (z : Option ZoneOf) → IfSome z (IsMadeOf (take i origins) done.done) → IfSome z (λ zone. IsReadAmong origins (map row_of_record rs) zone)
    go None made = tt
    go (Some zone) made =
        let has = subst (λ (l : List Labels). Has l zone.origin) (take-append-drop i origins) (has_left (take i origins) (drop i origins) zone.origin made.0) in
        (has, made_read zone.origin rs zone (all_has IsName origins zone.origin names has) all refl (ap (λ (l : List ZoneRecord). of_zones (built zone.origin (own_records zone.origin l))) (sym all_done) ∙ made.1))

-- a zone of one of the origins of tables is read in them
pub read_in : (origins : List Labels) (all : RowsOf) (zone : ZoneOf) → AreOriginRows origins all.zones → IsReadAmong origins all.records zone → IsReadIn all zone
read_in origins all zone are read = record {
  named = all_has IsName origins zone.origin are.are.each read.0;
  listed =
      some_from (bytes_eq (name_text zone.origin)) all.zones (name_text zone.origin) (has_permutation (map name_text origins) all.zones (name_text zone.origin) are.same (has_map name_text origins zone.origin read.0))
      (bytes_same (name_text zone.origin) (name_text zone.origin) refl);
  read = read.1;
}

-- A zone that is read in the tables of a state is its zone.
pub read_is : (version : ℤ) (all : RowsOf) (s : State) (zone : ZoneOf) → AreOfState version all s → IsReadIn all zone → zone_at s zone.origin ≡ Some zone
read_is version all s zone st is =
    let o = zone.origin in
    let named = is.named in
    let read = is.read in
    let held = (zones_are_listed version all s o st named).0 is.listed in
    let at : zone_at s o ≡ Some (zone_held o held.0) = ap (option_map (zone_held o)) held.1 in
    let found = zone_of_state version all s o (zone_held o held.0) st at in
    let rows = rows_moved o found.0 read.0 (IsPermutation-trans (map (record_row o) found.0) (records_of (name_text o) all.records) read.0 found.1.rows read.1) in
    let same : zone ≡ zone_in o found.0 = ok_is zone (zone_in o found.0) (sym read.2 ∙ zone_stored o named found.0 found.1.zone read.0 rows) in
    at ∙ ap (λ (z : ZoneOf). Some z) (found.2 ∙ sym same)
