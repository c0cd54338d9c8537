-- The cached zone.
use Rattle.std.proofs.Common.{◌≡◌, ◌≢◌, ℕ, ◌+◌, ◌<◌, List, [], ◌∷◌, ◌++◌, length, get_or, ◌||◌, Bool, cond, true, false, take, Option, Some, None, is_some, IsNone, Result, Ok, Err, IfOk, IfSome, Bor, filter, refl, sym, ap, subst, ◌∙◌, arith}
use Rattle.std.specs.FinMap.{get}
use Rattle.std.specs.List.{AllByRecursion, Contains, list_any}
use Rattle.std.proofs.lemmas.List.Elements.{Contains-append_left, Contains-append_right}
use Rattle.std.proofs.lemmas.List.Folds.{list_any_more}
use Rattle.dns_names.specs.Order.{same_name}
use Rattle.dns_data.specs.declared.record.Record.{Record}
use Rattle.zone_core.specs.Sets.{Records, Key, key_of as key_of_record, set_of, listing, part, at_name, InOrder, IsIn}
use Rattle.zone_core.specs.declared.faults.ZoneFault.{ZoneFault}
use Rattle.zone_core.specs.declared.faults.ZoneFault.TheVariants as faults
use Rattle.zone_core.specs.Faults.{Refuses}
use Rattle.zone_core.specs.Zones.{ZoneOf, IsZone, built}
use Rattle.zone_core.specs.Parts.{part_of, at_names}
use Rattle.zone_core.specs.Rebuilt.{AreAllOf}
use Rattle.zone_core.proofs.SetLemmas.{by_cases, found_of_part, get-part, name_self}
use Rattle.zone_core.proofs.NeedLemmas.{part_is_zone}
use Rattle.zone_core.proofs.RebuiltLemmas.{zones_are_rebuilt}
use Rattle.zone_core.proofs.RowLemmas.{each_in, get-set_of, in_has, listing-part, set_of-filter, InOrder-filter}
use Rattle.zone_core.proofs.ChangedLemmas.{listed}
use Rattle.store_cache.proofs.PieceLemmas.{all_joined}
use Rattle.store_cache.specs.declared.cached_zone.CachedZone.{CachedZone}
use Rattle.store_cache.specs.Cache.{IsPartOf, current_zone, is_cached_of}

abbrev Labels : Type 0
Labels = List (List ℕ)

-- ---- what is cached

-- the rows of a zone that was read
pub of_zone : (zone : ZoneOf) (origin : Labels) (rows rs : List Record) → IsZone zone → origin ≡ zone.origin → rows ≡ rs → rs ≡ listing zone.records → record { origin = origin; records = set_of rows } ≡ zone
of_zone zone origin rows rs is own same listing_is =
    λ i. record { origin = own i; records = (ap set_of (same ∙ listing_is) ∙ (listed zone.records is.kept).set) i }

-- the records of rows whose keys pass a test
pub records_are : (rows rs : List Record) (test : Key → Bool) → InOrder rows → rs ≡ filter (λ r. test (key_of_record r)) rows → rs ≡ listing (part (set_of rows) test)
records_are rows rs test order is = is ∙ sym (listing-part test rows order)

-- ---- the records of a part, gathered name by name

all_weaker : {P Q : Record → Type 0} (rs : List Record) → ((r : Record) → P r → Q r) → AllByRecursion P rs → AllByRecursion Q rs
all_weaker [] f all = tt
all_weaker (r ∷ rs) f all = (f r all.0, all_weaker rs f all.1)

all_there : (rs : List Record) → AllByRecursion (Contains rs) rs
all_there [] = tt
all_there (r ∷ rs) = ((0, omega arith, refl), all_weaker rs (λ s. Contains-append_right (r ∷ []) rs s) (all_there rs))

-- rows are all of their set
all_of_rows : (rs : List Record) → InOrder rs → AreAllOf rs (set_of rs)
all_of_rows rs order =
    record {
      inside = all_weaker rs (λ r e. get-set_of rs (key_of_record r) ∙ e) (each_in rs order);
      whole = λ r here. in_has (Contains rs) rs r (all_there rs) here;
    }

-- those that pass a test are all of a part
pub all_filtered : (rows rs : List Record) (test : Key → Bool) → InOrder rows → rs ≡ filter (λ r. test (key_of_record r)) rows → AreAllOf rs (part (set_of rows) test)
all_filtered rows rs test order is =
    subst (λ l. AreAllOf l (part (set_of rows) test)) (sym is)
    (subst (AreAllOf (filter (λ r. test (key_of_record r)) rows)) (set_of-filter test rows) (all_of_rows (filter (λ r. test (key_of_record r)) rows) (InOrder-filter (λ r. test (key_of_record r)) rows order)))

-- with those of one more test
pub all_more : (set : Records) (p q t : Key → Bool) → ((k : Key) → t k ≡ (p k || q k)) → (xs ys : List Record) → AreAllOf xs (part set p) → AreAllOf ys (part set q) → AreAllOf (xs ++ ys) (part set t)
all_more set p q t both xs ys first second =
    record {
      inside = all_joined (λ r. IsIn r (part set t)) xs ys (all_weaker xs (λ r here. wider p (λ k e. both k ∙ ap (λ b. b || q k) e) r here) first.inside)
          (all_weaker ys (λ r here. wider q (λ k e. both k ∙ ap (λ b. p k || b) e ∙ or_true (p k)) r here) second.inside);
      whole = λ r here. let found = found_of_part set t (key_of_record r) r here in
          by_cases (p (key_of_record r)) (Contains (xs ++ ys) r)
          (λ e. Contains-append_left xs ys r (first.whole r (get-part set p (key_of_record r) ∙ ap (λ b. cond b (get set (key_of_record r)) None) e ∙ found.1)))
          (λ e. Contains-append_right xs ys r (second.whole r (get-part set q (key_of_record r) ∙ ap (λ b. cond b (get set (key_of_record r)) None) (sym (ap (λ b. b || q (key_of_record r)) e) ∙ sym (both (key_of_record r)) ∙ found.0) ∙ found.1)));
    }
  where
    or_true : (b : Bool) → (b || true) ≡ true
    or_true true = refl
    or_true false = refl

    wider : (w : Key → Bool) → ((k : Key) → w k ≡ true → t k ≡ true) → (r : Record) → IsIn r (part set w) → IsIn r (part set t)
    wider w more r here =
        let found = found_of_part set w (key_of_record r) r here in
        get-part set t (key_of_record r) ∙ ap (λ b. cond b (get set (key_of_record r)) None) (more (key_of_record r) found.0) ∙ found.1

-- at first those at the origin
pub all_at_origin : (set : Records) (o : Labels) (xs : List Record) → AreAllOf xs (part set (at_name o)) → AreAllOf xs (part set (at_names o []))
all_at_origin set o xs all = subst (λ test. AreAllOf xs (part set test)) (λ i k. sym (or_nothing (at_name o k)) i) all
  where
    or_nothing : (b : Bool) → (b || false) ≡ b
    or_nothing true = refl
    or_nothing false = refl

-- and then those at one name more
pub all_at_name : (set : Records) (o : Labels) (names : List Labels) (i : ℕ) (name : Labels) → i < length names → name ≡ get_or names i name → (xs ys : List Record)
    → AreAllOf xs (part set (at_names o (take i names))) → AreAllOf ys (part set (at_name name)) → AreAllOf (xs ++ ys) (part set (at_names o (take (i + 1) names)))
all_at_name set o names i name below is xs ys first second =
    all_more set (at_names o (take i names)) (at_name name) (at_names o (take (i + 1) names)) (λ k.
    ap (λ b. at_name o k || b) (list_any_more (λ n. at_name n k) names i name below ∙ ap (λ n. list_any (λ m. at_name m k) (take i names) || at_name n k) (sym is))
    ∙ or_assoc (at_name o k) (list_any (λ n. at_name n k) (take i names)) (at_name name k)) xs ys first second
  where
    or_assoc : (a b c : Bool) → (a || (b || c)) ≡ ((a || b) || c)
    or_assoc true b c = refl
    or_assoc false b c = refl

-- what is built of them is the part
pub part_rebuilt : (zone : ZoneOf) (names : List Labels) (rs : List Record) → AreAllOf rs (part zone.records (at_names zone.origin names)) → IsZone zone → built zone.origin rs ≡ Ok (part_of zone (at_names zone.origin names))
part_rebuilt zone names rs all is = zones_are_rebuilt (part_of zone (at_names zone.origin names)) rs there all
  where
    here : (k : Key) → k.0 ≡ zone.origin → at_name zone.origin k ≡ true
    here k name = rw name (name_self zone.origin)

    there : IsZone (part_of zone (at_names zone.origin names))
    there = part_is_zone zone (at_names zone.origin names) is (λ k name. ap (λ b. b || list_any (λ n. at_name n k) names) (here k name))

pub part_built : (zone whole : ZoneOf) (names : List Labels) (rs : List Record) → AreAllOf rs (part zone.records (at_names zone.origin names)) → built zone.origin rs ≡ Ok whole → IsZone zone → whole ≡ part_of zone (at_names zone.origin names)
part_built zone whole names rs all made is = ok_is (sym made ∙ part_rebuilt zone names rs all is)
  where
    ok_is : {x y : ZoneOf} → ◌≡◌ {A = Result ZoneOf ZoneFault} (Ok x) (Ok y) → x ≡ y
    ok_is e = cc

-- and nothing else than want of memory refuses them
pub part_refused : (zone : ZoneOf) (names : List Labels) (rs : List Record) (fault : ZoneFault) → AreAllOf rs (part zone.records (at_names zone.origin names)) → fault ≢ faults.NoMemory → Refuses fault (built zone.origin rs) → IsZone zone → ⊥
part_refused zone names rs fault all other refused is =
    let both : Ok (part_of zone (at_names zone.origin names)) ≡ Err fault = sym (part_rebuilt zone names rs all is) ∙ told fault other (built zone.origin rs) refused in
    absurd cc
  where
    told : (fault : ZoneFault) → fault ≢ faults.NoMemory → (made : Result ZoneOf ZoneFault) → Refuses fault made → made ≡ Err fault
    told faults.RootOrigin other made e = e
    told faults.OutOfZone other made e = e
    told faults.SoaNotAtOrigin other made e = e
    told faults.NoSoa other made e = e
    told faults.TwoSoa other made e = e
    told faults.NoOriginNs other made e = e
    told faults.TwoCnames other made e = e
    told faults.CnameAndOther other made e = e
    told faults.NoMemory other made e = absurd (other refl)

-- ---- which zone is cached

-- the one that is found
pub is_found : (found : Option (Bor CachedZone)) (cached : Option ZoneOf) (o : Labels) → IfSome found (λ x. (cached ≡ Some (current_zone x.now)) × (x.now.origin ≡ o)) → (IsNone found → is_cached_of cached o ≡ false)
    → is_some found ≡ is_cached_of cached o
is_found None cached o some none = sym (none refl)
is_found (Some x) cached o some none = sym (ap (λ z. is_cached_of z o) some.0 ∙ ap (same_name x.now.origin) (sym some.1) ∙ name_self x.now.origin)

-- it is found
pub none_found : (cached : Option ZoneOf) (zone : ZoneOf) (o : Labels) → is_cached_of cached o ≡ false → cached ≡ Some zone → zone.origin ≡ o → ⊥
none_found cached zone o none there own =
    let found : is_cached_of cached o ≡ true = ap (λ z. is_cached_of z o) there ∙ ap (same_name zone.origin) (sym own) ∙ name_self zone.origin in
    let both : true ≡ false = sym found ∙ none in
    absurd cc

-- the part of the cached zone, as far as that is a zone
module _ (cached : Option ZoneOf) (zone : ZoneOf) (o : Labels) (names : List Labels) (there : cached ≡ Some zone) (own : zone.origin ≡ o) where
  abbrev Made : Option ZoneOf → Type 0
  Made found = IsZone zone → found ≡ Some (part_of zone (at_names zone.origin names))

  pub part_told : {E : Type 0} (r : Result (Option ZoneOf) E) → IfOk r Made → IfOk r (λ found. IfSome found (λ part. IsPartOf cached o names part))
  part_told (Ok None) told = tt
  part_told (Ok (Some part)) told =
      record { zone = zone; is_cached = there; own = own; part = λ is. subst (λ n. part ≡ part_of zone (at_names n names)) own (let whole : Some part ≡ Some (part_of zone (at_names zone.origin names)) = told is in cc) }
  part_told (Err e) told = tt

  pub none_told : {E : Type 0} (r : Result (Option ZoneOf) E) → IfOk r Made → IfOk r (λ found. IsNone found → (z : ZoneOf) → cached ≡ Some z → z.origin ≡ o → ¬ IsZone z)
  none_told (Ok None) told = λ none z also at is.
      let same : z ≡ zone = (let both : Some z ≡ Some zone = sym also ∙ there in cc) in
      let whole : None ≡ Some (part_of zone (at_names zone.origin names)) = told (subst IsZone same is) in
      absurd cc
  none_told (Ok (Some part)) told = λ none. absurd (let some : true ≡ false = none in cc)
  none_told (Err e) told = tt
