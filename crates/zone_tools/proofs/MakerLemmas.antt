-- Which updates may have made the changes of a zone.
use Rattle.std.proofs.Common.{◌≡◌, ◌≢◌, ◌↔◌, ℕ, ◌+◌, ◌-◌, ◌<◌, ◌≤◌, List, [], ◌∷◌, ◌++◌, length, take, drop, get_or, map, reverse, Bool, true, false, ◌||◌, Option, Some, None, is_some, Result, Ok, Err, refl, sym, ap, subst, ◌∙◌, arith, add-one}
use Rattle.std.specs.Prelude.{slice_get, Vec}
use Rattle.std.specs.List.{AllByRecursion, list_any}
use Rattle.std.specs.Result.{is_err, IfOk}
use Rattle.std.proofs.lemmas.List.{take_more, take_all, drop_all, get_or_default, reverse-append, map-append}
use Rattle.std.proofs.lemmas.List.Folds.{list_any-append}
use Rattle.std.proofs.Math.Seq.{drop-cons}
use Rattle.dns_data.specs.declared.record.Record.{Record}
use Rattle.dns_data.specs.Rdata.{IsRecord}
use Rattle.zone_core.specs.declared.change.Change.{Change}
use Rattle.zone_core.specs.declared.faults.ZoneFault.{ZoneFault}
use Rattle.zone_core.specs.declared.faults.ZoneFault.TheVariants as faults
use Rattle.zone_core.specs.Faults.{Gives, Refuses}
use Rattle.zone_core.specs.declared.verdict.Failed.{Failed}
use Rattle.zone_core.specs.Sets.{Records, Key, listing, part, at_name}
use Rattle.zone_core.specs.Zones.{ZoneOf, IsZone, AreKept, zone_of, built, latest, min_rrset_ttls, unless_fault, fault_in}
use Rattle.zone_core.specs.Updates.{UpdateOf, IsUpdate, ActsWithin, tested_name, acted_name, item_names}
use Rattle.zone_core.specs.Prerequisites.{verdict, failure}
use Rattle.zone_core.specs.Effects.{zone_after}
use Rattle.zone_core.specs.Met.{AreMet}
use Rattle.zone_core.specs.Parts.{tested, touched, part_of, at_names, Covers, DoesForZone}
use Rattle.zone_core.specs.Rebuilt.{AreAllOf}
use Rattle.zone_core.specs.Changes.{ChangeOf, change_in, change_between, is_empty}
use Rattle.zone_core.proofs.SetLemmas.{name_self}
use Rattle.zone_core.proofs.ChangedLemmas.{listed}
use Rattle.zone_core.proofs.MetLemmas.{met_answer}
use Rattle.zone_core.proofs.NeedLemmas.{part_is_zone, updates_need}
use Rattle.zone_core.proofs.RebuiltLemmas.{latest_is, min_rrset_ttls_is}
use Rattle.zone_core.proofs.UnmetLemmas.{at_each}
use Rattle.zone_core.proofs.WholeLemmas.{no_fault}
use Rattle.zone_tools.specs.Differences.{is_equal}
use Rattle.zone_tools.specs.History.{before, undone}
use Rattle.zone_tools.specs.Makers.{MayHaveMade, zone_read, AreMakers, EachHas, AreMakersByParts, AreMakersOfZones, MakersNeedTheirPart, MakersAreFound}
use Rattle.zone_tools.proofs.DiffSoaLemmas.{equal_is, is_equal_self}
use Rattle.zone_tools.proofs.HistoryLemmas.{changes_are_undone, undone_next}
use Rattle.zone_tools.proofs.PastLemmas.{all_listed}

abbrev Labels : Type 0
Labels = List (List ℕ)

-- ---- rows that are equal

pub unequal : (xs ys : List Record) (i : ℕ) (x y : Record) → i < length xs → i < length ys → x ≡ get_or xs i x → y ≡ get_or ys i y → is_equal x y ≡ false → xs ≡ ys → ⊥
unequal xs ys i x y below also at_x at_y differ same =
    let one : y ≡ x = at_y ∙ get_or_default ys i y x also ∙ ap (λ (zs : List Record). get_or zs i x) (sym same) ∙ sym at_x in
    let bad : true ≡ false = sym (is_equal_self x) ∙ ap (is_equal x) (sym one) ∙ differ in
    cc

-- what is read twice is the same
pub same_read : (xs : List Record) (i : ℕ) (x y : Record) → i < length xs → x ≡ get_or xs i x → y ≡ get_or xs i y → x ≡ y
same_read xs i x y below at_x at_y = at_x ∙ get_or_default xs i x y below ∙ sym at_y

pub equal_more : (xs ys : List Record) (i : ℕ) (x y : Record) → i < length xs → i < length ys → x ≡ get_or xs i x → y ≡ get_or ys i y → IsRecord x → IsRecord y → is_equal x y ≡ true
    → take i xs ≡ take i ys → take (i + 1) xs ≡ take (i + 1) ys
equal_more xs ys i x y below also at_x at_y is is_too same so_far =
    let one : x ≡ y = equal_is x y is is_too same in
    take_more xs i x below ∙ (λ j. so_far j ++ (sym at_x ∙ one ∙ at_y) j ∷ []) ∙ sym (take_more ys i y also)

pub equal_all : (xs ys : List Record) (i : ℕ) → length xs ≡ length ys → length xs ≤ i → take i xs ≡ take i ys → xs ≡ ys
equal_all xs ys i same end so_far = let past : length ys ≤ i = omega arith in sym (take_all i xs end) ∙ so_far ∙ take_all i ys past

pub other_length : (xs ys : List Record) → (length xs ≡ length ys → ⊥) → xs ≡ ys → ⊥
other_length xs ys differ same = differ (ap length same)

-- changes are one where both sides are
pub other_side : (c d : Change) (a : Bool) → (a ≡ true) ↔ (c.removed.items ≡ d.removed.items) → a ≡ false → (false ≡ true) ↔ (change_in c ≡ change_in d)
other_side c d a first differ = (λ t. absurd cc, λ e. sym differ ∙ first.1 (ap (λ (x : ChangeOf). x.removed) e))

pub both_sides : (c d : Change) (a b : Bool) → (a ≡ true) ↔ (c.removed.items ≡ d.removed.items) → a ≡ true → (b ≡ true) ↔ (c.added.items ≡ d.added.items) → (b ≡ true) ↔ (change_in c ≡ change_in d)
both_sides c d a b first same second = (
  λ t. λ i. record { removed = first.0 same i; added = second.0 t i },
  λ e. second.1 (ap (λ (x : ChangeOf). x.added) e),
)

-- ---- prerequisites that are met

pub not_met : {P : Type 0} (r : Result (Unit {0}) Failed) → (r ≡ Ok tt) ↔ P → is_err r ≡ true → P → ⊥
not_met (Ok x) met e p = absurd cc
not_met (Err f) met e p = let bad = met.1 p in absurd cc

pub is_met : {P : Type 0} (r : Result (Unit {0}) Failed) → (r ≡ Ok tt) ↔ P → is_err r ≡ false → P
is_met (Ok x) met e = met.0 refl
is_met (Err f) met e = absurd cc

-- what is told of a test that fails
pub not_so : {P : Type 0} → (P → ⊥) → (false ≡ true) ↔ P
not_so f = (λ t. absurd cc, λ p. absurd (f p))

pub none_is : {X : Type 0} (o : Option X) → is_some o ≡ false → o ≡ None
none_is None e = refl
none_is (Some x) e = absurd cc

pub if_weaker : {T E : Type 0} {P Q : T → Type 0} (r : Result T E) → ((x : T) → P x → Q x) → IfOk r P → IfOk r Q
if_weaker (Ok x) f p = f x p
if_weaker (Err e) f p = tt

-- an update whose prerequisites are met makes what it changes
pub met_makes : {M : Type 0} (made between change : ChangeOf) (b : Bool) → M → made ≡ between → (b ≡ true) ↔ (made ≡ change) → (b ≡ true) ↔ (M × (between ≡ change))
met_makes made between change b met is same = (λ t. (met, sym is ∙ same.0 t), λ both. same.1 (is ∙ both.1))

-- and what it makes of the zone that it has it may have made
pub may_is : (zone whole : ZoneOf) (update : UpdateOf) (change : ChangeOf) (b : Bool) → zone ≡ whole → IsZone zone → ActsWithin zone.origin update → is_empty change ≡ false
    → (b ≡ true) ↔ (AreMet zone.records update.prerequisites × (change_between zone.records (zone_after zone update).records ≡ change)) → (b ≡ true) ↔ MayHaveMade whole update change
may_is zone whole update change b same z acts some told = subst (λ (w : ZoneOf). (b ≡ true) ↔ MayHaveMade w update change) same (
  λ t. let both = told.0 t in record { is_zone = z; inside = acts; met = both.0; something = some; makes = both.1 },
  λ may. told.1 (may.met, may.makes),
)

-- ---- what an update reads

any_map : {X Y : Type 0} (p : Y → Bool) (f : X → Y) (xs : List X) → list_any p (map f xs) ≡ list_any (λ x. p (f x)) xs
any_map p f [] = refl
any_map p f (x ∷ xs) = ap (λ b. p (f x) || b) (any_map p f xs)

-- the names of an update are those that it tests and those that it acts at
names_are : (origin : Labels) (update : UpdateOf) (k : Key) → at_names origin (item_names update) k ≡ (at_name origin k || (tested update.prerequisites k || touched update.operations k))
names_are origin update k =
    ap (λ b. at_name origin k || b)
    (list_any-append (λ name. at_name name k) (map tested_name update.prerequisites) (map acted_name update.operations)
    ∙ (λ i. any_map (λ name. at_name name k) tested_name update.prerequisites i || any_map (λ name. at_name name k) acted_name update.operations i))

covers_all : (origin : Labels) (update : UpdateOf) → Covers origin update (at_names origin (item_names update))
covers_all origin update k e = names_are origin update k ∙ e

module _ (zone : ZoneOf) (update : UpdateOf) (change : ChangeOf) (z : IsZone zone) (is : IsUpdate update) where
  abbrev test : Key → Bool
  test = at_names zone.origin (item_names update)

  abbrev less : ZoneOf
  less = part_of zone test

  at_origin : (k : Key) → k.0 ≡ zone.origin → test k ≡ true
  at_origin k name = ap (λ b. b || list_any (λ n. at_name n k) (item_names update)) (here k name)
    where
      here : (j : Key) → j.0 ≡ zone.origin → at_name zone.origin j ≡ true
      here j e = rw e (name_self zone.origin)

  part_zone : IsZone less
  part_zone = part_is_zone zone test z at_origin

  -- the zone that the records which it reads would be is the part
  read_is : zone_read zone.origin zone.records update ≡ less
  read_is =
      let rows : List Record = listing (part zone.records test) in
      let set : min_rrset_ttls (latest rows) ≡ less.records = ap min_rrset_ttls (latest_is less.records part_zone.kept rows (all_listed less.records part_zone.kept)) ∙ min_rrset_ttls_is less part_zone in
      λ i. record { origin = zone.origin; records = set i }

  answer : Option Failed → Result (Unit {0}) Failed
  answer None = Ok tt
  answer (Some f) = Err f

  failure_is : (o : Option Failed) → failure (answer o) ≡ o
  unfolding answer
  failure_is None = refl
  failure_is (Some f) = refl

  module _ (acts : ActsWithin zone.origin update) where
    does : DoesForZone zone update test
    does = updates_need zone update test z is acts (covers_all zone.origin update)

    made_alike : change_between less.records (zone_after less update).records ≡ change_between zone.records (zone_after zone update).records
    made_alike = λ i. record { removed = listing (does.removed i); added = listing (does.added i) }

    met_in : (whole : ZoneOf) → IsZone whole → (o : Option Failed) → o ≡ verdict whole.records update.prerequisites → (answer o ≡ Ok tt) ↔ AreMet whole.records update.prerequisites
    met_in whole w o e =
        let rows = listed whole.records w.kept in
        met_answer whole.records (listing whole.records) rows.order rows.set w.kept update.prerequisites is.prerequisites (answer o) (failure_is o ∙ e)

    met_alike : AreMet less.records update.prerequisites ↔ AreMet zone.records update.prerequisites
    met_alike =
        let part_met = met_in less part_zone (verdict zone.records update.prerequisites) (sym does.verdict) in
        let whole_met = met_in zone z (verdict zone.records update.prerequisites) refl in
        (λ m. whole_met.0 (part_met.1 m), λ m. part_met.0 (whole_met.1 m))

  part_does : MayHaveMade less update change ↔ MayHaveMade zone update change
  part_does = (
    λ may. record { is_zone = z; inside = may.inside; met = (met_alike may.inside).0 may.met; something = may.something; makes = sym (made_alike may.inside) ∙ may.makes },
    λ may. record { is_zone = part_zone; inside = may.inside; met = (met_alike may.inside).1 may.met; something = may.something; makes = made_alike may.inside ∙ may.makes },
  )

  pub needs : MayHaveMade (zone_read zone.origin zone.records update) update change ↔ MayHaveMade zone update change
  needs = subst (λ (w : ZoneOf). MayHaveMade w update change ↔ MayHaveMade zone update change) (sym read_is) part_does

pub makers_need : MakersNeedTheirPart
makers_need zone update change z is = needs zone update change z is

-- ---- the zone that is built of what is read

-- rows that are all of a set are built as the rows of the set would be
pub read_rows : (origin : Labels) (set : Records) (rows : List Record) → AreKept set → AreAllOf rows set → zone_of origin rows ≡ zone_of origin (listing set)
read_rows origin set rows kept all =
    (λ i. record { origin = origin; records = min_rrset_ttls ((latest_is set kept rows all ∙ sym (latest_is set kept (listing set) (all_listed set kept))) i) })

-- what is built is the zone that they would be
pub built_is : (origin : Labels) (rows : List Record) (zone : ZoneOf) → built origin rows ≡ Ok zone → zone ≡ zone_of origin rows
built_is origin rows zone e = by_fault (fault_in origin (min_rrset_ttls (latest rows))) e
  where
    by_fault : (o : Option ZoneFault) → unless_fault origin (min_rrset_ttls (latest rows)) o ≡ Ok zone → zone ≡ zone_of origin rows
    by_fault None f = let one : record { origin = origin; records = min_rrset_ttls (latest rows) } ≡ zone = cc in sym one
    by_fault (Some fault) f = absurd cc

pub built_ok : (origin own : Labels) (rows : List Record) (zone : ZoneOf) (answer : Result ZoneOf ZoneFault) → own ≡ origin → answer ≡ Ok zone → Gives (λ (z : ZoneOf). z) answer (built own rows) → zone ≡ zone_of origin rows
built_ok origin own rows zone answer same is given =
    built_is origin rows zone (subst (λ (o : Labels). built o rows ≡ Ok zone) same (subst (λ (r : Result ZoneOf ZoneFault). Gives (λ (z : ZoneOf). z) r (built own rows)) is given))

-- and what is refused would be none
pub refused_not : (origin : Labels) (rows : List Record) (fault : ZoneFault) → fault ≢ faults.NoMemory → Refuses fault (built origin rows) → IsZone (zone_of origin rows) → ⊥
refused_not origin rows fault other refused is =
    let e : built origin rows ≡ Err fault = told fault other (built origin rows) refused in
    let none : built origin rows ≡ Ok (zone_of origin rows) = ap (unless_fault origin (min_rrset_ttls (latest rows))) (no_fault origin (min_rrset_ttls (latest rows)) is.kept is) in
    let bad : ◌≡◌ {A = Result ZoneOf ZoneFault} (Ok (zone_of origin rows)) (Err fault) = sym none ∙ e in
    cc
  where
    told : (fault : ZoneFault) → fault ≢ faults.NoMemory → (made : Result ZoneOf ZoneFault) → Refuses fault made → made ≡ Err fault
    told faults.RootOrigin other made e = e
    told faults.OutOfZone other made e = e
    told faults.SoaNotAtOrigin other made e = e
    told faults.NoSoa other made e = e
    told faults.TwoSoa other made e = e
    told faults.NoOriginNs other made e = e
    told faults.TwoCnames other made e = e
    told faults.CnameAndOther other made e = e
    told faults.NoMemory other made e = absurd (other refl)

-- ---- all changes

pub each_weaker : (P Q : Records → ChangeOf → List ℕ → Type 0) → ((set : Records) (c : ChangeOf) (is : List ℕ) → P set c is → Q set c is)
    → (cs : List ChangeOf) (set : Records) (lists : List (List ℕ)) → EachHas P cs set lists → EachHas Q cs set lists
each_weaker P Q f [] set [] each = tt
each_weaker P Q f [] set (is ∷ lists) each = each
each_weaker P Q f (c ∷ cs) set [] each = each
each_weaker P Q f (c ∷ cs) set (is ∷ lists) each = (f (before (c ∷ cs) set) c is each.0, each_weaker P Q f cs set lists each.1)

abbrev zone_with : Labels → Records → ZoneOf
zone_with origin set = record { origin = origin; records = set }

-- by the part that each update reads, and so by the zone
pub of_zones : (origin : Labels) (updates : List UpdateOf) (cs : List ChangeOf) (set : Records) (lists : List (List ℕ)) → AllByRecursion IsUpdate updates
    → AreMakersByParts origin updates cs set lists → AreMakersOfZones origin updates cs set lists
of_zones origin updates cs set lists all by_parts = each_weaker (λ s c is. AreMakers (zone_read origin s) updates c is) (λ s c is. IsZone (zone_with origin s) → AreMakers (λ update. zone_with origin s) updates c is) (λ s c is makers z. whole s c is z makers) cs set lists by_parts
  where
    whole : (s : Records) (c : ChangeOf) (is : List ℕ) → IsZone (zone_with origin s) → AreMakers (zone_read origin s) updates c is → AreMakers (λ update. zone_with origin s) updates c is
    whole s c is z makers = record {
      ascending = makers.ascending;
      exact = λ i. (
        λ has. let one = (makers.exact i).0 has in (one.0, one.1, (needs (zone_with origin s) one.0 c z (at_each IsUpdate updates i one.0 all one.1)).0 one.2),
        λ one. (makers.exact i).1 (one.0, one.1, (needs (zone_with origin s) one.0 c z (at_each IsUpdate updates i one.0 all one.1)).1 one.2),
      );
    }

-- a change more, of which the list is put last
pub each_more : {A : Type 0} (P : Records → ChangeOf → List ℕ → Type 0) (changes : List Change) (set : Records) (i : ℕ) (change : Change) (found : List (Vec ℕ A)) (indexes : Vec ℕ A) → i < length changes → change ≡ get_or changes i change
    → EachHas P (map change_in (drop (i + 1) changes)) set (reverse (map (λ v. v.items) found))
    → P (undone (change_in change) (before (map change_in (drop (i + 1) changes)) set)) (change_in change) indexes.items
    → EachHas P (map change_in (drop i changes)) set (reverse (map (λ v. v.items) (found ++ indexes ∷ [])))
each_more {A} P changes set i change found indexes below is so_far here =
    let front : drop i changes ≡ change ∷ drop (i + 1) changes = (let f : drop i changes ≡ get_or changes i change ∷ drop (i + 1) changes = rw add-one (drop-cons changes i change below) in f ∙ ap (λ c. c ∷ drop (i + 1) changes) (sym is)) in
    let lists : reverse (map (λ (v : Vec ℕ A). v.items) (found ++ indexes ∷ [])) ≡ indexes.items ∷ reverse (map (λ (v : Vec ℕ A). v.items) found) =
    ap reverse (map-append (λ (v : Vec ℕ A). v.items) found (indexes ∷ [])) ∙ reverse-append (map (λ (v : Vec ℕ A). v.items) found) (indexes.items ∷ []) in
    subst (λ (cs : List Change). EachHas P (map change_in cs) set (reverse (map (λ (v : Vec ℕ A). v.items) (found ++ indexes ∷ [])))) (sym front)
    (subst (EachHas P (map change_in (change ∷ drop (i + 1) changes)) set) (sym lists) (here, so_far))

-- at first none is found
pub each_none : {A : Type 0} (P : Records → ChangeOf → List ℕ → Type 0) (changes : List Change) (set : Records) (i : ℕ) (found : List (Vec ℕ A)) → length changes ≤ i → found ≡ []
    → EachHas P (map change_in (drop i changes)) set (reverse (map (λ v. v.items) found))
each_none {A} P changes set i found end none =
    subst (λ (cs : List Change). EachHas P (map change_in cs) set (reverse (map (λ (v : Vec ℕ A). v.items) found))) (sym (drop_all i changes end))
    (subst (λ (lists : List (Vec ℕ A)). EachHas P [] set (reverse (map (λ (v : Vec ℕ A). v.items) lists))) (sym none) tt)

-- and then those of the change before the ones that were undone
module _ (changes : List Change) (set : Records) (at : ℕ) (change : Change) (some : 0 < at) (fits : at ≤ length changes) (is : change ≡ get_or changes (at - 1) change) where
  abbrev after : Records
  after = before (map change_in (drop at changes)) set

  one : at - 1 + 1 ≡ at
  one = omega arith

  here : at - 1 < length changes
  here = omega arith

  pub past_next : undone (change_in change) after ≡ before (map change_in (drop (at - 1) changes)) set
  past_next = sym (undone_next changes (at - 1) change here is set ∙ ap (λ (n : ℕ). undone (change_in change) (before (map change_in (drop n changes)) set)) one)

  pub each_next : {A : Type 0} (P : Records → ChangeOf → List ℕ → Type 0) (found : List (Vec ℕ A)) (indexes : Vec ℕ A) → EachHas P (map change_in (drop at changes)) set (reverse (map (λ v. v.items) found)) → P (undone (change_in change) after) (change_in change) indexes.items
      → EachHas P (map change_in (drop (at - 1) changes)) set (reverse (map (λ v. v.items) (found ++ indexes ∷ [])))
  each_next {A} P found indexes so_far now =
      each_more P changes set (at - 1) change found indexes here is (subst (λ (n : ℕ). EachHas P (map change_in (drop n changes)) set (reverse (map (λ (v : Vec ℕ A). v.items) found))) (sym one) so_far)
      (subst (λ (n : ℕ). P (undone (change_in change) (before (map change_in (drop n changes)) set)) (change_in change) indexes.items) (sym one) now)

map_reverse : {X Y : Type 0} (f : X → Y) (xs : List X) → map f (reverse xs) ≡ reverse (map f xs)
map_reverse f [] = refl
map_reverse f (x ∷ xs) =
    ap (map f) (reverse-append (x ∷ []) xs) ∙ map-append f (reverse xs) (x ∷ []) ∙ ap (λ ys. ys ++ f x ∷ []) (map_reverse f xs) ∙ sym (reverse-append (f x ∷ []) (map f xs))

-- at last all are found, from the first on
pub each_found : {A : Type 0} (P : Records → ChangeOf → List ℕ → Type 0) (changes : List Change) (set : Records) (at : ℕ) (found turned : List (Vec ℕ A)) → at ≡ 0 → turned ≡ reverse found
    → EachHas P (map change_in (drop at changes)) set (reverse (map (λ v. v.items) found)) → EachHas P (map change_in changes) set (map (λ v. v.items) turned)
each_found {A} P changes set at found turned end are each =
    let all : EachHas P (map change_in changes) set (reverse (map (λ (v : Vec ℕ A). v.items) found)) =
    subst (λ (n : ℕ). EachHas P (map change_in (drop n changes)) set (reverse (map (λ (v : Vec ℕ A). v.items) found))) end each in
    subst (EachHas P (map change_in changes) set) (sym (map_reverse (λ (v : Vec ℕ A). v.items) found) ∙ ap (map (λ (v : Vec ℕ A). v.items)) (sym are)) all

-- ---- the update that made a change

each_at : (P : Records → ChangeOf → List ℕ → Type 0) (earlier later : List ChangeOf) (c : ChangeOf) (set : Records) (lists : List (List ℕ)) → EachHas P (earlier ++ c ∷ later) set lists
    → (is : List ℕ) × (slice_get lists (length earlier) ≡ Some is) × P (before (c ∷ later) set) c is
each_at P [] later c set [] each = absurd each
each_at P [] later c set (is ∷ lists) each = (is, refl, each.0)
each_at P (e ∷ earlier) later c set [] each = absurd each
each_at P (e ∷ earlier) later c set (is ∷ lists) each = each_at P earlier later c set lists each.1

pub makers_are_found : MakersAreFound
makers_are_found zone earlier later now updates i update lists z acts met some leads here each =
    let change : ChangeOf = change_between zone.records (zone_after zone update).records in
    let was : before (change ∷ later) now ≡ zone.records = changes_are_undone zone.records now (change ∷ later) leads in
    let found = each_at (λ set c is. IsZone (record { origin = zone.origin; records = set }) → AreMakers (λ update. record { origin = zone.origin; records = set }) updates c is) earlier later change now lists each in
    let makers : AreMakers (λ _. zone) updates change found.0 =
    subst (λ (set : Records). IsZone (record { origin = zone.origin; records = set }) → AreMakers (λ _. record { origin = zone.origin; records = set }) updates change found.0) was found.2 z in
    (found.0, found.1, (makers.exact i).1 (update, here, record { is_zone = z; inside = acts; met = met; something = some; makes = refl }))
