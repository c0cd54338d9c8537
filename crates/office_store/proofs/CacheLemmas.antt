-- The cached zone, and the state that the connection holds.
use Rattle.std.proofs.Common.{◌≡◌, ◌⊎◌, ℕ, inl, inr, pos, List, ◌&&◌, bytes_eq, cond, true, false, map, drop, Option, Some, None, option_map, Result, Ok, Err, IfSome, IsTrue, IsPermutation, is_some, refl, sym, ap, subst, ◌∙◌}
use Rattle.std.proofs.Math.Logic.{∥∥₁_map, ∥∥₁_elim}
use Rattle.std.specs.Coded.{Coded-set, coded_option}
use Rattle.std.proofs.lemmas.List.Sorted.{IsPermutation-sym, IsPermutation-trans}
use Rattle.sqlite_trees.proofs.ListLemmas.{IsPermutation-filter}
use Rattle.sqlite.specs.State.{State as Shown, HasCleanDisk}
use Rattle.dns_names.specs.Keys.{key_of}
use Rattle.dns_names.specs.Order.{same_name}
use Rattle.dns_names.specs.Spelling.{name_text}
use Rattle.dns_names.proofs.NameLemmas.{same_name-Decides}
use Rattle.dns_data.specs.declared.record.Record.{Record}
use Rattle.zone_core.specs.Codes.{zone_code}
use Rattle.zone_core.specs.Sets.{listing, part, within}
use Rattle.zone_core.specs.Zones.{ZoneOf, IsZone}
use Rattle.zone_core.specs.Parts.{part_of, at_names}
use Rattle.zone_core.specs.Changes.{ChangeOf, changed}
use Rattle.zone_core.specs.Views.{zone_in}
use Rattle.zone_core.proofs.SetLemmas.{by_cases}
use Rattle.office_model.specs.States.{Held, State, zone_held, zone_at, part_at, subtree_at, keep}
use Rattle.grant_policy.specs.Grants.{GrantsOf}
use Rattle.office_model.specs.Tables.{AdditionOf, included, held_with, with_change_of, committed}
use Rattle.store_sql.specs.Rows.{RecordRowOf, RowsOf}
use Rattle.store_sql.specs.Tables.{stored_record}
use Rattle.store_sql.specs.Lookups.{records_of, records_at}
use Rattle.store_sql.proofs.Selections.{read_as, one_stored_record}
use Rattle.store_rows.specs.Contents.{AreOfState}
use Rattle.store_rows.specs.RecordRows.{record_row}
use Rattle.store_rows.proofs.ListLemmas.{none_moved}
use Rattle.store_rows.proofs.OriginLaws.{zones_stand_at_origins}
use Rattle.store_rows.proofs.StateLaws.{states_are_sound}
use Rattle.store_rows.proofs.ZoneReadLemmas.{rows_moved, zone_of_state, zone_stored}
use Rattle.store_cache.specs.Cache.{AreAllRecordsOf, AreIncludedOf, IsPartOf, cached_after, cached_behind, changed_at, is_cached_of, with_change}
use Rattle.office_store.specs.Cache.{FitsCache, IsZoneIn}
use Rattle.office_store.specs.Holds.{HoldsState, LeavesStates}
use Rattle.office_store.specs.Queries.{Asked}
use Rattle.office_store.specs.Turns.{Turns}
use Rattle.office_store.specs.Zones.{exported}

abbrev Labels : Type 0
Labels = List (List ℕ)

-- ---- what a call leaves

-- no zone fits where one does
pub fits_none : (conn : Shown) (cached : Option ZoneOf) → FitsCache conn cached → FitsCache conn None
fits_none conn cached fits = record { held = λ clean. ∥∥₁_map (fits.held clean) (λ it. (it.0, it.1, tt)) }

pub fits_kept : (conn : Shown) (before after : Option ZoneOf) → FitsCache conn before → (after ≡ before) ⊎ (after ≡ None) → FitsCache conn after
fits_kept conn before after fits (inl same) = subst (FitsCache conn) (sym same) fits
fits_kept conn before after fits (inr none) = subst (FitsCache conn) (sym none) (fits_none conn before fits)

-- over a state that is held
pub fits_held : (conn : Shown) → (HasCleanDisk conn → (s : State) × HoldsState conn s) → FitsCache conn None
fits_held conn holds = record { held = λ clean. let it = holds clean in ∣ (it.0, it.1, tt) ∣₁ }

-- a zone that was read with it is one of it
pub fits_read : (conn : Shown) (cached found : Option ZoneOf) → IfSome cached (λ zone. found ≡ Some zone) → (HasCleanDisk conn → (s : State) × HoldsState conn s × LeavesStates conn s s × IsZoneIn s found) → FitsCache conn cached
fits_read conn None found is holds = record { held = λ clean. let it = holds clean in ∣ (it.0, it.1, tt) ∣₁ }
fits_read conn (Some zone) found is holds = record { held = λ clean. let it = holds clean in ∣ (it.0, it.1, subst (IsZoneIn it.0) is it.3) ∣₁ }

-- after questions
pub fits_asked : (old new : Shown) (cached : Option ZoneOf) → Asked old new → FitsCache old cached → FitsCache new cached
fits_asked old new cached asked fits = record { held = λ clean. ∥∥₁_map (fits.held (asked.honest clean)) (λ it. (it.0, asked.same it.0 it.1, it.2)) }

pub fits_asked_none : (old new : Shown) (cached : Option ZoneOf) → Asked old new → FitsCache old cached → FitsCache new None
fits_asked_none old new cached asked fits = fits_none new cached (fits_asked old new cached asked fits)

-- after a call that turns the state into another
pub fits_turned : {X E : Type 0} (old new : Shown) (r : Result X E) (after : State → State) (cached : Option ZoneOf) → Turns old new r after → FitsCache old cached → FitsCache new None
fits_turned old new (Ok x) after cached turns fits = record { held = λ clean. ∥∥₁_map (fits.held (turns.honest clean)) (λ it. (after it.0, turns.made clean it.0 it.1, tt)) }
fits_turned old new (Err e) after cached turns fits = record { held = λ clean. ∥∥₁_map (fits.held (turns.honest clean)) (λ it. (it.0, turns.failed it.0 it.1, tt)) }

-- ---- a commit

behind : (o : Labels) (found : Option Held) (c : ChangeOf) (zone : ZoneOf) → zone.origin ≡ o → option_map (zone_held o) found ≡ Some zone → option_map (zone_held o) (option_map (held_with c) found) ≡ Some (with_change zone c)
behind o None c zone own e = absurd cc
behind o (Some held) c zone own e =
    let same : zone_held o held ≡ zone = cc in
    λ i. Some (record { origin = sym own i; records = changed ((same i).records) c.removed c.added })

-- what a change of the zone of an origin makes of a zone
pub in_committed : (a : AdditionOf) (s : State) (cached : Option ZoneOf) → IsZoneIn s cached → IsZoneIn (committed a s) (cached_after a cached)
in_committed a s cached is = go a.change cached is
  where
    same : (c : ChangeOf) (zone : ZoneOf) → IsZoneIn s (Some zone) → same_name zone.origin a.receipt.origin ≡ true
        → zone_at (keep (with_change_of s a.receipt.origin (Some c)) a.caller a.id a.receipt) zone.origin ≡ Some (with_change zone c)
    same c zone is t =
        let named : zone.origin ≡ a.receipt.origin = (same_name-Decides zone.origin a.receipt.origin).0 t in
        let there : option_map (zone_held zone.origin) (s.zones a.receipt.origin) ≡ Some zone = subst (λ n. option_map (zone_held zone.origin) (s.zones n) ≡ Some zone) named is in
        ap (λ b. option_map (zone_held zone.origin) (cond b (option_map (held_with c) (s.zones a.receipt.origin)) (s.zones zone.origin))) t
        ∙ behind zone.origin (s.zones a.receipt.origin) c zone refl there

    other : (c : ChangeOf) (zone : ZoneOf) → IsZoneIn s (Some zone) → same_name zone.origin a.receipt.origin ≡ false
        → zone_at (keep (with_change_of s a.receipt.origin (Some c)) a.caller a.id a.receipt) zone.origin ≡ Some zone
    other c zone is f = ap (λ b. option_map (zone_held zone.origin) (cond b (option_map (held_with c) (s.zones a.receipt.origin)) (s.zones zone.origin))) f ∙ is

    go : (change : Option ChangeOf) (z : Option ZoneOf) → IsZoneIn s z → IsZoneIn (keep (with_change_of s a.receipt.origin change) a.caller a.id a.receipt) (cached_behind a.receipt.origin change z)
    go None None is = tt
    go None (Some zone) is = is
    go (Some c) None is = tt
    go (Some c) (Some zone) is =
        let t = keep (with_change_of s a.receipt.origin (Some c)) a.caller a.id a.receipt in
        by_cases (same_name zone.origin a.receipt.origin) (IsZoneIn t (Some (changed_at a.receipt.origin c zone)))
        (λ e. subst (λ z. IsZoneIn t (Some z)) (sym (ap (λ b. cond b (with_change zone c) zone) e)) (same c zone is e))
        (λ e. subst (λ z. IsZoneIn t (Some z)) (sym (ap (λ b. cond b (with_change zone c) zone) e)) (other c zone is e))

pub fits_committed : {X E : Type 0} (old new : Shown) (x : X) (a : AdditionOf) (before after : Option ZoneOf) → Turns {X = X} {E = E} old new (Ok x) (committed a) → FitsCache old before
    → (after ≡ cached_after a before) ⊎ (after ≡ None) → FitsCache new after
fits_committed old new x a before after turns fits follows =
    let made : FitsCache new (cached_after a before) =
    record { held = λ clean. ∥∥₁_map (fits.held (turns.honest clean)) (λ it. (committed a it.0, turns.made clean it.0 it.1, in_committed a it.0 before it.2)) } in
    fits_kept new (cached_after a before) after made follows

-- ---- what is answered of it

-- the records' rows tell the zone of an origin
at_rows : (a b : RowsOf) (s t : State) → AreOfState (pos 2) a s → AreOfState (pos 2) b t → IsPermutation a.records b.records → (o : Labels) (zone : ZoneOf) → zone_at s o ≡ Some zone → zone_at t o ≡ Some zone
at_rows a b s t is also same o zone e = go (t.zones o) refl
  where
    moved : IsPermutation (records_of (name_text o) b.records) (records_of (name_text o) a.records)
    moved = IsPermutation-filter (λ (r : RecordRowOf). bytes_eq r.origin (name_text o)) b.records a.records (IsPermutation-sym a.records b.records same)

    gone : t.zones o ≡ None → s.zones o ≡ None
    gone none =
        let named = (zone_of_state (pos 2) a s o zone is e).1.named in
        let bare = (zones_stand_at_origins (pos 2) b t o also named).1 none in
        let moved = IsPermutation-filter (λ (r : RecordRowOf). bytes_eq r.origin (name_text o) && bytes_eq r.owner_key (key_of o)) b.records a.records (IsPermutation-sym a.records b.records same) in
        (zones_stand_at_origins (pos 2) a s o is named).0 (none_moved (records_at (name_text o) (key_of o) a.records) (subst (λ l. IsPermutation l (records_at (name_text o) (key_of o) a.records)) bare moved))

    one : (other : ZoneOf) → zone_at t o ≡ Some other → other ≡ zone
    one other f =
        let x = zone_of_state (pos 2) a s o zone is e in
        let y = zone_of_state (pos 2) b t o other also f in
        let rows = records_of (name_text o) a.records in
        let first = zone_stored o x.1.named x.0 x.1.zone rows (rows_moved o x.0 rows x.1.rows) in
        let second = zone_stored o x.1.named y.0 y.1.zone rows (rows_moved o y.0 rows (IsPermutation-trans (map (record_row o) y.0) (records_of (name_text o) b.records) rows y.1.rows moved)) in
        let told : zone_in o y.0 ≡ zone_in o x.0 = cc (sym second ∙ first) in
        y.2 ∙ told ∙ sym x.2

    go : (held : Option Held) → t.zones o ≡ held → zone_at t o ≡ Some zone
    go None none = absurd (let nothing : None ≡ Some zone = sym (ap (option_map (zone_held o)) (gone none)) ∙ e in cc)
    go (Some held) there =
        let at : zone_at t o ≡ Some (zone_held o held) = ap (option_map (zone_held o)) there in
        at ∙ ap (λ (z : ZoneOf). Some z) (one (zone_held o held) at)

-- an open connection holds one zone of an origin
pub one_zone : (conn : Shown) → IsTrue conn.is_open → (s t : State) → HoldsState conn s → HoldsState conn t → (o : Labels) (zone : ZoneOf) → zone_at s o ≡ Some zone → zone_at t o ≡ Some zone
one_zone conn up s t h k o zone e =
    let first = (h.held up).0.tables.records.same in
    let second = (k.held up).0.tables.records.same in
    let shown = map (drop 1) (conn.now.trees 3) in
    let same =
    read_as stored_record one_stored_record h.rows.records k.rows.records
    (IsPermutation-trans (map stored_record h.rows.records) shown (map stored_record k.rows.records) first (IsPermutation-sym (map stored_record k.rows.records) shown second)) in
    at_rows h.rows k.rows s t h.are k.are same o zone e

-- the cached zone is the one of its origin in each state that an open connection holds
pub told_of_cache : (conn : Shown) (cached : Option ZoneOf) (zone : ZoneOf) (o : Labels) → FitsCache conn cached → HasCleanDisk conn → IsTrue conn.is_open → cached ≡ Some zone → zone.origin ≡ o
    → (s : State) → HoldsState conn s → Some zone ≡ zone_at s o
told_of_cache conn cached zone o fits clean up some own s h =
    let held = (subst (FitsCache conn) some fits).held clean in
    ∥∥₁_elim held (Coded-set (coded_option zone_code) _ _) (λ it. subst (λ n. Some zone ≡ zone_at s n) own (sym (one_zone conn up it.0 s it.1 h zone.origin zone it.2)))

-- it is there
is_held : (found : Option Held) (zone : ZoneOf) (o : Labels) → Some zone ≡ option_map (zone_held o) found → true ≡ is_some found
is_held None zone o at = absurd (let none : None ≡ Some zone = sym at in cc)
is_held (Some held) zone o at = refl

-- so a state that is held has the zone of an origin that is cached
pub told_of_cached : (conn : Shown) (cached : Option ZoneOf) (o : Labels) → FitsCache conn cached → HasCleanDisk conn → IsTrue conn.is_open → is_cached_of cached o ≡ true
    → (s : State) → HoldsState conn s → true ≡ is_some (s.zones o)
told_of_cached conn None o fits clean up t s h = absurd (let no : false ≡ true = t in cc)
told_of_cached conn (Some zone) o fits clean up t s h =
    is_held (s.zones o) zone o (told_of_cache conn (Some zone) zone o fits clean up refl ((same_name-Decides zone.origin o).0 t) s h)

-- the records of a zone of a state are exported
pub exported_is : (o : Labels) (found : Option Held) (zone : ZoneOf) → Some zone ≡ option_map (zone_held o) found → exported found ≡ Ok (listing zone.records)
exported_is o None zone is = absurd (let none : None ≡ Some zone = sym is in cc)
exported_is o (Some held) zone is = let same : zone ≡ zone_held o held = cc in ap (λ (z : ZoneOf). Ok (listing z.records)) (sym same)

-- and those of its records within a name that grants include are those of the zone
pub told_of_subtree : (conn : Shown) (cached : Option ZoneOf) (o top : Labels) (g : GrantsOf) (rs : List Record) → FitsCache conn cached → HasCleanDisk conn → IsTrue conn.is_open → AreIncludedOf cached o top g rs
    → (s : State) → HoldsState conn s → Some rs ≡ option_map (included g) (subtree_at s o top)
told_of_subtree conn cached o top g rs fits clean up is s h =
    ap (λ (l : List Record). Some l) is.records
    ∙ ap (λ (found : Option ZoneOf). option_map (included g) (option_map (λ (zone : ZoneOf). listing (part zone.records (within top))) found)) (told_of_cache conn cached is.zone o fits clean up is.is_cached is.own s h)

-- all of them are exported
pub told_of_all : (conn : Shown) (cached : Option ZoneOf) (o : Labels) (rs : List Record) → FitsCache conn cached → HasCleanDisk conn → IsTrue conn.is_open → AreAllRecordsOf cached o rs
    → (s : State) → HoldsState conn s → exported (s.zones o) ≡ Ok rs
told_of_all conn cached o rs fits clean up is s h =
    exported_is o (s.zones o) is.zone (told_of_cache conn cached is.zone o fits clean up is.is_cached is.own s h) ∙ ap (λ (l : List Record). Ok l) (sym is.records)

-- and its part at some names is that of the zone
pub told_of_part : (conn : Shown) (cached : Option ZoneOf) (o : Labels) (names : List Labels) (whole : ZoneOf) → FitsCache conn cached → HasCleanDisk conn → IsTrue conn.is_open → IsPartOf cached o names whole
    → (s : State) → HoldsState conn s → Some whole ≡ part_at s o names
told_of_part conn cached o names whole fits clean up is s h =
    let there = told_of_cache conn cached is.zone o fits clean up is.is_cached is.own s h in
    ap (λ (z : ZoneOf). Some z) (is.part (zone_there (s.zones o) refl there))
    ∙ ap (option_map (λ (zone : ZoneOf). part_of zone (at_names o names))) there
  where
    zone_there : (found : Option Held) → s.zones o ≡ found → Some is.zone ≡ option_map (zone_held o) found → IsZone is.zone
    zone_there None at there = absurd (let none : None ≡ Some is.zone = sym there in cc)
    zone_there (Some held) at there =
        let same : is.zone ≡ zone_held o held = cc in
        subst IsZone (sym same) ((states_are_sound (pos 2) h.rows s h.are).0 o held at)

-- what was found is cached, or nothing is
pub fits_found : (old new : Shown) (before found after : Option ZoneOf) (o : Labels) → FitsCache old before → Asked old new → IfSome found (λ zone. zone.origin ≡ o)
    → (HasCleanDisk new → (s : State) → HoldsState old s → found ≡ zone_at s o) → IfSome after (λ zone. found ≡ Some zone) → FitsCache new after
fits_found old new before found None o fits asked own tells is = fits_asked_none old new before asked fits
fits_found old new before found (Some zone) o fits asked own tells is =
    let named : zone.origin ≡ o = subst (λ f. IfSome f (λ z. z.origin ≡ o)) is own in
    record { held = λ clean. ∥∥₁_map (fits.held (asked.honest clean)) (λ it. (it.0, asked.same it.0 it.1, subst (λ n. zone_at it.0 n ≡ Some zone) (sym named) (sym (tells clean it.0 it.1) ∙ is))) }
