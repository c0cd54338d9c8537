-- Questions, one after the other.
use Rattle.std.proofs.Common.{◌≡◌, ℕ, List, Bool, true, false, Option, Some, None, is_some, pos, Ok, Err, Result, IfOk, IsTrue, refl, sym, ap, subst, ◌∙◌, inl, bytes_eq}
use Rattle.std.specs.List.{list_any}
use Rattle.std.specs.Result.{IsErr}
use Rattle.sqlite_trees.specs.Tree.{Trees}
use Rattle.sqlite.specs.Effect.{Database}
use Rattle.sqlite.specs.State.{State as Shown, HasCleanDisk, IsUnchanged, Shows}
use Rattle.dns_names.specs.Keys.{key_of}
use Rattle.dns_names.specs.Labels.{IsName}
use Rattle.dns_names.specs.Spelling.{name_text}
use Rattle.office_model.specs.States.{Held, State}
use Rattle.store_sql.specs.Rows.{RowsOf}
use Rattle.store_sql.specs.Lookups.{records_at}
use Rattle.store_rows.specs.Contents.{AreOfState}
use Rattle.store_sql.specs.Holds.{AreRows, Holds, Keeps, Leaves, OnlyAsks, Reads}
use Rattle.store_sql.proofs.Commits.{held_before}
use Rattle.store_rows.proofs.StateLaws.{zones_are_listed}
use Rattle.store_rows.proofs.OriginLaws.{zones_stand_at_origins}
use Rattle.office_store.specs.Holds.{HoldsState, LeavesStates}
use Rattle.office_store.specs.Queries.{Asked, AsksOnly, Only, Finds, Stands}

pub asked_of : (old new : Shown) → ((rows : RowsOf) → Holds old rows → Holds new rows) → Leaves new old.may_leave → (HasCleanDisk new → HasCleanDisk old) → Asked old new
asked_of old new keeps left honest = record {
  rows = keeps;
  same = λ s h. record { rows = h.rows; are = h.are; held = keeps h.rows h.held };
  left = left;
  crash = λ s t leaves clean db may. leaves (honest clean) db (left clean db may);
  honest = honest;
}

pub asked_nothing : (conn : Shown) → Asked conn conn
asked_nothing conn = asked_of conn conn (λ rows h. h) (λ clean db may. may) (λ clean. clean)

pub asked_once : (old new : Shown) → OnlyAsks old new → Asked old new
asked_once old new asks = asked_of old new asks.same asks.left asks.honest

pub asked_then : (old mid new : Shown) → Asked old mid → Asked mid new → Asked old new
asked_then old mid new first next =
    asked_of old new (λ rows h. next.rows rows (first.rows rows h)) (λ clean db may. first.left (next.honest clean) db (next.left clean db may)) (λ clean. first.honest (next.honest clean))

pub asked_more : (old mid new : Shown) → Asked old mid → OnlyAsks mid new → Asked old new
asked_more old mid new first asks = asked_then old mid new first (asked_once mid new asks)

pub only_of : (old new : Shown) → IsTrue new.is_open → ((rows : RowsOf) → Holds new rows → Holds old rows) → Only old new
only_of old new up back = record { rows = back; same = λ s h. record { rows = h.rows; are = h.are; held = back h.rows h.held }; up = up }

-- one question was answered
pub only_shown : (old new : Shown) → OnlyAsks old new → Shows old new old.now old.now false → Only old new
only_shown old new asks shows = only_of old new shows.is_open (λ rows h. held_before old new rows asks shows h)

pub only_then : (old mid new : Shown) → Only old mid → Only mid new → Only old new
only_then old mid new first next = only_of old new next.up (λ rows h. first.rows rows (next.rows rows h))

-- what shows as it was showed the same before
pub unchanged_only : (old new : Shown) → IsUnchanged old new → Only old new
unchanged_only old new same =
    only_of old new same.0.is_open (λ rows h up.
    let now = h same.0.is_open in
    (subst (λ db. Reads db rows) same.0.now_is now.0, sym same.0.committed_is ∙ now.1 ∙ same.0.now_is))

-- what is refused has asked
pub asks_refused : {X E : Type 0} (old new : Shown) (r : Result X E) → IsErr r → Asked old new → AsksOnly old new r
asks_refused old new (Ok x) is asked = absurd cc
asks_refused old new (Err e) is asked = (asked, λ clean. tt)

-- nothing was asked before the refusal
pub refused_early : {X E : Type 0} (conn : Shown) (r : Result X E) → IsErr r → AsksOnly conn conn r
refused_early conn r is = asks_refused conn conn r is (asked_nothing conn)

-- one question was
pub refused_once : {X E : Type 0} (old new : Shown) (r : Result X E) → IsErr r → OnlyAsks old new → AsksOnly old new r
refused_once old new r is asks = asks_refused old new r is (asked_once old new asks)

-- one question was answered
pub answered_once : (old new : Shown) → OnlyAsks old new → (HasCleanDisk new → Shows old new old.now old.now false) → Asked old new × (HasCleanDisk new → Only old new)
answered_once old new asks shows = (asked_once old new asks, λ clean. only_shown old new asks (shows clean))

-- a connection that is open, and shows what was committed, leaves the state that it shows
pub settled_of : (new : Shown) (s : State) → IsTrue new.is_open → ((db : Trees) → IsTrue new.is_open → new.may_leave db → db ≡ new.committed.trees) → HoldsState new s → LeavesStates new s s
settled_of new s up last h clean db may =
    let now = h.held up in
    let is : db ≡ new.now.trees = last db up may ∙ ap (λ (d : Database). d.trees) now.1 in
    inl (h.rows, h.are, subst (λ t. AreRows t h.rows) (sym is) now.0.tables)

-- what one question leaves is what was shown, whatever the tables are
pub keeps_once : (old new : Shown) → OnlyAsks old new → Keeps old new
keeps_once old new asks up = let k = asks.now up in (k.0, k.2, λ settled. k.1 ∙ settled)

-- ---- whether there is a zone

told : (there_is : Bool) (o : Option Held) → (there_is ≡ true → (held : Held) × (o ≡ Some held)) → ((held : Held) × (o ≡ Some held) → there_is ≡ true) → there_is ≡ is_some o
told true None there back = absurd (let none = (there refl).1 in cc)
told true (Some held) there back = refl
told false None there back = refl
told false (Some held) there back = absurd (let e = back (held, refl) in cc)

pub zone_told : (conn : Shown) (there_is : Bool) (text : List ℕ) (origin : List (List ℕ)) → IsName origin → text ≡ name_text origin
    → ((rows : RowsOf) → Holds conn rows → there_is ≡ list_any (bytes_eq text) rows.zones) → (s : State) → HoldsState conn s → there_is ≡ is_some (s.zones origin)
zone_told conn there_is text origin name is answer s h =
    let listed = zones_are_listed (pos 2) h.rows s origin h.are name in
    let same : there_is ≡ list_any (bytes_eq (name_text origin)) h.rows.zones = answer h.rows h.held ∙ ap (λ t. list_any (bytes_eq t) h.rows.zones) is in
    told there_is (s.zones origin) (λ e. listed.0 (sym same ∙ e)) (λ held. same ∙ listed.1 held)

-- ---- what is found of a zone

pub none_held : (o : Option Held) → false ≡ is_some o → o ≡ None
none_held None e = refl
none_held (Some held) e = absurd cc

pub some_held : (o : Option Held) → true ≡ is_some o → (held : Held) × (o ≡ Some held)
some_held None e = absurd cc
some_held (Some held) e = (held, refl)

-- what one question tells of the rows, where another told that the zone is there
pub found : (Q : RowsOf → Type 0) (old mid : Shown) (origin : List (List ℕ)) → Asked old mid → ((s : State) → HoldsState old s → true ≡ is_some (s.zones origin))
    → ((rows : RowsOf) → Holds mid rows → Q rows) → (s : State) → HoldsState old s → (all : RowsOf) × AreOfState (pos 2) all s × (held : Held) × (s.zones origin ≡ Some held) × Q all
found Q old mid origin asked there answer s h =
    let now = asked.same s h in
    let held = some_held (s.zones origin) (there s h) in
    (now.rows, now.are, held.0, held.1, answer now.rows now.held)

-- what stands at an origin tells whether there is the zone
pub stands : {X : Type 0} (Q : RowsOf → X → Type 0) (conn : Shown) (origin : List (List ℕ)) (found : Option X) → IsName origin
    → ((all : RowsOf) → Holds conn all → Stands (records_at (name_text origin) (key_of origin) all.records) (Q all) found) → (s : State) → HoldsState conn s → Finds Q s origin found
stands Q conn origin None name tells s h = (zones_stand_at_origins (pos 2) h.rows s origin h.are name).0 (tells h.rows h.held)
stands Q conn origin (Some x) name tells s h = go (s.zones origin) refl
  where
    go : (held : Option Held) → s.zones origin ≡ held → Finds Q s origin (Some x)
    go None none = absurd ((tells h.rows h.held).0 ((zones_stand_at_origins (pos 2) h.rows s origin h.are name).1 none))
    go (Some held) is = (h.rows, h.are, held, is, (tells h.rows h.held).1)

-- what a value says, if there is one
pub on_found : {X E : Type 0} (r : Result X E) (A B : X → Type 0) → ((x : X) → A x → B x) → IfOk r A → IfOk r B
on_found (Ok x) A B f h = f x h
on_found (Err e) A B f h = tt
