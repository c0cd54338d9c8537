-- What is read of the history of a zone of a store, and what is made of it.
use Rattle.std.proofs.Common.{◌≡◌, inl, inr, ℕ, ◌≤◌, Bool, true, cond, nat_le, List, length, drop, Option, Some, None, option_map, Result, Ok, Err, refl, sym, ap, subst, ◌∙◌, arith}
use Rattle.std.specs.Result.{result_map_both}
use Rattle.sqlite.specs.State.{State as Shown}
use Rattle.dns_data.specs.declared.record.Record.{Record}
use Rattle.zone_core.specs.Sets.{Records, listing, AreRows}
use Rattle.zone_core.specs.Changes.{ChangeOf}
use Rattle.zone_core.specs.Zones.{ZoneOf}
use Rattle.zone_core.proofs.RowLemmas.{listing_of}
use Rattle.office_model.specs.States.{Held, State, zone_held, zone_at, changes_at}
use Rattle.store_faults.specs.declared.store_fault.StoreFault.{StoreFault}
use Rattle.cli_core.specs.declared.refusal.Refusal.{Refusal}
use Rattle.cli_core.specs.declared.line_fault.LineFault.{LineFault}
use Rattle.cli_core.specs.declared.line_fault.LineFault.TheVariants.{Refused, ReadFailed, NoMemory}
use Rattle.cli_core.specs.LineFaults.{◌>>=◌, of_store}
use Rattle.cli_core.specs.declared.line_fault.JobFault.{JobFault}
use Rattle.cli_store.specs.Reports.{IsShown}
use Rattle.cli_store.specs.Stores.{IsGot}
use Rattle.cli_store.specs.ZoneHistory.{later, IsHistoryRead, IsOfHistory, IsToldOf}

-- ---- what is held

-- a zone and its changes are those that are held of an origin
both_held : (origin : List (List ℕ)) (o : Option Held) (zone : ZoneOf) (changes : List ChangeOf) → Some zone ≡ option_map (zone_held origin) o → Some changes ≡ option_map (λ held. held.changes) o
    → o ≡ Some (record { records = zone.records; changes = changes })
both_held origin None zone changes there listed = absurd (cc there)
both_held origin (Some held) zone changes there listed =
    let z : zone ≡ zone_held origin held = cc there in
    let c : changes ≡ held.changes = cc listed in
    ap (λ (h : Held). Some h) (λ i. record { records = (sym z i).records; changes = sym c i })

pub history_held : (s : State) (origin : List (List ℕ)) (zone : ZoneOf) (changes : List ChangeOf) → Some zone ≡ zone_at s origin → Some changes ≡ changes_at s origin
    → s.zones origin ≡ Some (record { records = zone.records; changes = changes })
history_held s origin zone changes there listed = both_held origin (s.zones origin) zone changes there listed

none_held : (origin : List (List ℕ)) (o : Option Held) → None ≡ option_map (zone_held origin) o → o ≡ None
none_held origin None same = refl
none_held origin (Some held) same = absurd (cc same)

pub no_zone_held : (s : State) (origin : List (List ℕ)) → None ≡ zone_at s origin → s.zones origin ≡ None
no_zone_held s origin same = none_held origin (s.zones origin) same

none_listed : (o : Option Held) → None ≡ option_map (λ held. held.changes) o → o ≡ None
none_listed None same = refl
none_listed (Some held) same = absurd (cc same)

pub no_changes_held : (s : State) (origin : List (List ℕ)) → None ≡ changes_at s origin → s.zones origin ≡ None
no_changes_held s origin same = none_listed (s.zones origin) same

-- rows are the listing of their set
pub rows_are : (rs : List Record) (whole : Records) → AreRows rs whole → rs ≡ listing whole
rows_are rs whole rows = sym (listing_of rs rows.order) ∙ ap listing rows.set

-- there are so many changes
pub picked : (n : ℕ) (cs : List ChangeOf) → n ≤ length cs → later n cs ≡ Some (drop n cs)
picked n cs few = ap (λ (b : Bool). cond b (Some (drop n cs)) None) (test n (length cs) few)
  where
    test : (a b : ℕ) → a ≤ b → nat_le a b ≡ true
    test a b h = grind (arith, h)

-- ---- what is made of it

-- the same in another form
pub of_history_seen : {Y Z : Type 0} (form : Y → Z) (answer : Held → Result Y Refusal) (read : Result Held StoreFault) (made : Result Y LineFault)
    → IsOfHistory answer read made → IsOfHistory (λ held. answer held >>= λ y. Ok (form y)) read (result_map_both form (λ fault. fault) made)
of_history_seen {Y} {Z} form answer (Ok held) (Ok y) is = subst (λ (r : Result Y Refusal). (r >>= λ y. Ok (form y)) ≡ Ok (form y)) (sym is) refl
of_history_seen {Y} {Z} form answer (Ok held) (Err (Refused refusal)) is = subst (λ (r : Result Y Refusal). (r >>= λ y. Ok (form y)) ≡ Err refusal) (sym is) refl
of_history_seen form answer (Ok held) (Err NoMemory) is = tt
of_history_seen form answer (Ok held) (Err ReadFailed) is = absurd is
of_history_seen form answer (Err refusal) (Ok y) is = absurd (cc is)
of_history_seen {Y} {Z} form answer (Err refusal) (Err fault) is = let same : fault ≡ of_store refusal = cc is in ap (λ (f : LineFault). Err f) same

-- what is shown of what was made, seen by a view first
pub seen_twice : {X Y : Type 0} (text : Y → List ℕ) (view : X → Y) (old new : Option (List ℕ)) (writes writes_after : ℕ) (made : Result X LineFault) (result : Result (Unit {0}) JobFault)
    → IsShown (result_map_both (λ x. text (view x)) (λ fault. fault) made) old new result writes writes_after
    → IsShown (result_map_both text (λ fault. fault) (result_map_both view (λ fault. fault) made)) old new result writes writes_after
seen_twice text view old new writes writes_after (Ok x) result shown = shown
seen_twice text view old new writes writes_after (Err fault) result shown = shown

module _ {C A : Type 0} (shows : C → Shown) (words : Result A Refusal) (origin : A → List (List ℕ)) (answer : A → Held → Result (List ℕ) Refusal) (finds : Bool → Type 0) (refuses : StoreFault → Type 0) (connects : C → Type 0) (asked : A) (conn : Option C) where
  refused_as : (refusal : StoreFault) (made : Result (List ℕ) LineFault) → words ≡ Ok asked → IsGot shows finds refuses connects (IsHistoryRead (origin asked)) conn (Err refusal) → made ≡ Err (of_store refusal)
      → IsToldOf shows words origin answer finds refuses connects conn made
  refused_as refusal (Ok text) are got same = absurd (cc same)
  refused_as refusal (Err fault) are got same = inr (asked, are, inr (refusal, cc same, got))

  pub told_made : (read : Result Held StoreFault) (made : Result (List ℕ) LineFault) → words ≡ Ok asked → IsGot shows finds refuses connects (IsHistoryRead (origin asked)) conn read → IsOfHistory (answer asked) read made
      → IsToldOf shows words origin answer finds refuses connects conn made
  told_made (Ok held) (Ok text) are got same = (asked, are, (held, got, same))
  told_made (Ok held) (Err fault) are got given = inr (asked, are, inl (held, got, given))
  told_made (Err refusal) made are got same = refused_as refusal made are got same
