-- What histories of calls, imports, replacements and removals keep.
use Rattle.std.proofs.Common.{◌≡◌, ◌∙◌, ℕ, Bool, cond, List, [], ◌∷◌, ◌++◌, Option, Some, None, Result, Ok, Err, refl, sym, ap}
use Rattle.zone_core.specs.Zones.{ZoneOf}
use Rattle.zone_core.proofs.SetLemmas.{name_self}
use Rattle.grant_policy.specs.declared.rule.Rule.{Rule}
use Rattle.office_model.specs.declared.receipt.Receipt.{Receipt}
use Rattle.office_model.specs.declared.request.Call.{Call}
use Rattle.office_model.specs.declared.request.Request.{Request}
use Rattle.office_model.specs.declared.request.Request.TheVariants as requests
use Rattle.office_model.specs.States.{Held, State}
use Rattle.office_core.specs.Machine.{step, updated}
use Rattle.office_core.specs.Runs.{turn}
use Rattle.office_core.specs.Histories.{RuledCall, IsUnder, IsUpdateUnder, ruled, state_after_all}
use Rattle.office_core.proofs.HistoryLemmas.{receipts_are_kept}
use Rattle.store_faults.specs.declared.store_fault.StoreFault.{StoreFault}
use Rattle.store_rows.specs.Removals.{without_zone}
use Rattle.store_rows.proofs.GoneZoneLemmas.{zones_go}
use Rattle.office_store.specs.Zones.{if_free, with_imported, with_replaced, with_place_taken}
use Rattle.cli_core.specs.declared.job.Existing.{Existing}
use Rattle.cli_core.specs.declared.job.Existing.TheVariants.{Kept, Replaced}
use Rattle.cli_store.specs.Puts.{put_into, with_put}
use Rattle.cli_store.specs.Starts.{Deed, called, put, took, state_after_deed, state_after_deeds, called_by, DeedsKeepReceipts, DeedsAreMadeOnce, ZonesBeginAnew}

-- ---- a zone that is put into a store leaves the receipts

imported_keeps : (s : State) (r : Result ZoneOf StoreFault) → (with_imported s r).receipts ≡ s.receipts
imported_keeps s (Ok zone) = refl
imported_keeps s (Err fault) = refl

place_keeps : (s : State) (zone : ZoneOf) (o : Option Held) → (with_place_taken s zone o).receipts ≡ s.receipts
place_keeps s zone None = refl
place_keeps s zone (Some held) = refl

replaced_keeps : (s : State) (r : Result ZoneOf StoreFault) → (with_replaced s r).receipts ≡ s.receipts
replaced_keeps s (Ok zone) = place_keeps s zone (s.zones zone.origin)
replaced_keeps s (Err fault) = refl

put_keeps : (existing : Existing) (s : State) (zone : ZoneOf) → (with_put existing s zone).receipts ≡ s.receipts
put_keeps Kept s zone = imported_keeps s (put_into Kept s zone)
put_keeps Replaced s zone = replaced_keeps s (put_into Replaced s zone)

-- ---- one deed, and many

deed_keeps : (s : State) (deed : Deed) (caller id : List ℕ) (kept : Receipt) → s.receipts caller id ≡ Some kept → (state_after_deed s deed).receipts caller id ≡ Some kept
deed_keeps s (called c) caller id kept there = receipts_are_kept.kept s caller id kept (c ∷ []) there
deed_keeps s (put existing zone) caller id kept there = ap (λ (r : List ℕ → List ℕ → Option Receipt). r caller id) (put_keeps existing s zone) ∙ there
deed_keeps s (took origin) caller id kept there = there

deeds_keep : (s : State) (caller id : List ℕ) (kept : Receipt) (later : List Deed) → s.receipts caller id ≡ Some kept → (state_after_deeds s later).receipts caller id ≡ Some kept
deeds_keep s caller id kept [] there = there
deeds_keep s caller id kept (deed ∷ later) there = deeds_keep (state_after_deed s deed) caller id kept later (deed_keeps s deed caller id kept there)

call_has : (s : State) (caller id : List ℕ) (c : RuledCall) → IsUpdateUnder caller id c → (kept : Receipt) × ((state_after_deed s (called c)).receipts caller id ≡ Some kept)
call_has s caller id c is = receipts_are_kept.given s caller id c [] is

pub deeds_keep_receipts : DeedsKeepReceipts
deeds_keep_receipts = record {
  given = λ s caller id c later is. let now = call_has s caller id c is in (now.0, deeds_keep (state_after_deed s (called c)) caller id now.0 later now.1);
  kept = deeds_keep;
}

-- ---- an update that is made once

again_changes_nothing : (rules : List Rule) (s : State) (caller id : List ℕ) (kept : Receipt) (request : Request) → IsUnder id request → s.receipts caller id ≡ Some kept
    → (step rules s caller request).after ≡ s
again_changes_nothing rules s caller id kept (requests.Update origin own update) under there =
    ap (λ (o : Option Receipt). (updated rules s caller own origin update o).after) (ap (λ (x : List ℕ). s.receipts caller x) under ∙ there)
again_changes_nothing rules s caller id kept (requests.Read query) under there = absurd under

pub after_more : (s : State) (xs ys : List Deed) → state_after_deeds s (xs ++ ys) ≡ state_after_deeds (state_after_deeds s xs) ys
after_more s [] ys = refl
after_more s (x ∷ xs) ys = after_more (state_after_deed s x) xs ys

once : (s : State) (caller id : List ℕ) (between : List Deed) (first again : RuledCall) → IsUpdateUnder caller id first → IsUpdateUnder caller id again
    → state_after_deeds s (called first ∷ (between ++ called again ∷ [])) ≡ state_after_deeds s (called first ∷ between)
once s caller id between first again is next =
    let now = call_has s caller id first is in
    let begun = state_after_deed s (called first) in
    let here = state_after_deeds begun between in
    let there = deeds_keep begun caller id now.0 between now.1 in
    after_more begun between (called again ∷ [])
    ∙ again_changes_nothing again.rules here again.call.caller id now.0 again.call.request next.under (ap (λ (x : List ℕ). here.receipts x id) next.by ∙ there)

pub deeds_are_made_once : DeedsAreMadeOnce
deeds_are_made_once s caller id before between first again is next =
    after_more s before (called first ∷ (between ++ called again ∷ []))
    ∙ once (state_after_deeds s before) caller id between first again is next
    ∙ sym (after_more s before (called first ∷ between))

-- ---- a zone that comes after one of its origin was taken out

pub zones_begin_anew : ZonesBeginAnew
zones_begin_anew s zone =
    let rest = without_zone s zone.origin in
    let held : Option Held = Some (record { records = zone.records; changes = [] }) in
    ap (λ (o : Option Held). (with_imported rest (if_free o zone)).zones zone.origin) (zones_go.found s zone.origin).gone
    ∙ ap (λ (same : Bool). cond same held (rest.zones zone.origin)) (name_self zone.origin)

-- ---- calls by one policy

pub called_are : (s : State) (rules : List Rule) (cs : List Call) → state_after_deeds s (called_by rules cs) ≡ state_after_all s (ruled rules cs)
called_are s rules [] = refl
called_are s rules (c ∷ cs) = called_are (turn rules s c).after rules cs

pub called_more : (rules : List Rule) (xs ys : List Call) → called_by rules (xs ++ ys) ≡ called_by rules xs ++ called_by rules ys
called_more rules [] ys = refl
called_more rules (x ∷ xs) ys = ap (λ (l : List Deed). called (record { rules = rules; call = x }) ∷ l) (called_more rules xs ys)
