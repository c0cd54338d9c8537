-- Which states batches lead to.
use Rattle.std.proofs.Common.{◌≡◌, ℕ, suc, ℤ, pos, false, cond, ◌&&◌, ◌==◌, List, [], ◌∷◌, ◌++◌, length, option_map, Option, Some, None, Result, Ok, Err, IfOk, bytes_eq, refl, sym, ap, subst, ◌∙◌, arith}
use Rattle.std.specs.FinMap.{len, entries, len-entries}
use Rattle.std.proofs.lemmas.List.{length-map}
use Rattle.std.proofs.lemmas.List.Sorted.{IsPermutation-refl}
use Rattle.dns_names.specs.Labels.{IsName}
use Rattle.dns_data.specs.declared.record.Record.{Record}
use Rattle.zone_core.specs.Sets.{Records, Key, listing, minus, is_same, AreRows}
use Rattle.zone_core.specs.Zones.{ZoneOf, IsZone, AreKept}
use Rattle.zone_core.proofs.RowLemmas.{len_of}
use Rattle.zone_core.proofs.ChangedLemmas.{changes_make}
use Rattle.zone_core.specs.Changes.{ChangeOf, change_between, is_empty}
use Rattle.office_model.specs.States.{Held, State, hold, keep}
use Rattle.office_model.specs.Tables.{AdditionOf, held_with, with_change_of, committed, FitsHeld, FitsChange, Fits}
use Rattle.store_sql.specs.Rows.{BatchOf}
use Rattle.store_rows.specs.Contents.{row_of_receipt, IsReceiptAt}
use Rattle.store_rows.specs.Batches.{Leads, IsNext, receipt_at, receipts_batch, change_batch, zone_batch, with_zone, with_zone_replaced, NewTablesHoldNothing}
use Rattle.store_rows.proofs.WrittenStateLemmas.{leads, zones_stay, receipts_stay, receipt_more, zones_same}
use Rattle.store_rows.proofs.ChangedZoneLemmas.{zones_changed}
use Rattle.store_rows.proofs.NewZoneLemmas.{zone_added}

abbrev Labels : Type 0
Labels = List (List ℕ)

-- what follows of a value that is told for a number
pub if_number : {W E : Type 0} (r : Result W E) (P : ℕ → Type 0) (Q : ℕ → W → Type 0) (R : W → Type 0) → ((n : ℕ) → P n → IfOk r (Q n)) → ((w : W) → ((n : ℕ) → P n → Q n w) → R w) → IfOk r R
if_number (Ok w) P Q R told follows = follows w told
if_number (Err e) P Q R told follows = tt

-- what is told of a value is told of what it is the same as
pub if_ok_same : {W E : Type 0} (r : Result W E) (a b : W) → a ≡ b → IfOk r (λ w. w ≡ a) → IfOk r (λ w. w ≡ b)
if_ok_same (Ok w) a b e is = is ∙ e
if_ok_same (Err f) a b e is = tt

-- ---- additions

-- a change of zones leaves receipts as they were
same_receipts : (s : State) (o : Labels) (change : Option ChangeOf) → (with_change_of s o change).receipts ≡ s.receipts
same_receipts s o None = refl
same_receipts s o (Some c) = refl

kept_receipts : (a : AdditionOf) (s : State) → (committed a s).receipts ≡ (keep s a.caller a.id a.receipt).receipts
kept_receipts a s = ap (λ f. λ caller id. cond (bytes_eq caller a.caller && bytes_eq id a.id) (Some a.receipt) (f caller id)) (same_receipts s a.receipt.origin a.change)

-- a receipt alone
pub receipt_leads : (a : AdditionOf) (w : BatchOf) → a.change ≡ None → IsReceiptAt (receipt_at a) → w ≡ receipts_batch (row_of_receipt (receipt_at a) ∷ [])
    → (s : State) → Fits s a → Leads w s (committed a s)
receipt_leads a w none is e s fits =
    let row = row_of_receipt (receipt_at a) in
    subst (λ v. Leads v s (committed a s)) (sym e)
    (leads (receipts_batch (row ∷ [])) s (committed a s) refl
    (zones_stay (row ∷ []) s (committed a s) (ap (λ q. (with_change_of s a.receipt.origin q).zones) none))
    (receipt_more (receipts_batch (row ∷ [])) s (committed a s) (receipt_at a) refl (kept_receipts a s) is fits.fresh))

-- a receipt and a change
pub change_leads : (a : AdditionOf) (c : ChangeOf) (number : ℤ) (w : BatchOf) → a.change ≡ Some c → IsReceiptAt (receipt_at a)
    → ((n : ℕ) → number ≡ pos n → w ≡ change_batch a.receipt.origin n c (row_of_receipt (receipt_at a) ∷ []))
    → (s : State) → Fits s a → IsNext s a.receipt.origin number → Leads w s (committed a s)
change_leads a c number w some is e s fits next =
    let o = a.receipt.origin in
    let row = row_of_receipt (receipt_at a) in
    let fit : FitsChange s o (Some c) = subst (FitsChange s o) some fits.change in
    let n = suc (length fit.0.changes) in
    let q = option_map (held_with c) (s.zones o) in
    subst (λ v. Leads v s (committed a s)) (sym (e n (next fit.0 fit.1)))
    (leads (change_batch o n c (row ∷ [])) s (committed a s) refl
    (λ zs are. zones_same (change_batch o n c (row ∷ [])) zs (hold s o q) (committed a s) (ap (λ x. (with_change_of s o x).zones) some) (zones_changed s o fit.0 c (row ∷ []) q fit.1 fit.2 (ap (option_map (held_with c)) fit.1) zs are))
    (receipt_more (change_batch o n c (row ∷ [])) s (committed a s) (receipt_at a) refl (kept_receipts a s) is fits.fresh))

-- ---- a new zone

pub zone_leads : (zone : ZoneOf) (w : BatchOf) → IsName zone.origin → IsZone zone → w ≡ zone_batch zone → (s : State) → s.zones zone.origin ≡ None → Leads w s (with_zone s zone)
zone_leads zone w name is e s new =
    subst (λ v. Leads v s (with_zone s zone)) (sym e)
    (leads (zone_batch zone) s (with_zone s zone) refl (zone_added s zone name is new) (receipts_stay (zone_batch zone) s (with_zone s zone) refl refl))

-- ---- a zone in the place of another

listed_len : (set : Records) → length (listing set) ≡ len set
listed_len set = length-map (entries set) (λ (e : Key × Record). e.1) ∙ sym (len-entries set)

-- whether a set has records is seen by its rows
pub bare_rows : (set : Records) (rows : List Record) → AreRows rows set → (len set == 0) ≡ (length rows == 0)
bare_rows set rows are = ap (λ n. n == 0) (ap (λ (x : Records). len x) (sym are.set) ∙ len_of rows are.order)

pub some_differ : (a b : Records) → is_same a b ≡ false → is_empty (change_between a b) ≡ false
some_differ a b differs = (λ i. (listed_len (minus a b) i == 0) && (listed_len (minus b a) i == 0)) ∙ differs

module _ (s : State) (old new : ZoneOf) (held : Held) (was : IsZone old) (is : IsZone new) (differs : is_same old.records new.records ≡ false) (here : s.zones new.origin ≡ Some held) (same : held.records ≡ old.records) where
  change_fits : FitsHeld new.origin held (change_between held.records new.records)
  change_fits =
      let made = changes_make held.records new.records (subst (λ (x : Records). AreKept x) (sym same) was.kept) is.kept in
      record {
        something = some_differ held.records new.records (ap (λ (x : Records). is_same x new.records) same ∙ differs);
        records = made.0;
        zone = subst (λ (x : Records). IsZone (record { origin = new.origin; records = x })) (sym made.1) is;
      }

  replaced : Leads (change_batch new.origin (suc (length held.changes)) (change_between held.records new.records) []) s (with_zone_replaced s new held)
  replaced =
      let made = changes_make held.records new.records (subst (λ (x : Records). AreKept x) (sym same) was.kept) is.kept in
      let w = change_batch new.origin (suc (length held.changes)) (change_between held.records new.records) [] in
      leads w s (with_zone_replaced s new held) refl
      (zones_changed s new.origin held (change_between held.records new.records) [] (Some (record { records = new.records; changes = held.changes ++ change_between held.records new.records ∷ [] })) here change_fits
      (λ i. Some (record { records = sym made.1 i; changes = held.changes ++ change_between held.records new.records ∷ [] })))
      (receipts_stay w s (with_zone_replaced s new held) refl refl)

pub replacement_leads : (old new : ZoneOf) (change : ChangeOf) (number : ℤ) (w : BatchOf) → IsZone old → IsZone new → is_same old.records new.records ≡ false
    → change ≡ change_between old.records new.records
    → ((n : ℕ) → number ≡ pos n → w ≡ change_batch new.origin n change [])
    → (s : State) (held : Held) → s.zones new.origin ≡ Some held → held.records ≡ old.records → IsNext s new.origin number → Leads w s (with_zone_replaced s new held)
replacement_leads old new change number w was is differs between e s held here same next =
    let n = suc (length held.changes) in
    let made : change ≡ change_between held.records new.records = between ∙ ap (λ (x : Records). change_between x new.records) (sym same) in
    subst (λ v. Leads v s (with_zone_replaced s new held)) (sym (e n (next held here) ∙ ap (λ (x : ChangeOf). change_batch new.origin n x []) made))
    (replaced s old new held was is differs here same)

-- ---- new tables

pub new_tables : NewTablesHoldNothing
new_tables version = record {
  content = record { zones = []; receipts = [] };
  is_content = record { zones_apart = λ i j d h k. absurd (omega arith); zones = tt; receipts_apart = λ i j d h k. absurd (omega arith); receipts = tt };
  means = record { zones = λ origin. refl; receipts = λ caller id. refl };
  same = record {
    versions = IsPermutation-refl (version ∷ []);
    zones = IsPermutation-refl [];
    records = IsPermutation-refl [];
    receipts = IsPermutation-refl [];
    changes = IsPermutation-refl [];
  };
}
