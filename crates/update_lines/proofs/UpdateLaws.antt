-- Updates: what is read is in the grammar, and what is in the grammar is read.
use Rattle.std.proofs.Common.{◌≡◌, ℕ, ltb, List, [], ◌∷◌, length, map, Option, Some, None, Result, Ok, Err, refl, sym, ap, subst, ◌∙◌, ◌||◌}
use Rattle.std.proofs.lemmas.Bool.{cond_both}
use Rattle.std.specs.Prelude.{IfOk}
use Rattle.std.specs.List.{filter}
use Rattle.dns_names.proofs.SymbolLaws.{IsBytes}
use Rattle.dns_master.specs.declared.master_fault.MasterFault.{MasterFault}
use Rattle.dns_master.specs.Entries.{Entry, entries}
use Rattle.dns_master.specs.Reader.{text_of}
use Rattle.dns_master.specs.Faults.{on_lines}
use Rattle.dns_master.proofs.ByteLaws.{AreEntryBytes, entries_bytes}
use Rattle.dns_master.proofs.CutLaws.{view, entries_are, entries_read}
use Rattle.dns_master.proofs.TokenLaws.{entries_ok}
use Rattle.zone_core.specs.declared.update.Prerequisite.{Prerequisite}
use Rattle.zone_core.specs.declared.update.Operation.{Operation}
use Rattle.zone_core.specs.declared.faults.UpdateFault.{UpdateFault}
use Rattle.zone_core.specs.declared.faults.UpdateFault.TheVariants.{TooManyItems, TwoSoa}
use Rattle.zone_core.specs.Updates.{UpdateOf, adds_soa, update_of}
use Rattle.update_lines.specs.declared.items_fault.ItemsFault.{ItemsFault}
use Rattle.update_lines.specs.declared.item.UpdateItem.{UpdateItem}
use Rattle.update_lines.specs.declared.item.UpdateItem.TheVariants as items
use Rattle.update_lines.specs.ItemFaults.{◌>>=◌, of_shapes, of_updates, Gives}
use Rattle.update_lines.specs.ItemLines.{AreItemsOf, prerequisites_of, operations_of, IsUpdateText}
use Rattle.update_lines.specs.Reading.{update_item, no_items, one_item, behind, or_bad_line, lists_in, entry_line, lists_of, items_of}
use Rattle.update_lines.proofs.ItemLaws.{item_found, item_only}

step_ok : {A B : Type 0} (r : Result A ItemsFault) (f : A → Result B ItemsFault) (y : B) → (r >>= f) ≡ Ok y → (x : A) × (r ≡ Ok x) × (f x ≡ Ok y)
step_ok (Ok x) f y e = (x, refl, e)
step_ok (Err d) f y e = absurd cc

ok_same : {A : Type 0} (x y : A) → ◌≡◌ {A = Result A ItemsFault} (Ok x) (Ok y) → y ≡ x
ok_same x y e = cc

-- ---- the lists of entries

-- the prerequisites and the operations among items
abbrev pub lists_among : List UpdateItem → UpdateOf
lists_among all = record { prerequisites = prerequisites_of all; operations = operations_of all }

one_more : (item : UpdateItem) (all : List UpdateItem) → behind (one_item item) (lists_among all) ≡ lists_among (item ∷ all)
one_more (items.Prerequisite p) all = refl
one_more (items.Operation op) all = refl

read_some : {A : Type 0} (line : ℕ) (o : Option A) (x : A) → or_bad_line line o ≡ Ok x → o ≡ Some x
read_some line None x e = absurd cc
read_some line (Some y) x e = let same : y ≡ x = cc in ap (λ z. Some z) same

-- the items of entries that were read
record ItemsRead (es : List Entry) (lists : UpdateOf) : Type 0 where
  all : List UpdateItem
  are : AreItemsOf all (map view es)
  lists_are : lists ≡ lists_among all

lists_found : (text : List ℕ) (es : List Entry) (lists : UpdateOf) → AreEntryBytes es → lists_in (map (entry_line text) es) ≡ Ok lists → ItemsRead es lists
lists_found text [] lists bytes e = record { all = []; are = tt; lists_are = ok_same no_items lists e }
lists_found text (e ∷ es) lists bytes h =
    let line = (entry_line text e).line in
    let s = step_ok (or_bad_line line (update_item (map text_of e.items))) (λ item. lists_in (map (entry_line text) es) >>= λ others. Ok (behind (one_item item) others)) lists h in
    let t = step_ok (lists_in (map (entry_line text) es)) (λ others. Ok (behind (one_item s.0) others)) lists s.2 in
    let r = lists_found text es t.0 bytes.1 t.1 in
    record {
      all = s.0 ∷ r.all;
      are = (item_found (map text_of e.items) s.0 bytes.0 (read_some line (update_item (map text_of e.items)) s.0 s.1), r.are);
      lists_are = ok_same (behind (one_item s.0) t.0) lists t.2 ∙ ap (behind (one_item s.0)) r.lists_are ∙ one_more s.0 r.all;
    }

lists_only : (text : List ℕ) (es : List Entry) (all : List UpdateItem) → AreItemsOf all (map view es) → lists_in (map (entry_line text) es) ≡ Ok (lists_among all)
lists_only text [] [] h = refl
lists_only text [] (item ∷ all) h = absurd h
lists_only text (e ∷ es) [] h = absurd h
lists_only text (e ∷ es) (item ∷ all) h =
    let line = (entry_line text e).line in
    ap (λ (o : Option UpdateItem). or_bad_line line o >>= λ x. lists_in (map (entry_line text) es) >>= λ others. Ok (behind (one_item x) others)) (item_only (map text_of e.items) item h.0)
    ∙ ap (λ (r : Result UpdateOf ItemsFault). r >>= λ others. Ok (behind (one_item item) others)) (lists_only text es all h.1)
    ∙ ap (λ (u : UpdateOf). Ok u) (one_more item all)

-- ---- updates

shapes_ok : {A : Type 0} (r : Result A MasterFault) (x : A) → of_shapes r ≡ Ok x → r ≡ Ok x
shapes_ok (Ok y) x e = cc
shapes_ok (Err f) x e = absurd cc

updates_ok : {A : Type 0} (r : Result A UpdateFault) (x : A) → of_updates r ≡ Ok x → r ≡ Ok x
updates_ok (Ok y) x e = cc
updates_ok (Err f) x e = absurd cc

made_ok : (x y : UpdateOf) → ◌≡◌ {A = Result UpdateOf UpdateFault} (Ok x) (Ok y) → y ≡ x
made_ok x y e = cc

-- what is made of two lists has these lists
pub update_made : (ps : List Prerequisite) (ops : List Operation) (update : UpdateOf) → update_of ps ops ≡ Ok update → update ≡ record { prerequisites = ps; operations = ops }
update_made ps ops update =
    let Made : Result UpdateOf UpdateFault → Type 0 = λ r. r ≡ Ok update → update ≡ record { prerequisites = ps; operations = ops } in
    cond_both (ltb 64 (length ps) || ltb 256 (length ops)) (Err TooManyItems) _ Made (λ _ e. absurd cc)
    (λ _. cond_both (ltb 1 (length (filter adds_soa ops))) (Err TwoSoa) (Ok (record { prerequisites = ps; operations = ops })) Made (λ _ e. absurd cc) (λ _ e. made_ok _ update e))

pub text_found : (text : List ℕ) (update : UpdateOf) → IsBytes text → items_of text ≡ Ok update → IsUpdateText text update
text_found text update bytes h =
    let s = step_ok (lists_of text) (λ lists. of_updates (update_of lists.prerequisites lists.operations)) update h in
    let t = step_ok (of_shapes (on_lines text (entries text))) (λ es. lists_in (map (entry_line text) es)) s.0 s.1 in
    let es = entries_ok text t.0 (shapes_ok (on_lines text (entries text)) t.0 t.1) in
    let r = lists_found text t.0 s.0 (entries_bytes text t.0 bytes es) t.2 in
    let made = update_made s.0.prerequisites s.0.operations update (updates_ok (update_of s.0.prerequisites s.0.operations) update s.2) in
    record {
      of_entries = map view t.0;
      of_items = r.all;
      entries_are = entries_are text t.0 es;
      items_are = r.are;
      prerequisites = ap (λ (u : UpdateOf). u.prerequisites) (made ∙ r.lists_are);
      operations = ap (λ (u : UpdateOf). u.operations) (made ∙ r.lists_are);
    }

pub text_only : (text : List ℕ) (update : UpdateOf) → IsUpdateText text update → items_of text ≡ of_updates (update_of update.prerequisites update.operations)
text_only text update h =
    let read = entries_read text h.of_entries h.entries_are in
    let are = subst (AreItemsOf h.of_items) (sym read.2) h.items_are in
    ap (λ r. (of_shapes (on_lines text r) >>= λ es. lists_in (map (entry_line text) es)) >>= λ lists. of_updates (update_of lists.prerequisites lists.operations)) read.1
    ∙ ap (λ (r : Result UpdateOf ItemsFault). r >>= λ lists. of_updates (update_of lists.prerequisites lists.operations)) (lists_only text read.0 h.of_items are)
    ∙ ap (λ (ps : List Prerequisite). of_updates (update_of ps (operations_of h.of_items))) (sym h.prerequisites)
    ∙ ap (λ (ops : List Operation). of_updates (update_of update.prerequisites ops)) (sym h.operations)

-- what holds of what the definition reads, holds of what a call answered
pub given : (P : UpdateOf → Type 0) (r read : Result UpdateOf ItemsFault) → ((u : UpdateOf) → read ≡ Ok u → P u) → Gives (λ u. u) r read → IfOk r P
given P (Ok x) read all h = all x h
given P (Err e) read all h = tt
