-- The line of a text of items that are no update is one of its lines.
use Rattle.std.proofs.Common.{◌≡◌, ℕ, suc, ◌≤◌, List, [], ◌∷◌, length, map, Option, Some, None, Result, Ok, Err, refl, subst}
use Rattle.dns_master.specs.declared.master_fault.MasterFault.{MasterFault}
use Rattle.dns_master.specs.Faults.{fault_line, on_lines}
use Rattle.dns_master.specs.Entries.{Entry, entries}
use Rattle.dns_master.proofs.LineLemmas.{fault_line_within, line_at_within}
use Rattle.zone_core.specs.declared.faults.UpdateFault.{UpdateFault}
use Rattle.zone_core.specs.Updates.{update_of}
use Rattle.update_lines.specs.declared.items_fault.ItemsFault.{ItemsFault}
use Rattle.update_lines.specs.declared.items_fault.ItemsFault.TheVariants.{BadLine}
use Rattle.update_lines.specs.ItemFaults.{◌>>=◌, at_line, of_shapes, of_updates}
use Rattle.update_lines.specs.Reading.{entry_line, update_item, or_bad_line, behind, one_item, lists_in, lists_of, items_of}

-- ---- steps

-- a fault on a line that is one of so many
abbrev IsWithin : ℕ → ItemsFault → Type 0
IsWithin n (BadLine line) = line ≤ n
IsWithin n fault = Unit {0}

abbrev GivesWithin : {A : Type 0} → ℕ → Result A ItemsFault → Type 0
GivesWithin n (Ok x) = Unit {0}
GivesWithin n (Err fault) = IsWithin n fault

then_within : {A B : Type 0} (n : ℕ) (first : Result A ItemsFault) (next : A → Result B ItemsFault) → GivesWithin n first → ((a : A) → GivesWithin n (next a)) → GivesWithin n (first >>= next)
then_within n (Ok a) next one others = others a
then_within n (Err fault) next one others = one

-- parentheses and quotes
line_within : (n : ℕ) (at : Option ℕ) → ((line : ℕ) → at ≡ Some line → line ≤ n) → IsWithin n (at_line at)
line_within n None small = tt
line_within n (Some line) small = small line refl

shapes_within : {A : Type 0} (n : ℕ) (read : Result A MasterFault) → ((fault : MasterFault) (line : ℕ) → read ≡ Err fault → fault_line fault ≡ Some line → line ≤ n) → GivesWithin n (of_shapes read)
shapes_within n (Ok x) small = tt
shapes_within n (Err fault) small = line_within n (fault_line fault) (λ line. small fault line refl)

entries_within : (text : List ℕ) → GivesWithin (suc (length text)) (of_shapes (on_lines text (entries text)))
entries_within text = shapes_within (suc (length text)) (on_lines text (entries text)) (fault_line_within text (entries text))

-- entries
item_within : {A : Type 0} (n line : ℕ) (item : Option A) → line ≤ n → GivesWithin n (or_bad_line line item)
item_within n at None small = small
item_within n at (Some item) small = tt

lists_within : (text : List ℕ) (es : List Entry) → GivesWithin (suc (length text)) (lists_in (map (entry_line text) es))
lists_within text [] = tt
lists_within text (x ∷ es) =
    let n = suc (length text) in
    let here = entry_line text x in
    then_within n (or_bad_line here.line (update_item here.items)) (λ item. lists_in (map (entry_line text) es) >>= λ others. Ok (behind (one_item item) others))
    (item_within n here.line (update_item here.items) (line_at_within text _))
    (λ item. then_within n (lists_in (map (entry_line text) es)) (λ others. Ok (behind (one_item item) others)) (lists_within text es) (λ others. tt))

-- the update as a whole
updates_within : {A : Type 0} (n : ℕ) (result : Result A UpdateFault) → GivesWithin n (of_updates result)
updates_within n (Ok x) = tt
updates_within n (Err fault) = tt

items_within : (text : List ℕ) → GivesWithin (suc (length text)) (items_of text)
items_within text =
    let n = suc (length text) in
    then_within n (lists_of text) (λ lists. of_updates (update_of lists.prerequisites lists.operations))
    (then_within n (of_shapes (on_lines text (entries text))) (λ es. lists_in (map (entry_line text) es)) (entries_within text) (lists_within text))
    (λ lists. updates_within n (update_of lists.prerequisites lists.operations))

-- the line of items that are no update is one of their text
pub bad_line-within : (text : List ℕ) (line : ℕ) → items_of text ≡ Err (BadLine line) → line ≤ suc (length text)
bad_line-within text line e = subst (GivesWithin (suc (length text))) e (items_within text)
