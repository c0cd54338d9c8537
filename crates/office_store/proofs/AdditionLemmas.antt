-- What is written for an addition to a state that it fits.
use Rattle.std.proofs.Common.{◌≡◌, ℕ, ℤ, suc, pos, List, length, Option, Some, None, option_map, sym, subst}
use Rattle.std.specs.Prelude.{MatchOption}
use Rattle.zone_core.specs.Changes.{change_in}
use Rattle.zone_core.specs.declared.change.Change.{Change}
use Rattle.office_model.specs.States.{State}
use Rattle.office_model.specs.Tables.{FitsChange}
use Rattle.store_sql.specs.Rows.{ReceiptRowOf, BatchOf}
use Rattle.store_rows.specs.Batches.{IsNext, change_batch, receipts_batch}
use Rattle.office_store.specs.Additions.{Writes}

-- without a change
pub receipt_alone : (s : State) (o : List (List ℕ)) (change : Option Change) (receipts : List ReceiptRowOf) (w : BatchOf) → change ≡ None → w ≡ receipts_batch receipts → Writes s o (option_map change_in change) receipts w
receipt_alone s o change receipts w none is = subst (λ (q : Option Change). Writes s o (option_map change_in q) receipts w) (sym none) is

-- under the next number
pub with_next : (s : State) (o : List (List ℕ)) (change : Option Change) (receipts : List ReceiptRowOf) (w : BatchOf) (number : ℤ) → FitsChange s o (option_map change_in change) → IsNext s o number
    → MatchOption change (w ≡ receipts_batch receipts) (λ (c : Change). (n : ℕ) → number ≡ pos n → w ≡ change_batch o n (change_in c) receipts) → Writes s o (option_map change_in change) receipts w
with_next s o None receipts w number fits next is = is
with_next s o (Some c) receipts w number fits next told = (fits.0, fits.1, told (suc (length fits.0.changes)) (next fits.0 fits.1))
