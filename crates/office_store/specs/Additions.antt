-- What is written for an addition.
use Rattle.std.specs.Prelude.{◌≡◌, ℕ, suc, List, length, Option, Some, None}
use Rattle.zone_core.specs.Changes.{ChangeOf}
use Rattle.office_model.specs.States.{Held, State}
use Rattle.store_sql.specs.Rows.{ReceiptRowOf, BatchOf}
use Rattle.store_rows.specs.Batches.{change_batch, receipts_batch}

-- Receipts are written, and beside them a change of the zone of an origin, where there is one, under the next number of the zone; and no
-- other row goes or comes.
abbrev pub Writes : State → List (List ℕ) → Option ChangeOf → List ReceiptRowOf → BatchOf → Type 0
Writes s origin None receipts w = w ≡ receipts_batch receipts
Writes s origin (Some c) receipts w = (held : Held) × (s.zones origin ≡ Some held) × (w ≡ change_batch origin (suc (length held.changes)) c receipts)
