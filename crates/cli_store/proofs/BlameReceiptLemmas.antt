-- The text of the receipts of a zone, by what was read of a store.
use Rattle.std.proofs.Common.{◌≡◌, inl, inr, ℕ, Bool, List, Option, Result, Ok, Err}
use Rattle.sqlite.specs.State.{State as Shown}
use Rattle.store_faults.specs.declared.store_fault.StoreFault.{StoreFault}
use Rattle.cli_core.specs.declared.line_fault.LineFault.{LineFault}
use Rattle.cli_core.specs.LineFaults.{of_store}
use Rattle.cli_store.specs.declared.zone_blame.BlameAsked.{BlameAsked}
use Rattle.cli_store.specs.BlameReceipts.{ReceiptsOf, AreReceiptsRead, AreReceiptsTold, IsTextOfReceipts}
use Rattle.cli_store.specs.Stores.{IsGot}
use Rattle.cli_store.specs.ZoneHistory.{blame_asked}

module _ {C : Type 0} (shows : C → Shown) (word : List ℕ) (name : Option (List ℕ)) (finds : Bool → Type 0) (refuses : StoreFault → Type 0) (connects : C → Type 0) (asked : BlameAsked) (conn : Option C) where
  refused_as : (refusal : StoreFault) (made : Result (List ℕ) LineFault) → blame_asked word name ≡ Ok asked → IsGot shows finds refuses connects (AreReceiptsRead asked.origin) conn (Err refusal)
      → made ≡ Err (of_store refusal) → AreReceiptsTold shows word name finds refuses connects conn made
  refused_as refusal (Ok text) are got same = absurd (cc same)
  refused_as refusal (Err fault) are got same = inr (asked, are, inr (refusal, cc same, got))

  pub receipts_made : (read : Result ReceiptsOf StoreFault) (made : Result (List ℕ) LineFault) → blame_asked word name ≡ Ok asked → IsGot shows finds refuses connects (AreReceiptsRead asked.origin) conn read
      → IsTextOfReceipts asked read made → AreReceiptsTold shows word name finds refuses connects conn made
  receipts_made (Ok read) (Ok text) are got is = (asked, are, (read, got, is))
  receipts_made (Ok read) (Err fault) are got none = inr (asked, are, inl (none, (read, got)))
  receipts_made (Err refusal) made are got same = refused_as refusal made are got same
