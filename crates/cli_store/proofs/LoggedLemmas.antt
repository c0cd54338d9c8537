-- The text of a log, by what was read of a store.
use Rattle.std.proofs.Common.{◌≡◌, inl, inr, ℕ, Bool, List, Option, Result, Ok, Err}
use Rattle.sqlite.specs.State.{State as Shown}
use Rattle.store_faults.specs.declared.store_fault.StoreFault.{StoreFault}
use Rattle.cli_core.specs.declared.job.LogChoice.{LogChoice}
use Rattle.cli_core.specs.declared.line_fault.LineFault.{LineFault}
use Rattle.cli_core.specs.LineFaults.{of_store}
use Rattle.cli_store.specs.declared.log_choice.LogAsked.{LogAsked}
use Rattle.cli_store.specs.Stores.{IsGot}
use Rattle.cli_store.specs.StoreLog.{LogOf, log_asked, IsLogRead, IsTextOf, IsLogged}

module _ {C : Type 0} (shows : C → Shown) (word : List ℕ) (choice : LogChoice) (finds : Bool → Type 0) (refuses : StoreFault → Type 0) (connects : C → Type 0) (asked : LogAsked) (conn : Option C) where
  refused_as : (refusal : StoreFault) (made : Result (List ℕ) LineFault) → log_asked word choice ≡ Ok asked → IsGot shows finds refuses connects (IsLogRead asked.origin) conn (Err refusal) → made ≡ Err (of_store refusal)
      → IsLogged shows word choice finds refuses connects conn made
  refused_as refusal (Ok text) are got same = absurd (cc same)
  refused_as refusal (Err fault) are got same = inr (asked, are, inr (refusal, cc same, got))

  pub log_made : (read : Result LogOf StoreFault) (made : Result (List ℕ) LineFault) → log_asked word choice ≡ Ok asked → IsGot shows finds refuses connects (IsLogRead asked.origin) conn read → IsTextOf asked read made
      → IsLogged shows word choice finds refuses connects conn made
  log_made (Ok log) (Ok text) are got same = (asked, are, (log, got, same))
  log_made (Ok log) (Err fault) are got none = inr (asked, are, inl (none, (log, got)))
  log_made (Err refusal) made are got same = refused_as refusal made are got same
