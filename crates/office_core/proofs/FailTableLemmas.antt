-- What a table that fails at chosen calls reads, by the table within it.
use Rattle.std.proofs.Common.{◌≡◌, ℕ, zero, Result, Ok, Err, subst}
use Rattle.std.specs.Prelude.{OnOk}
use Rattle.office_model.specs.declared.table_fault.TableFault.{TableFault}
use Rattle.office_model.specs.declared.table_fault.TableFault.TheVariants.{Store, NoMemory}
use Rattle.office_model.specs.States.{State}
use Rattle.office_model.specs.Tables.{Counts, ReadsOnly}
use Rattle.office_core.specs.Memory.{MemoryOf, HoldsState}

counts_none : {X : Type 0} (n m : ℕ) (r : Result X TableFault) → m ≡ n → Counts zero zero r → Counts n m r
counts_none n m (Ok x) same none = same
counts_none n m (Err Store) same none = absurd cc
counts_none n m (Err NoMemory) same none = same

-- a call of the table within, after one that neither failed nor changed it
pub reads_within : {X : Type 0} (old mid new : MemoryOf) (n m : ℕ) (r : Result X TableFault) → mid ≡ old → m ≡ n → ReadsOnly HoldsState (λ _. Unit {0}) (λ _ _ _. Unit {0}) (λ _. zero) mid new r
    → ((s : State) → HoldsState old s → HoldsState new s) × (Unit {0} → OnOk r ((s : State) → HoldsState new s → HoldsState old s)) × ((s t : State) → Unit {0} → Unit {0}) × (Unit {0} → Unit {0}) × Counts n m r
reads_within old mid new n m r same none reads = (
  subst (λ q. (s : State) → HoldsState q s → HoldsState new s) same reads.0,
  λ u. subst (λ q. OnOk r ((s : State) → HoldsState new s → HoldsState q s)) same (reads.1 u),
  λ s t left. left,
  λ honest. honest,
  counts_none n m r none reads.4,
)
