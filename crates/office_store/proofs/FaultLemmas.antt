-- Faults that are failures.
use Rattle.std.proofs.Common.{◌≡◌, ◌⊎◌, inl, inr, Result, Err, IfErr, sym, subst}
use Rattle.store_sql.specs.declared.rows_fault.RowsFault.{RowsFault}
use Rattle.store_sql.specs.declared.rows_fault.RowsFault.TheVariants as tables
use Rattle.store_rows.specs.declared.row_fault.RowFault.{RowFault}
use Rattle.store_rows.specs.declared.row_fault.RowFault.TheVariants as rows
use Rattle.store_faults.specs.declared.store_fault.StoreFault.{StoreFault}
use Rattle.store_faults.specs.declared.store_fault.StoreFault.TheVariants.{ZoneExists, NoZone, SerialNotGreater, WrongVersion, Store, BadRow, Zone, NoMemory}
use Rattle.store_faults.specs.StoreFaults.{of_rows, IsFailure, Refuses, Gives}
use Rattle.store_rows.specs.RowRefusals.{of_row}

pub rows_fail : (f : RowsFault) → IsFailure (of_rows f)
rows_fail (tables.Store cause) = tt
rows_fail tables.BadRow = tt
rows_fail tables.NoMemory = tt

pub row_fails : (f : RowFault) → IsFailure (of_row f)
row_fails rows.BadRow = tt
row_fails rows.NoMemory = tt

pub says_nothing : {Y : Type 0} (e : StoreFault) (told : Result Y StoreFault) → IsFailure e → Refuses e told
says_nothing ZoneExists told is = absurd is
says_nothing NoZone told is = absurd is
says_nothing SerialNotGreater told is = absurd is
says_nothing WrongVersion told is = absurd is
says_nothing (Store cause) told is = tt
says_nothing BadRow told is = absurd is
says_nothing (Zone fault) told is = absurd is
says_nothing NoMemory told is = tt

-- ---- at the exit of a `?`

pub if_err_at : {X : Type 0} (P : StoreFault → Type 0) (e : StoreFault) (r : Result X StoreFault) → r ≡ Err e → P e → IfErr r P
if_err_at P e r is h = subst (λ q. IfErr q P) (sym is) h

pub gives_refused : {X Y : Type 0} (view : X → Y) (e : StoreFault) (r : Result X StoreFault) (told : Result Y StoreFault) → r ≡ Err e → Refuses e told → Gives view r told
gives_refused view e r told is refuses = subst (λ q. Gives view q told) (sym is) refuses

-- a failure gives what is to be given, whatever it is
pub gives_nothing : {X Y : Type 0} (view : X → Y) (e : StoreFault) (r : Result X StoreFault) (told : Result Y StoreFault) → r ≡ Err e → IsFailure e → Gives view r told
gives_nothing view e r told is fails = gives_refused view e r told is (says_nothing e told fails)

-- a failure is not a refusal of tables
pub no_refusal : {X : Type 0} (e : StoreFault) (r : Result X StoreFault) → r ≡ Err e → IsFailure e → (r ≡ Err WrongVersion) ⊎ (r ≡ Err BadRow) → ⊥
no_refusal e r is fails told =
    elim told [
      | inl wrong ↦ let same : e ≡ WrongVersion = cc in subst IsFailure same fails
      | inr bad ↦ let same : e ≡ BadRow = cc in subst IsFailure same fails
    ]
