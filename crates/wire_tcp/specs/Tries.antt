-- Reads and writes that are begun again where a signal has cut them short.
use Rattle.std.specs.Prelude.{◌≡◌, ◌⊎◌, ℕ, ◌<◌, suc, List, [], ◌∷◌, ◌++◌, length, Option, Result, Ok, Err}
use Rattle.std.specs.List.{flat_map, AllByRecursion}
use Rattle.std.specs.declared.io.Error.{Error}
use Rattle.std.specs.declared.io.ErrorKind.{ErrorKind}
use Rattle.std.specs.declared.io.ErrorKind.TheVariants.{Interrupted}
use Rattle.office_wire.specs.declared.ending.Ending.{Ending}
use Rattle.office_wire.specs.declared.serve_fault.ServeFault.{ServeFault}
use Rattle.office_wire.specs.Order.{Follows}
use Rattle.office_wire.specs.Serving.{CountsEnded}
use Rattle.wire_tcp.specs.Waits.{Call, reading, writing, Noted, clock, Wait, noted, outcome}

abbrev pub IsCut : Wait → Type 0
IsCut w = w.outcome ≡ Err Interrupted

-- A read or a write, begun again where it was cut short, that was done: a write took one octet at least.
pub record IsDone (waits : List Wait) : Type 0 where
  pub cuts : List Wait
  pub last : Wait
  pub count : ℕ
  pub all : waits ≡ cuts ++ last ∷ []
  pub cut : AllByRecursion IsCut cuts
  pub moved : last.outcome ≡ Ok count
  pub some : last.call ≡ writing → 0 < count

-- One that failed: by an error, which is that it was cut short only after 1,000 times in a row; or it is a write that took nothing.
pub record IsVain (call : Call) (waits : List Wait) : Type 0 where
  pub cuts : List Wait
  pub last : Wait
  pub all : waits ≡ cuts ++ last ∷ []
  pub cut : AllByRecursion IsCut cuts
  pub call_is : last.call ≡ call
  pub why : ((kind : ErrorKind) × (last.outcome ≡ Err kind) × (kind ≡ Interrupted → length cuts ≡ 1000)) ⊎ ((call ≡ writing) × (last.outcome ≡ Ok 0))

-- So many of the reads and of the writes failed, and the others were done.
abbrev pub AreTries : ℕ → ℕ → List (List Wait) → Type 0
AreTries reads writes [] = (reads ≡ 0) × (writes ≡ 0)
AreTries reads writes (waits ∷ tries) =
    (IsDone waits × AreTries reads writes tries)
    ⊎ (((rest : ℕ) × (reads ≡ suc rest) × IsVain reading waits × AreTries rest writes tries)
    ⊎ ((rest : ℕ) × (writes ≡ suc rest) × IsVain writing waits × AreTries reads rest tries))

abbrev pub waits_in : List (List Wait) → List Wait
waits_in tries = flat_map (λ waits. waits) tries

-- All that was noted of a connection that ended so: one read failed if that ended it, or one write, and none else.
abbrev pub AreTried : Result Ending ServeFault → Option (List Noted) → Option (List Noted) → Type 0
AreTried ended before now = (connected : Option ℕ) × (tries : List (List Wait)) × (reads writes : ℕ)
    × Follows before now (clock connected ∷ flat_map noted (waits_in tries)) × AreTries reads writes tries × CountsEnded ended 0 reads 0 writes

-- ---- on the way

-- one read or write
abbrev pub IsOnce : Call → Result ℕ Error → Option (List Noted) → Option (List Noted) → Type 0
IsOnce call result before now = (w : Wait) × Follows before now (noted w) × (w.call ≡ call) × (w.outcome ≡ outcome result)

-- so many that were cut short
abbrev pub AreCuts : ℕ → Option (List Noted) → Option (List Noted) → Type 0
AreCuts n before now = (cuts : List Wait) × Follows before now (flat_map noted cuts) × AllByRecursion IsCut cuts × (length cuts ≡ n)

-- one that was begun again where it was cut short
abbrev pub IsTry : Call → Result ℕ Error → Option (List Noted) → Option (List Noted) → Type 0
IsTry call result before now = (cuts : List Wait) × (last : Wait) × Follows before now (flat_map noted (cuts ++ last ∷ []))
    × AllByRecursion IsCut cuts × (last.call ≡ call) × (last.outcome ≡ outcome result) × (outcome result ≡ Err Interrupted → length cuts ≡ 1000)

-- several, of which so many failed
abbrev pub AreTrying : ℕ → ℕ → Option (List Noted) → Option (List Noted) → Type 0
AreTrying reads writes before now = (tries : List (List Wait)) × Follows before now (flat_map noted (waits_in tries)) × AreTries reads writes tries
