-- What went through a device.
use Rattle.std.specs.Prelude.{◌≡◌, ℕ, ◌+◌, ◌-◌, ◌^◌, ◌<◌, ◌≤◌, min, List, ◌++◌, length, take, Option, Result, Ok, Err}
use Rattle.std.specs.Io.KnownBytes.{Appends}
use Rattle.dns_master.specs.declared.master_fault.MasterFault.{MasterFault}
use Rattle.dns_master.specs.declared.master_fault.MasterFault.TheVariants.{WriteFailed, NoMemory}
use Rattle.dns_master.specs.declared.device.Pieces.{Pieces}

-- one more call is counted, as far as the count goes, and the device goes on as it was made
pub record TurnsOnce (old new : Pieces) : Type 0 where
  pub calls : new.calls ≡ min (old.calls + 1) (2 ^ 64 - 1)
  pub most : new.most ≡ old.most
  pub fails : new.fails ≡ old.fails

-- a prefix of the text went out
abbrev pub AppendsFront : Option (List ℕ) → Option (List ℕ) → List ℕ → Type 0
AppendsFront old new text = (n : ℕ) × (n ≤ length text) × Appends old new (take n text)

-- What the writer held before and after, the text, the answer, and the writer's failures before and after: all of the text went
-- out; or the writer failed, or memory ran out, and a prefix of it did.
abbrev pub TextWritten : Option (List ℕ) → Option (List ℕ) → List ℕ → Result (Unit {0}) MasterFault → ℕ → ℕ → Type 0
TextWritten old new text (Ok done) before after = Appends old new text × (after ≡ before)
TextWritten old new text (Err WriteFailed) before after = AppendsFront old new text × (before < after)
TextWritten old new text (Err NoMemory) before after = AppendsFront old new text × (after ≡ before)
TextWritten old new text (Err fault) before after = ⊥

-- what went out of a text that was gathered, and what is left of it
abbrev pub Drained : Option (List ℕ) → Option (List ℕ) → List ℕ → List ℕ → Result (Unit {0}) MasterFault → ℕ → ℕ → Type 0
Drained old new text rest (Ok done) before after = (front : List ℕ) × (text ≡ front ++ rest) × Appends old new front × (after ≡ before)
Drained old new text rest (Err fault) before after = TextWritten old new text (Err fault) before after
