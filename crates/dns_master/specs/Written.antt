-- What a writer takes of octets that are written to it.
use Rattle.std.specs.Prelude.{◌≡◌, ℕ, ◌+◌, ◌<◌, List, ◌++◌, length, Option, Result, Ok, Err}
use Rattle.std.specs.Io.KnownBytes.{Appends}
use Rattle.dns_master.specs.declared.device.DeviceFailed.{DeviceFailed}

-- part is a prefix of octets, and not the whole
pub record IsProperPrefix (part octets : List ℕ) : Type 0 where
  pub tail : List ℕ
  pub is : octets ≡ part ++ tail
  pub some : 0 < length tail

-- What the writer held before and after, the octets, the answer, and the writer's failures before and after: all of the octets went
-- out, and the writer did not fail; or it failed once, and a proper prefix of them went out.
abbrev pub IsWritten : Option (List ℕ) → Option (List ℕ) → List ℕ → Result (Unit {0}) DeviceFailed → ℕ → ℕ → Type 0
IsWritten old new octets (Ok done) before after = Appends old new octets × (after ≡ before)
IsWritten old new octets (Err failed) before after =
    ((part : List ℕ) × IsProperPrefix part octets × Appends old new part) × (after ≡ before + 1)
