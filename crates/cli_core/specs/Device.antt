-- What went through a device.
use Rattle.std.specs.Prelude.{◌≡◌, ℕ, ◌≤◌, List, length, take, Option, Some, None, ⊤}
use Rattle.std.specs.Io.KnownBytes.{Appends}

-- a prefix of the text went out
abbrev pub AppendsFront : Option (List ℕ) → Option (List ℕ) → List ℕ → Type 0
AppendsFront old new text = (n : ℕ) × (n ≤ length text) × Appends old new (take n text)

-- what was still to come, where that is known, is this
abbrev pub IsAll : Option (List ℕ) → List ℕ → Type 0
IsAll None input = ⊤
IsAll (Some rest) input = input ≡ rest
