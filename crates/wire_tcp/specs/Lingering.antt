-- What a peer still sends after the last response.
use Rattle.std.specs.Prelude.{◌≡◌, ◌⊎◌, ℕ, ◌+◌, ◌≤◌, List, length, Option}
use Rattle.std.specs.Io.KnownBytes.{Consumes, IsAtEnd}

-- So many octets at most were read, and fewer only where the reader has no more or failed: what was left to read before and after, and the
-- reader's failures before and after.
abbrev pub Drops : ℕ → Option (List ℕ) → Option (List ℕ) → ℕ → ℕ → Type 0
Drops most left rest before after =
    (got : List ℕ) × Consumes left rest got × (length got ≤ most)
    × (((after ≡ before) × ((length got ≡ most) ⊎ IsAtEnd rest)) ⊎ (after ≡ before + 1))
