-- What is read of the changes of a zone for a caller, one piece after the other.
use Rattle.std.specs.Prelude.{◌≡◌, ℕ, ◌+◌, ◌-◌, ◌≤◌, List, Bool, false, Option, Some, None, length, take, drop, map}
use Rattle.grant_policy.specs.Grants.{GrantsOf}
use Rattle.zone_core.specs.Changes.{ChangeOf}
use Rattle.office_model.specs.Replies.{seen_in}
use Rattle.office_model.specs.States.{Held}
use Rattle.office_core.specs.declared.changes.Seen.{Seen}
use Rattle.office_core.specs.Machine.{seen}

-- the changes after the first ones, so many, were read up to a point, and the caller sees this of them
pub record IsSeenUpTo (grants : GrantsOf) (count : ℕ) (cs : List ChangeOf) (s : Seen) : Type 0 where
  pub from : count ≤ s.read
  pub there : s.read ≤ count + length (drop count cs)
  pub sees : map seen_in s.changes.items ≡ seen grants.rules grants.caller (take (s.read - count) (drop count cs))

-- all of them were read
pub record IsSeenWhole (grants : GrantsOf) (count : ℕ) (cs : List ChangeOf) (s : Seen) : Type 0 where
  pub read : s.read ≡ count + length (drop count cs)
  pub sees : map seen_in s.changes.items ≡ seen grants.rules grants.caller (drop count cs)

-- what was read before and is read now, if there is a zone; where no more is to be read, all of it was
abbrev pub IsNext : GrantsOf → Option Held → Seen → Seen → Option Bool → Type 0
IsNext grants held old new None = held ≡ None
IsNext grants held old new (Some more) =
    (zone : Held) × (held ≡ Some zone)
    × ((count : ℕ) → IsSeenUpTo grants count zone.changes old → IsSeenUpTo grants count zone.changes new × (more ≡ false → IsSeenWhole grants count zone.changes new))

-- all that the caller sees after the first ones, if there is a zone
abbrev pub IsSeenBehind : GrantsOf → ℕ → Option Held → Option Seen → Type 0
IsSeenBehind grants count held None = held ≡ None
IsSeenBehind grants count held (Some s) = (zone : Held) × (held ≡ Some zone) × IsSeenWhole grants count zone.changes s
