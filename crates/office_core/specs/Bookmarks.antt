-- Up to where callers have read the changes of zones.
use Rattle.std.specs.Prelude.{◌≡◌, ◌⊎◌, ℕ, ◌<◌, ◌≤◌, List, Bool, Some, length, take, ◌&&◌, bytes_eq}
use Rattle.std.specs.List.{All}
use Rattle.dns_names.specs.Order.{same_name}
use Rattle.grant_policy.specs.declared.rule.Rule.{Rule}
use Rattle.zone_core.specs.Changes.{ChangeOf}
use Rattle.office_model.specs.States.{Held, State}
use Rattle.office_core.specs.declared.bookmark.Bookmark.{Bookmark}
use Rattle.office_core.specs.declared.bookmark.Bookmarks.{Bookmarks}
use Rattle.office_core.specs.declared.bookmark.Point.{Point}
use Rattle.office_core.specs.Machine.{seen}

-- a point tells how many of a zone's changes come before it, and how many of these a caller sees
pub record IsPoint (rules : List Rule) (caller : List ℕ) (cs : List ChangeOf) (point : Point) : Type 0 where
  pub read : point.read ≤ length cs
  pub seen : point.seen ≡ length (seen rules caller (take point.read cs))

-- before which the caller sees no change with a number from one on
pub record IsStart (rules : List Rule) (caller : List ℕ) (from : ℕ) (cs : List ChangeOf) (point : Point) : Type 0 where
  pub right : IsPoint rules caller cs point
  pub before : (point.seen ≡ 0) ⊎ (point.seen < from)

-- both points of a bookmark are right, if its zone is there
abbrev pub IsBookmark : List Rule → State → Bookmark → Type 0
IsBookmark rules s b =
    (held : Held) → s.zones b.origin ≡ Some held → IsPoint rules b.caller held.changes b.began × IsPoint rules b.caller held.changes b.ended

-- all bookmarks are right
abbrev pub AreBookmarks : List Rule → State → Bookmarks → Type 0
AreBookmarks rules s bookmarks = All (IsBookmark rules s) bookmarks.rows.items

-- whether a bookmark is a caller's in the zone of an origin
abbrev pub is_of : List ℕ → List (List ℕ) → Bookmark → Bool
is_of caller origin b = bytes_eq b.caller caller && same_name b.origin origin
