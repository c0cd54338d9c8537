-- The members of groups, group by group, with the refusal that comes first.
use Rattle.std.specs.Prelude.{◌≡◌, ℕ, ◌<◌, List, [], ◌∷◌, ◌++◌, length, slice_index_or, Option, Some, None, Result, Ok, Err, nat_lt, if◌then◌else◌, bytes_eq, is_some}
use Rattle.std.specs.Option.{ok_or}
use Rattle.policy_build.specs.declared.build_fault.BuildFault.{BuildFault}
use Rattle.policy_build.specs.declared.build_fault.BuildFault.TheVariants.{Repeated, UnknownGroup, TooManyMembers}
use Rattle.policy_build.specs.declared.member.Member.{Member}
use Rattle.policy_build.specs.declared.member.Member.TheVariants.{One, Group}
use Rattle.policy_build.specs.declared.place.FileKey.TheVariants as key
use Rattle.policy_build.specs.declared.place.Place.{Place}
use Rattle.policy_build.specs.Faults.{◌>>=◌}
use Rattle.policy_build.specs.Places.{at_key}
use Rattle.policy_build.specs.Groups.{GroupOf}

-- a group with all its members
pub record RowOf (X : Type 0) : Type 0 where
  pub id : List ℕ
  pub members : List X

-- the members of the first group that is called so
abbrev pub row_called : {X : Type 0} → List ℕ → List (RowOf X) → Option (List X)
row_called id [] = None
row_called id (row ∷ rows) = if bytes_eq row.id id then Some row.members else row_called id rows

-- the row at a place is the first that is called so
pub record IsRowAt {X : Type 0} (id : List ℕ) (rows : List (RowOf X)) (k : ℕ) : Type 0 where
  pub within : k < length rows
  pub called : (d : RowOf X) → row_called id rows ≡ Some (slice_index_or rows k d).members

-- a member itself, or those of the group that it names
abbrev pub members_at : {X : Type 0} → Place → List (RowOf X) → Member X → Result (List X) BuildFault
members_at place rows (One x) = Ok (x ∷ [])
members_at place rows (Group id) = ok_or (row_called id rows) (UnknownGroup place)

-- the members so far, and those of one more
abbrev pub with_member : {X : Type 0} → Place → List (RowOf X) → List X → Member X → Result (List X) BuildFault
with_member place rows before member = members_at place rows member >>= λ more. Ok (before ++ more)

-- at most 1,024 members
abbrev pub few_members : Place → ℕ → Result ℕ BuildFault
few_members place count = if nat_lt 1024 count then Err (TooManyMembers place count) else Ok count

-- the members so far, and those of a list
abbrev pub members_from : {X : Type 0} → Place → List (RowOf X) → List X → List (Member X) → Result (List X) BuildFault
members_from place rows before [] = Ok before
members_from place rows before (member ∷ members) = do
  more ← with_member place rows before member
  count ← few_members place (length more)
  members_from place rows more members

-- the row of a group, after those of groups before it
abbrev pub row_in : {X : Type 0} → List (RowOf X) → GroupOf X → Result (RowOf X) BuildFault
row_in rows group =
    if is_some (row_called group.id rows)
    then Err (Repeated group.place)
    else (members_from (at_key group.place key.Members) rows [] group.members >>= λ members. Ok (record { id = group.id; members = members }))

-- the rows so far, and those of groups in order
abbrev pub rows_from : {X : Type 0} → List (RowOf X) → List (GroupOf X) → Result (List (RowOf X)) BuildFault
rows_from rows [] = Ok rows
rows_from rows (group ∷ groups) = row_in rows group >>= λ row. rows_from (rows ++ row ∷ []) groups
