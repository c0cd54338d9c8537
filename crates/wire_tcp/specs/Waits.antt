-- For how long a peer was waited for, by the readings of a clock.
use Rattle.std.specs.Prelude.{◌≡◌, ◌⊎◌, ℕ, ◌+◌, ◌-◌, ◌<◌, ◌≤◌, Bool, true, false, List, [], ◌∷◌, ◌++◌, length, Option, Some, None, Result, Ok, Err, is_ok, IsSomeAnd, unwrap_or, ⊤}
use Rattle.std.specs.List.{flat_map, AllByRecursion}
use Rattle.std.specs.IoError.{error_kind}
use Rattle.std.specs.declared.io.Error.{Error}
use Rattle.std.specs.declared.io.ErrorKind.{ErrorKind}
use Rattle.office_wire.specs.Order.{Follows}
use Rattle.wire_tcp.specs.Limits.{Limits, IsWithin}

pub data Call : Type 0 where
  reading : Call
  writing : Call

-- the number of octets that a read or a write moved, or the kind of its error
abbrev pub outcome : Result ℕ Error → Result ℕ ErrorKind
outcome (Ok n) = Ok n
outcome (Err e) = Err (error_kind e)

-- What is noted of a connection, in order: the clock was read, and told so many nanoseconds since some start, or could not be read; and a
-- read or a write was made, which was allowed to wait so long, or without limit, with this outcome.
pub data Noted : Type 0 where
  clock : Option ℕ → Noted
  made : Call → Option ℕ → Result ℕ ErrorKind → Noted

-- What is known of time at a peer: what was noted, and the readings by which its age was told, each where it is known.
pub record Times : Type 0 where
  pub waits : Option (List Noted)
  pub ages : Option (List (Option ℕ))

-- ---- one wait

-- a read or a write, and the clock before it and after
pub record Wait : Type 0 where
  pub call : Call
  pub begun : Option ℕ
  pub limit : Option ℕ
  pub outcome : Result ℕ ErrorKind
  pub ended : Option ℕ

abbrev pub noted : Wait → List Noted
noted w = clock w.begun ∷ made w.call w.limit w.outcome ∷ clock w.ended ∷ []

-- The time between two readings, where both could be had. A clock that went back tells that there was none.
abbrev pub between : Option ℕ → Option ℕ → Option ℕ
between (Some begun) (Some ended) = Some (ended - begun)
between begun ended = None

-- What is left of a time of which so much is spent: nothing where a clock could not be read. Where there is no limit there stays none.
abbrev pub less : Option ℕ → Option ℕ → Option ℕ
less None spent = None
less (Some time) None = Some 0
less (Some time) (Some spent) = Some (time - spent)

abbrev pub spent_in : Wait → Option ℕ
spent_in w = between w.begun w.ended

-- Waits for one thing, for which there was so much time: each was allowed at most what was still left of it.
abbrev pub FitWithin : Option ℕ → List Wait → Type 0
FitWithin time [] = ⊤
FitWithin time (w ∷ waits) = IsWithin time w.limit × FitWithin (less time (spent_in w)) waits

-- what was spent in waits, as far as that is known
abbrev pub total : List Wait → ℕ
total [] = 0
total (w ∷ waits) = unwrap_or (spent_in w) 0 + total waits

-- No wait may end later than the time that there was for all of them: what was spent in those before it and what it is allowed are no more
-- together; or it is allowed nothing.
abbrev pub WaitsEndInTime : Type 0
WaitsEndInTime = (time : ℕ) (earlier : List Wait) (w : Wait) (later : List Wait) → FitWithin (Some time) (earlier ++ w ∷ later)
    → IsSomeAnd w.limit (λ limit. (limit ≡ 0) ⊎ (total earlier + limit ≤ time))

-- ---- a request and its response

-- the waits until a request began, those for the rest of it, and those until its response was taken
pub record Round : Type 0 where
  pub begins : List Wait
  pub rest : List Wait
  pub taking : List Wait

abbrev pub waits_of : Round → List Wait
waits_of r = r.begins ++ (r.rest ++ r.taking)

-- Reads until a request begins, and whether it has begun: with the last of them, and with none before.
abbrev pub Begins : List Wait → Bool → Type 0
Begins [] begun = begun ≡ false
Begins (w ∷ waits) begun = ((is_ok w.outcome ≡ true) × (waits ≡ []) × (begun ≡ true)) ⊎ ((is_ok w.outcome ≡ false) × Begins waits begun)

abbrev pub AreAll : Call → List Wait → Type 0
AreAll call waits = AllByRecursion (λ w. w.call ≡ call) waits

-- For each of the three there is the whole patience, and no more.
pub record IsRound (patience : Option ℕ) (r : Round) : Type 0 where
  pub begun : Bool
  pub begins : Begins r.begins begun
  pub rest : begun ≡ false → r.rest ≡ []
  pub to_begin : AreAll reading r.begins × FitWithin patience r.begins
  pub to_end : AreAll reading r.rest × FitWithin patience r.rest
  pub to_take : AreAll writing r.taking × FitWithin patience r.taking

-- ---- a connection

-- a request is not waited for beyond the age that the connection gets, from the reading when it had connected
abbrev pub IsYoungAt : Option ℕ → Option ℕ → Round → Type 0
IsYoungAt longest connected r = AllByRecursion (λ w. IsWithin (less longest (between connected w.begun)) w.limit) r.begins

-- the rounds after one: each after something was written, and begun by a read
abbrev pub AreLater : Limits → Option ℕ → Round → List Round → Type 0
AreLater limits connected r [] = ⊤
AreLater limits connected r (s ∷ rounds) =
    (0 < length r.taking) × (0 < length s.begins) × IsRound limits.patience s × IsYoungAt limits.longest connected s × AreLater limits connected s rounds

abbrev pub AreRounds : Limits → Option ℕ → List Round → Type 0
AreRounds limits connected [] = ⊤
AreRounds limits connected (r ∷ rounds) = IsRound limits.patience r × AreLater limits connected r rounds

-- All that was noted of a connection: the clock when the peer had connected, and the waits of its requests and their responses. For each
-- request to begin, for the rest of it, and for its response to be taken, the peer was waited for no longer than the patience; and for a
-- request after the first no longer than the connection was young.
abbrev pub AreWaits : Limits → Option (List Noted) → Option (List Noted) → Type 0
AreWaits limits before now =
    (connected : Option ℕ) × (rounds : List Round) × Follows before now (clock connected ∷ flat_map noted (flat_map waits_of rounds)) × AreRounds limits connected rounds
