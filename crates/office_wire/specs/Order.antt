-- What is read from a stream and written to it, in order.
use Rattle.std.specs.Prelude.{◌≡◌, ℕ, ◌+◌, List, [], ◌∷◌, ◌++◌, take, map, replicate, Option, Some, None, Result, Ok, Err, ⊤}
use Rattle.std.specs.List.{flat_map}
use Rattle.std.specs.Io.KnownBytes.{Appends, ReadConsumes, WriteAppends}
use Rattle.dns_master.specs.Written.{IsProperPrefix}
use Rattle.dns_master.specs.declared.device.DeviceFailed.{DeviceFailed}
use Rattle.office_wire.specs.Exchange.{Turn, texts, Exchange, Waits}

-- A call of a device: a read, with the octets that it gave, none at the end or at a failure; or a write, with the octets that were
-- taken, none at a failure.
pub data Event : Type 0 where
  read : List ℕ → Event
  written : List ℕ → Event

-- a read with this result, into a buffer with these octets
abbrev pub read_by : {E : Type 0} → Result ℕ E → List ℕ → Event
read_by (Ok n) octets = read (take n octets)
read_by (Err failed) octets = read []

-- a write of these octets, with this result
abbrev pub written_by : {E : Type 0} → Result ℕ E → List ℕ → Event
written_by (Ok n) octets = written (take n octets)
written_by (Err failed) octets = written []

-- These events, and no others, came between before and now. It says nothing where the events are unknown.
abbrev pub Follows : {X : Type 0} → Option (List X) → Option (List X) → List X → Type 0
Follows None now events = ⊤
Follows (Some before) now events = now ≡ Some (before ++ events)

-- A stream at a moment: the octets that are still to come, those that were written, and the reads and writes so far in order, each where
-- it is known.
pub record Flow : Type 0 where
  pub remaining : Option (List ℕ)
  pub contents : Option (List ℕ)
  pub events : Option (List Event)

-- what a call with this result moved: nothing where it failed
abbrev pub moved : {E : Type 0} → (List ℕ → Event) → Result ℕ E → List ℕ → List Event
moved event (Ok n) octets = event (take n octets) ∷ []
moved event (Err failed) octets = []

-- A call with this result came, after so many that moved nothing: they were cut short and begun again, or one of them is the call that
-- failed.
abbrev pub FollowsOnce : {E : Type 0} → (List ℕ → Event) → Option (List Event) → Option (List Event) → Result ℕ E → List ℕ → Type 0
FollowsOnce event before now result octets = (idle : ℕ) × Follows before now (replicate idle (event []) ++ moved event result octets)

-- one read, with this result, into a buffer with these octets: nothing was written
pub record ReadsOnce {E : Type 0} (before now : Flow) (result : Result ℕ E) (buffer : List ℕ) : Type 0 where
  pub bytes : ReadConsumes before.remaining now.remaining result buffer
  pub unwritten : now.contents ≡ before.contents
  pub event : FollowsOnce read before.events now.events result buffer

-- one write of these octets, with this result: nothing was read
pub record WritesOnce {E : Type 0} (before now : Flow) (result : Result ℕ E) (octets : List ℕ) : Type 0 where
  pub bytes : WriteAppends before.contents now.contents result octets
  pub unread : now.remaining ≡ before.remaining
  pub event : FollowsOnce written before.events now.events result octets

-- how many calls have failed, before a call with this result and after it
abbrev pub CountsOnce : {X E : Type 0} → Result X E → ℕ → ℕ → Type 0
CountsOnce (Ok x) before now = now ≡ before
CountsOnce (Err failed) before now = now ≡ before + 1

-- All whole requests of what was received are answered: what was received is the requests of the first turns, and then a rest without
-- a whole request; and what was sent is the responses of these turns, each of them whole.
abbrev pub AllAnswered : List Turn → List ℕ → List ℕ → Type 0
AllAnswered turns received sent =
    (answered later : List Turn) × (rest : List ℕ) × (turns ≡ answered ++ later) × Exchange received answered rest × Waits rest × (sent ≡ texts answered)

-- Each read among these events comes only when all whole requests received by then are answered. The octets are those received and
-- those sent before the events.
abbrev pub ReadInTurn : List Turn → List ℕ → List ℕ → List Event → Type 0
ReadInTurn turns received sent [] = ⊤
ReadInTurn turns received sent (read octets ∷ events) = AllAnswered turns received sent × ReadInTurn turns (received ++ octets) sent events
ReadInTurn turns received sent (written octets ∷ events) = ReadInTurn turns received (sent ++ octets) events

-- While these turns were served, each read came only when all whole requests received before it were answered, and their responses
-- sent whole. So a peer that waits for a response before it sends more gets that response.
abbrev pub IsServedInTurn : List Turn → Option (List Event) → Option (List Event) → Type 0
IsServedInTurn turns before now = (events : List Event) × Follows before now events × ReadInTurn turns [] [] events

-- ---- one text

-- a text was written, in some pieces, and nothing was read
abbrev pub OnlyWrites : List ℕ → Option (List Event) → Option (List Event) → Type 0
OnlyWrites text before now = (pieces : List (List ℕ)) × Follows before now (map written pieces) × (flat_map (λ piece. piece) pieces ≡ text)

-- a moment: what the writer holds then, and the events so far, each where it is known
pub record Moment : Type 0 where
  pub contents : Option (List ℕ)
  pub events : Option (List Event)

abbrev pub moment : Flow → Moment
moment flow = record { contents = flow.contents; events = flow.events }

-- between two moments a text was written, and nothing was read
abbrev pub Writes : Moment → Moment → List ℕ → Type 0
Writes before now text = Appends before.contents now.contents text × OnlyWrites text before.events now.events

-- the text was written whole; or a write failed, and a proper prefix was written
abbrev pub WritesAll : List ℕ → Result (Unit {0}) DeviceFailed → Moment → Moment → Type 0
WritesAll text (Ok done) before now = Writes before now text
WritesAll text (Err failed) before now = (part : List ℕ) × IsProperPrefix part text × Writes before now part
