-- What a job writes of an input where more than one text may tell what was read, as `Replies` has it where a function gives the text.
use Rattle.std.specs.Prelude.{◌≡◌, ◌⊎◌, ℕ, ◌<◌, List, Option, Result, Ok, Err}
use Rattle.std.specs.Io.KnownBytes.{Appends}
use Rattle.cli_core.specs.declared.refusal.Refusal.{Refusal}
use Rattle.cli_core.specs.declared.line_fault.LineFault.{LineFault}
use Rattle.cli_core.specs.declared.line_fault.LineFault.TheVariants.{Refused, ReadFailed, NoMemory}
use Rattle.cli_core.specs.declared.line_fault.JobFault.{JobFault}
use Rattle.cli_core.specs.declared.line_fault.JobFault.TheVariants.{Reported, WriteFailed}
use Rattle.cli_core.specs.Device.{AppendsFront}
use Rattle.cli_core.specs.LineFaults.{Makes, ReachesInput}
use Rattle.cli_core.specs.Refusals.{refused_line}
use Rattle.cli_core.specs.Replies.{line_of}

-- which texts tell what was read, how that is read, what was left to read, and a text: it tells what is read of all of it
abbrev pub TellsInput : {Y : Type 0} → (Y → List ℕ → Type 0) → (List ℕ → Result Y Refusal) → Option (List ℕ) → List ℕ → Type 0
TellsInput {Y} Tells read left text = (made : Y) × Makes left read (Ok made) × Tells made text

-- What was left to read, the answer, seen by view, that the input did not fail, and that it did: a text that tells what is read, or the
-- first refusal, unless the input failed, before which nothing is refused, or memory ran out.
abbrev pub GivesText : {X Y : Type 0} → (X → List ℕ) → (Y → List ℕ → Type 0) → (List ℕ → Result Y Refusal) → Option (List ℕ) → Result X LineFault → Type 0 → Type 0 → Type 0
GivesText view Tells read left (Ok x) fine failed = TellsInput Tells read left (view x) × fine
GivesText view Tells read left (Err (Refused refusal)) fine failed = Makes left read (Err refusal) × fine
GivesText view Tells read left (Err NoMemory) fine failed = fine
GivesText view Tells read left (Err ReadFailed) fine failed = failed × ReachesInput read

-- a text that is to be written where this was left to read, that the input did not fail, and that it did
abbrev pub IsTextReply : {Y : Type 0} → (Y → List ℕ → Type 0) → (List ℕ → Result Y Refusal) → Option (List ℕ) → Type 0 → Type 0 → List ℕ → Type 0
IsTextReply Tells read left fine failed text =
    (TellsInput Tells read left text × fine)
    ⊎ ((((refusal : Refusal) × Makes left read (Err refusal) × (text ≡ refused_line refusal)) × fine)
    ⊎ (((text ≡ line_of ReadFailed) × failed × ReachesInput read)
    ⊎ ((text ≡ line_of NoMemory) × fine)))

-- What was left to read, what the writer held before and after, how the job went, that the input did not fail, that it did, and the
-- writer's failures before and after. A failed write leaves a prefix of what was to be written; else it is all written.
abbrev pub Told : {Y : Type 0} → (Y → List ℕ → Type 0) → (List ℕ → Result Y Refusal) → Option (List ℕ) → Option (List ℕ) → Option (List ℕ) → Result (Unit {0}) JobFault → Type 0 → Type 0 → ℕ → ℕ → Type 0
Told Tells read left old new (Ok done) fine failed writes writes_after =
    ((text : List ℕ) × TellsInput Tells read left text × Appends old new text) × fine × (writes_after ≡ writes)
Told Tells read left old new (Err (Reported (Refused refusal))) fine failed writes writes_after =
    Makes left read (Err refusal) × Appends old new (refused_line refusal) × fine × (writes_after ≡ writes)
Told Tells read left old new (Err (Reported ReadFailed)) fine failed writes writes_after =
    Appends old new (line_of ReadFailed) × failed × ReachesInput read × (writes_after ≡ writes)
Told Tells read left old new (Err (Reported NoMemory)) fine failed writes writes_after =
    Appends old new (line_of NoMemory) × fine × (writes_after ≡ writes)
Told Tells read left old new (Err WriteFailed) fine failed writes writes_after =
    ((text : List ℕ) × IsTextReply Tells read left fine failed text × AppendsFront old new text) × (writes < writes_after)
