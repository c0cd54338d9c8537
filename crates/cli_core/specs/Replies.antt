-- What a job writes: its answer, or the line that tells why it has none.
use Rattle.std.specs.Prelude.{◌≡◌, ◌⊎◌, ℕ, ◌<◌, ◌≤◌, List, [], ◌∷◌, ◌++◌, codes, length, take, Option, Result, Ok, Err}
use Rattle.std.specs.Io.KnownBytes.{Appends}
use Rattle.dns_master.specs.declared.device.DeviceFailed.{DeviceFailed}
use Rattle.cli_core.specs.declared.refusal.Refusal.{Refusal}
use Rattle.cli_core.specs.declared.line_fault.LineFault.{LineFault}
use Rattle.cli_core.specs.declared.line_fault.LineFault.TheVariants.{Refused, ReadFailed, NoMemory}
use Rattle.cli_core.specs.declared.line_fault.JobFault.{JobFault}
use Rattle.cli_core.specs.declared.line_fault.JobFault.TheVariants.{Reported, WriteFailed}
use Rattle.cli_core.specs.Device.{AppendsFront}
use Rattle.cli_core.specs.Refusals.{refused_line}
use Rattle.cli_core.specs.LineFaults.{Makes, ReachesInput}

-- the line that tells a fault
abbrev pub line_of : LineFault → List ℕ
line_of (Refused refusal) = refused_line refusal
line_of ReadFailed = codes "refused 93" ++ 10 ∷ []
line_of NoMemory = codes "refused 99" ++ 10 ∷ []

-- ---- one text

-- What the writer held before and after, the text, the answer, and the writer's failures before and after: all of the text went
-- out; or the writer failed, and a prefix of it did.
abbrev pub IsSent : Option (List ℕ) → Option (List ℕ) → List ℕ → Result (Unit {0}) DeviceFailed → ℕ → ℕ → Type 0
IsSent old new text (Ok done) before after = Appends old new text × (after ≡ before)
IsSent old new text (Err failed) before after = AppendsFront old new text × (before < after)

-- a fault is reported by its line; without memory for the line of a refusal, by that of out of memory
abbrev pub MayWrite : LineFault → LineFault → Type 0
MayWrite (Refused refusal) line = (line ≡ Refused refusal) ⊎ (line ≡ NoMemory)
MayWrite fault line = line ≡ fault

-- What the writer held before and after, the fault, the answer, and the writer's failures before and after.
abbrev pub IsRefusalWritten : Option (List ℕ) → Option (List ℕ) → LineFault → Result (Unit {0}) JobFault → ℕ → ℕ → Type 0
IsRefusalWritten old new fault (Ok done) before after = ⊥
IsRefusalWritten old new fault (Err (Reported line)) before after = MayWrite fault line × Appends old new (line_of line) × (after ≡ before)
IsRefusalWritten old new fault (Err WriteFailed) before after = ((line : LineFault) × MayWrite fault line × AppendsFront old new (line_of line)) × (before < after)

-- What the writer held before and after, what was made, seen by view, the answer, and the writer's failures before and after: what was made
-- is written, or the line of the fault.
abbrev pub IsAnswerWritten : {X : Type 0} → (X → List ℕ) → Option (List ℕ) → Option (List ℕ) → Result X LineFault → Result (Unit {0}) JobFault → ℕ → ℕ → Type 0
IsAnswerWritten view old new (Ok x) (Ok done) before after = Appends old new (view x) × (after ≡ before)
IsAnswerWritten view old new (Ok x) (Err (Reported line)) before after = ⊥
IsAnswerWritten view old new (Ok x) (Err WriteFailed) before after = AppendsFront old new (view x) × (before < after)
IsAnswerWritten view old new (Err fault) result before after = IsRefusalWritten old new fault result before after

-- a prefix of a text, and then the line of out of memory
abbrev pub IsCutShort : List ℕ → List ℕ → Type 0
IsCutShort text cut = (n : ℕ) × (n ≤ length text) × (cut ≡ take n text ++ line_of NoMemory)

-- What the writer held before and after, the text, the answer, and the writer's failures before and after: a text that takes
-- memory while it is written.
abbrev pub IsPrinted : Option (List ℕ) → Option (List ℕ) → List ℕ → Result (Unit {0}) JobFault → ℕ → ℕ → Type 0
IsPrinted old new text (Ok done) before after = Appends old new text × (after ≡ before)
IsPrinted old new text (Err (Reported NoMemory)) before after = ((cut : List ℕ) × IsCutShort text cut × Appends old new cut) × (after ≡ before)
IsPrinted old new text (Err WriteFailed) before after =
    ((sent : List ℕ) × ((sent ≡ text) ⊎ IsCutShort text sent) × AppendsFront old new sent) × (before < after)
IsPrinted old new text (Err fault) before after = ⊥

-- ---- a job

-- what a definition answers, or the line of its refusal
abbrev pub reply : Result (List ℕ) Refusal → List ℕ
reply (Ok text) = text
reply (Err refusal) = refused_line refusal

-- the line of out of memory, before which a prefix of the answer may stand
abbrev pub IsShortReply : Option (List ℕ) → (List ℕ → Result (List ℕ) Refusal) → List ℕ → Type 0
IsShortReply left answer text = (text ≡ line_of NoMemory) ⊎ ((whole : List ℕ) × Makes left answer (Ok whole) × IsCutShort whole text)

-- a text that is to be written where this was left to read, that the input did not fail, and that it did
abbrev pub IsReply : Option (List ℕ) → (List ℕ → Result (List ℕ) Refusal) → Type 0 → Type 0 → List ℕ → Type 0
IsReply left answer fine failed text =
    (((made : Result (List ℕ) Refusal) × Makes left answer made × (text ≡ reply made)) × fine)
    ⊎ (((text ≡ line_of ReadFailed) × failed × ReachesInput answer)
    ⊎ (IsShortReply left answer text × fine))

-- What was left to read, what is answered to it, what the writer held before and after, how the job went, that the input did not fail,
-- that it did, and the writer's failures before and after. A failed write leaves a prefix of what was to be written; else it is all
-- written.
abbrev pub Answered : Option (List ℕ) → (List ℕ → Result (List ℕ) Refusal) → Option (List ℕ) → Option (List ℕ) → Result (Unit {0}) JobFault → Type 0 → Type 0 → ℕ → ℕ → Type 0
Answered left answer old new (Ok done) fine failed writes writes_after =
    ((text : List ℕ) × Makes left answer (Ok text) × Appends old new text) × fine × (writes_after ≡ writes)
Answered left answer old new (Err (Reported (Refused refusal))) fine failed writes writes_after =
    Makes left answer (Err refusal) × Appends old new (refused_line refusal) × fine × (writes_after ≡ writes)
Answered left answer old new (Err (Reported ReadFailed)) fine failed writes writes_after =
    Appends old new (line_of ReadFailed) × failed × ReachesInput answer × (writes_after ≡ writes)
Answered left answer old new (Err (Reported NoMemory)) fine failed writes writes_after =
    ((text : List ℕ) × IsShortReply left answer text × Appends old new text) × fine × (writes_after ≡ writes)
Answered left answer old new (Err WriteFailed) fine failed writes writes_after =
    ((text : List ℕ) × IsReply left answer fine failed text × AppendsFront old new text) × (writes < writes_after)
