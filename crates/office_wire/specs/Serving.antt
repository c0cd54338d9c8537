-- What serving a stream does.
use Rattle.std.specs.Prelude.{◌≡◌, ℕ, ◌+◌, ◌-◌, ◌^◌, ◌<◌, ◌≤◌, ◌⊎◌, ◌||◌, Bool, true, false, List, [], ◌∷◌, ◌++◌, length, drop, Option, Result, Ok, Err, IfSome, ⊤}
use Rattle.std.specs.List.{list_all}
use Rattle.std.specs.Io.KnownBytes.{Appends, Consumes}
use Rattle.dns_master.specs.declared.device.DeviceFailed.{DeviceFailed}
use Rattle.dns_master.specs.Written.{IsProperPrefix}
use Rattle.grant_policy.specs.declared.rule.Rule.{Rule}
use Rattle.office_model.specs.declared.request.Call.{Call}
use Rattle.office_model.specs.Tables.{Kept}
use Rattle.office_wire.specs.declared.method.Method.{Method}
use Rattle.office_wire.specs.declared.refusal.Refusal.TheVariants.{CutShort}
use Rattle.office_wire.specs.declared.request_fault.RequestFault.{RequestFault}
use Rattle.office_wire.specs.declared.response.Response.{Response}
use Rattle.office_wire.specs.declared.response.Response.TheVariants.{Refused}
use Rattle.office_wire.specs.declared.ending.Ending.{Ending}
use Rattle.office_wire.specs.declared.ending.Ending.TheVariants as ending
use Rattle.office_wire.specs.declared.exchange.Progress.{Progress}
use Rattle.office_wire.specs.declared.exchange.Progress.TheVariants.{Waiting, Next, Last}
use Rattle.office_wire.specs.declared.exchange.Stage.{Stage}
use Rattle.office_wire.specs.declared.exchange.Stage.TheVariants.{Open, Closed, Overdue}
use Rattle.office_wire.specs.declared.serve_fault.ServeFault.{ServeFault}
use Rattle.office_wire.specs.declared.serve_fault.ServeFault.TheVariants.{ReadFailed, WriteFailed, StreamTooLong, NoMemory}
use Rattle.office_wire.specs.Texts.{text_of}
use Rattle.office_wire.specs.Framing.{WaitsUpTo}
use Rattle.office_wire.specs.declared.servfails.Servfails.{Servfails}
use Rattle.office_wire.specs.Exchange.{Turn, names_nobody, octets_of, turn_text, texts, IsOpenTurn, Standing, Answers, Run, Exchange, Waits, IsMethodAt, Closes, Ends, Says, is_line_end}
use Rattle.office_wire.specs.Servfails.{noted, servfails, servfail_in}
use Rattle.office_wire.specs.Order.{Flow, Moment, Writes, IsServedInTurn}

-- how a table stands
abbrev pub standing : Kept → ℕ → Standing
standing kept failures = record { state = kept.state; other = kept.other; failures = failures }

-- ---- the whole

-- the whole stream was answered, and all of the responses went out; these are all turns
abbrev pub IsAnswered : List Turn → List ℕ → Option (List ℕ) → Option (List ℕ) → Type 0
IsAnswered all stream before after =
    (turns last : List Turn) × (rest text : List ℕ) × (all ≡ turns ++ last) × Exchange stream turns rest × Ends rest last text
    × Appends before after (texts turns ++ text)

-- the stream was answered so far, and the response that was written last went out in part
abbrev pub IsCut : List Turn → List ℕ → Option (List ℕ) → Option (List ℕ) → Type 0
IsCut all stream before after =
    (turns last : List Turn) × (rest text part : List ℕ) × (all ≡ turns ++ last) × Exchange stream turns rest
    × (Says rest last text ⊎ Ends rest last text) × IsProperPrefix part text × Appends before after (texts turns ++ part)

-- of at least so many octets that were read all whole requests were answered, all of the responses went out, and what is left is no
-- request yet
abbrev pub IsRead : ℕ → List Turn → Option (List ℕ) → Option (List ℕ) → Option (List ℕ) → Option (List ℕ) → Type 0
IsRead least all known left before after =
    (read rest : List ℕ) × (least ≤ length read) × Consumes known left read × Waits rest × Exchange read all rest × Appends before after (texts all)

-- What serving a stream did, by its result: all was answered, to the end or to the last response; a write failed; a read failed; after
-- 2^64 - 1 reads there was no end; or there was no memory, and then nothing was read and nothing written.
abbrev pub IsDone : List Turn → Result (Unit {0}) ServeFault → Option (List ℕ) → Option (List ℕ) → Option (List ℕ) → Option (List ℕ) → Type 0
IsDone all (Ok u) known left before after = IfSome known (λ stream. IsAnswered all stream before after)
IsDone all (Err WriteFailed) known left before after = IfSome known (λ stream. IsCut all stream before after)
IsDone all (Err ReadFailed) known left before after = IsRead 0 all known left before after
IsDone all (Err StreamTooLong) known left before after = IsRead (2 ^ 64 - 1) all known left before after
IsDone all (Err NoMemory) known left before after = (all ≡ []) × (left ≡ known) × (after ≡ before)

-- All requests of what was read were answered up to some place, one at least, and all of the responses went out. None of them was the
-- last, and what follows was neither answered nor read further.
abbrev pub IsHalted : List Turn → Option (List ℕ) → Option (List ℕ) → Option (List ℕ) → Option (List ℕ) → Type 0
IsHalted all known left before after =
    (read rest : List ℕ) × (0 < length all) × Consumes known left read × Exchange read all rest × Appends before after (texts all)

-- What serving a stream did, by how it ended: halted by the deadline, or done.
abbrev pub IsEnded : List Turn → Result Ending ServeFault → Option (List ℕ) → Option (List ℕ) → Option (List ℕ) → Option (List ℕ) → Type 0
IsEnded all (Ok ending.Answered) known left before after = IsDone all (Ok tt) known left before after
IsEnded all (Ok ending.Overdue) known left before after = IsHalted all known left before after
IsEnded all (Err fault) known left before after = IsDone all (Err fault) known left before after

-- What serving one stream did: these are its turns, and so it ended. Each read came when all whole requests received by then were answered.
pub record IsStreamServed (all : List Turn) (ended : Result Ending ServeFault) (before after : Flow) : Type 0 where
  pub done : IsEnded all ended before.remaining after.remaining before.contents after.contents
  pub in_turn : IsServedInTurn all before.events after.events

-- How often the reader and the writer failed, by the result: neither at Ok, at StreamTooLong and at NoMemory; at ReadFailed the reader
-- once and the writer not; at WriteFailed the writer once and the reader not. So a read or a write that failed is not tried again.
abbrev pub CountsServed : Result (Unit {0}) ServeFault → ℕ → ℕ → ℕ → ℕ → Type 0
CountsServed (Err ReadFailed) reads reads_now writes writes_now = (reads_now ≡ reads + 1) × (writes_now ≡ writes)
CountsServed (Err WriteFailed) reads reads_now writes writes_now = (reads_now ≡ reads) × (writes_now ≡ writes + 1)
CountsServed result reads reads_now writes writes_now = (reads_now ≡ reads) × (writes_now ≡ writes)

-- the same by how it ended
abbrev pub CountsEnded : Result Ending ServeFault → ℕ → ℕ → ℕ → ℕ → Type 0
CountsEnded (Ok ended) reads reads_now writes writes_now = CountsServed (Ok tt) reads reads_now writes writes_now
CountsEnded (Err fault) reads reads_now writes writes_now = CountsServed (Err fault) reads reads_now writes writes_now

-- ---- on the way

-- how a table stands, and which of the turns so far are noted as answered SERVFAIL
pub record Mark : Type 0 where
  pub standing : Standing
  pub note : Servfails

abbrev pub mark : Kept → ℕ → Servfails → Mark
mark kept failures note = record { standing = standing kept failures; note = note }

-- these turns take a table from one standing to another, and are noted after those before
abbrev pub Leads : List Rule → Mark → List Turn → Mark → Type 0
Leads rules c turns d = Run rules c.standing turns d.standing × (d.note ≡ noted c.note (servfails turns))

-- ---- one request

-- this was answered to what was read of a request, in this text, whether it is the last, and how the table stands after it
pub record IsReplied (rules : List Rule) (c : Mark) (read : Result Call RequestFault) (method : Method) (closing last : Bool) (text : List ℕ) (d : Mark) : Type 0 where
  pub response : Response
  pub answers : Answers rules c.standing read response d.standing
  pub last_is : last ≡ closing || names_nobody response
  pub text_is : text ≡ text_of method response last
  pub note : d.note ≡ noted c.note (servfail_in response)

-- this was answered to what the octets begin with, in this text, and how the table stands after it
abbrev pub IsProgress : List Rule → Mark → List ℕ → Progress → List ℕ → Mark → Type 0
IsProgress rules c pending (Waiting n) text d = d ≡ c
IsProgress rules c pending (Next n) text d =
    (t : Turn) × Leads rules c (t ∷ []) d × IsOpenTurn t × (pending ≡ octets_of t ++ drop n pending) × (text ≡ turn_text t)
IsProgress rules c pending Last text d = (last : List Turn) × Leads rules c last d × Closes pending last text

-- what that says of the octets alone
abbrev pub Stands : List ℕ → Progress → Type 0
Stands pending (Waiting n) = Waits pending × (length pending < 81920) × WaitsUpTo pending n × (n ≤ 81920)
Stands pending (Next n) = (0 < n) × (n ≤ length pending)
Stands pending Last = ⊤

-- ---- what has come

-- the octets that are left are no request yet
abbrev pub IsIdle : Result Stage DeviceFailed → List ℕ → Type 0
IsIdle (Ok Open) rest = Waits rest × (length rest < 81920)
IsIdle result rest = ⊤

-- the deadline was asked after the response to each of these turns
abbrev pub AskedAfter : List Turn → ℕ → ℕ → Type 0
AskedAfter turns asked asked_now = asked_now ≡ asked + length turns

-- the octets were answered so far, up to rest
abbrev pub IsCurrent : List Rule → Mark → List ℕ → List ℕ → Moment → Moment → ℕ → ℕ → Mark → Type 0
IsCurrent rules c stream rest before after asked asked_now d =
    (turns : List Turn) × Leads rules c turns d × Exchange stream turns rest × Writes before after (texts turns) × AskedAfter turns asked asked_now

-- they were answered up to the last response
abbrev pub IsClosed : List Rule → Mark → List ℕ → Moment → Moment → ℕ → ℕ → Mark → Type 0
IsClosed rules c stream before after asked asked_now d =
    (turns last : List Turn) × (rest text : List ℕ) × Leads rules c (turns ++ last) d × Exchange stream turns rest × Closes rest last text
    × Writes before after (texts turns ++ text) × AskedAfter turns asked asked_now

-- they were answered, and the last response that was written went out in part
abbrev pub IsBroken : List Rule → Mark → List ℕ → Moment → Moment → ℕ → ℕ → Mark → Type 0
IsBroken rules c stream before after asked asked_now d =
    (turns last : List Turn) × (rest text part : List ℕ) × Leads rules c (turns ++ last) d × Exchange stream turns rest × Says rest last text
    × IsProperPrefix part text × Writes before after (texts turns ++ part) × AskedAfter turns asked asked_now

-- what had come was served so
abbrev pub IsServed : List Rule → Mark → List ℕ → Result Stage DeviceFailed → List ℕ → Moment → Moment → ℕ → ℕ → Mark → Type 0
IsServed rules c stream (Ok Open) rest before after asked asked_now d = IsCurrent rules c stream rest before after asked asked_now d
IsServed rules c stream (Ok Closed) rest before after asked asked_now d = IsClosed rules c stream before after asked asked_now d
IsServed rules c stream (Ok Overdue) rest before after asked asked_now d = IsCurrent rules c stream rest before after asked asked_now d × (asked < asked_now)
IsServed rules c stream (Err e) rest before after asked asked_now d = IsBroken rules c stream before after asked asked_now d

-- the deadline answered that it had passed: once where that halted it, and else never
abbrev pub CountsHalt : Result Stage DeviceFailed → ℕ → ℕ → Type 0
CountsHalt (Ok Overdue) passed passed_now = passed_now ≡ passed + 1
CountsHalt result passed passed_now = passed_now ≡ passed

-- how the end of the stream is answered
abbrev pub Finishes : List ℕ → Result (Unit {0}) DeviceFailed → Moment → Moment → Type 0
Finishes rest (Ok u) before after =
    (text : List ℕ) × Writes before after text × (((list_all is_line_end rest ≡ true) × (text ≡ [])) ⊎ ((list_all is_line_end rest ≡ false) × (m : Method) × IsMethodAt rest m × (text ≡ text_of m (Refused CutShort) true)))
Finishes rest (Err e) before after =
    (list_all is_line_end rest ≡ false) × (m : Method) × IsMethodAt rest m × (part : List ℕ) × IsProperPrefix part (text_of m (Refused CutShort) true) × Writes before after part
