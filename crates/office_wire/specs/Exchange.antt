-- A stream of requests, what they are answered, and what is written to it.
use Rattle.std.specs.Prelude.{◌≡◌, ℕ, ◌<◌, ◌≤◌, ◌⊎◌, Bool, true, false, List, [], ◌∷◌, ◌++◌, length, ◌==◌, ◌||◌, codes, Option, Result, Ok, Err, Some}
use Rattle.std.specs.List.{flat_map, list_any, list_all, AllByRecursion}
use Rattle.httparse.specs.Grammar.{RequestHead, IsRequestHead, ReadsRequest, HasNoRequest, MayBecomeRequest, print_request}
use Rattle.grant_policy.specs.declared.rule.Rule.{Rule}
use Rattle.office_model.specs.declared.table_fault.StepFault.{StepFault}
use Rattle.office_model.specs.declared.table_fault.StepFault.TheVariants.{BeforeCommit, Commit}
use Rattle.office_model.specs.TableFaults.{cause}
use Rattle.office_model.specs.declared.table_fault.TableFault.TheVariants as faults
use Rattle.office_model.specs.declared.reply.Reply.{Reply}
use Rattle.office_model.specs.declared.reply.Reply.TheVariants.{Servfail}
use Rattle.office_model.specs.declared.request.Call.{Call}
use Rattle.office_model.specs.Replies.{reply_of}
use Rattle.office_model.specs.States.{State}
use Rattle.office_model.specs.Tables.{CountsFault}
use Rattle.office_core.specs.Runs.{HasUpdate, turn}
use Rattle.office_core.specs.Steps.{other_after}
use Rattle.office_wire.specs.declared.method.Method.{Method}
use Rattle.office_wire.specs.declared.method.Method.TheVariants.{Other}
use Rattle.office_wire.specs.declared.refusal.Refusal.{Refusal}
use Rattle.office_wire.specs.declared.refusal.Refusal.TheVariants.{BadHead, CutShort, NoCaller}
use Rattle.office_wire.specs.declared.request_fault.RequestFault.{RequestFault}
use Rattle.office_wire.specs.declared.request_fault.RequestFault.TheVariants as wrong
use Rattle.office_wire.specs.declared.response.Response.{Response}
use Rattle.office_wire.specs.declared.response.Response.TheVariants.{Refused as Refusing, BadBody, Replied}
use Rattle.office_wire.specs.declared.length.Ask.{Ask}
use Rattle.office_wire.specs.declared.length.Ask.TheVariants.{Body, Refused}
use Rattle.office_wire.specs.Fields.{fields_of, values_of, is_same_text}
use Rattle.office_wire.specs.Lengths.{method_of, ask_of}
use Rattle.office_wire.specs.Requests.{call_of}
use Rattle.office_wire.specs.Texts.{text_of}

-- ---- requests

-- This head asks that the response be the last: its version is 1.0, or it has a `Connection` field with the value `close`, in either
-- letter case (RFC 9112 section 9.3).
abbrev pub closes_by : ℕ → List (List ℕ × List ℕ) → Bool
closes_by minor fields = minor == 0 || list_any (λ v. is_same_text v (codes "close")) (values_of (codes "connection") fields)

unfoldable pub closes : RequestHead → Bool
closes h = closes_by h.minor (fields_of h)

-- a head of the grammar (RFC 9112 section 2.1), of at most 16,384 octets
pub record IsHead (h : RequestHead) : Type 0 where
  pub valid : IsRequestHead h
  pub short : length (print_request h) ≤ 16384

-- a request, and what it was answered
pub record Turn : Type 0 where
  pub head : RequestHead
  pub body : List ℕ
  pub response : Response

-- the refusal of a request that names no caller
abbrev pub names_nobody : Response → Bool
names_nobody (Refusing NoCaller) = true
names_nobody response = false

-- Its response is the last: its head asks for that, or it names no caller.
abbrev pub is_last : Turn → Bool
is_last t = closes t.head || names_nobody t.response

-- its octets on the stream
unfoldable pub octets_of : Turn → List ℕ
octets_of t = print_request t.head ++ t.body

-- the text of its response
unfoldable pub turn_text : Turn → List ℕ
turn_text t = text_of (method_of t.head.method) t.response (is_last t)

abbrev pub octets : List Turn → List ℕ
octets turns = flat_map octets_of turns

abbrev pub texts : List Turn → List ℕ
texts turns = flat_map turn_text turns

-- the request is one: a head, and a body of the length that it states
pub record IsTurn (t : Turn) : Type 0 where
  pub head : IsHead t.head
  pub body : ask_of t.head ≡ Body (length t.body)

-- it is one, and its response is not the last
pub record IsOpenTurn (t : Turn) : Type 0 where
  pub turn : IsTurn t
  pub stays : is_last t ≡ false

-- ---- what is answered

-- how a table stands: the state that it holds, the other one that a crash may leave in its place, where that is known, and how many of its
-- calls have failed
pub record Standing : Type 0 where
  pub state : State
  pub other : Option State
  pub failures : ℕ

-- a refusal as a response
abbrev pub refusing : RequestFault → Response
refusing (wrong.Refused refusal) = Refusing refusal
refusing (wrong.BadBody number) = BadBody number
refusing wrong.NoMemory = Replied (Servfail (BeforeCommit faults.NoMemory))

-- The other state that a crash may leave after a SERVFAIL: where the commit failed, the one after the call; else the one that it might
-- have left before.
abbrev pub LeavesOther : List Rule → State → Result Call RequestFault → StepFault → Option State → Option State → Type 0
LeavesOther rules s read (BeforeCommit fault) before after = after ≡ before
LeavesOther rules s read (Commit fault) before after = (call : Call) × (read ≡ Ok call) × (after ≡ Some (turn rules s call).after)

-- What is answered to what was read of a request, and how the table stands after it: the machine's reply to a call, with the state
-- after its turn; SERVFAIL, where the table failed or memory ran out, and then the state is as it was; or a refusal, and then it is
-- too.
pub data Answers (rules : List Rule) (c : Standing) (read : Result Call RequestFault) (response : Response) (d : Standing) : Type 0 where
  replied : (call : Call) (reply : Reply) → read ≡ Ok call → HasUpdate call.request → response ≡ Replied reply
      → reply_of reply ≡ Some (turn rules c.state call).reply → d.state ≡ (turn rules c.state call).after
      → d.other ≡ other_after call.request (turn rules c.state call).after c.other → d.failures ≡ c.failures
      → Answers rules c read response d
  failed : (fault : StepFault) → response ≡ Replied (Servfail fault) → d.state ≡ c.state → LeavesOther rules c.state read fault c.other d.other
      → CountsFault c.failures d.failures (cause fault) → Answers rules c read response d
  refused : (fault : RequestFault) → read ≡ Err fault → response ≡ refusing fault → d ≡ c → Answers rules c read response d

-- these turns, one after the other, take a table from one standing to another
abbrev pub Run : List Rule → Standing → List Turn → Standing → Type 0
Run rules c [] d = d ≡ c
Run rules c (t ∷ turns) d = (m : Standing) × Answers rules c (call_of t.head t.body) t.response m × Run rules m turns d

-- ---- the stream

-- the stream is these requests and then rest, and none of their responses is the last
pub record Exchange (stream : List ℕ) (turns : List Turn) (rest : List ℕ) : Type 0 where
  pub octets_are : stream ≡ octets turns ++ rest
  pub are_open : AllByRecursion IsOpenTurn turns

-- so much of what a head asks for is not there
abbrev pub AsksMore : Ask → ℕ → Type 0
AsksMore (Body n) k = k < n
AsksMore (Refused r) k = ⊥

-- Octets can still become a request: they are empty; they are fewer than a head may have, and with more of them they are a head, or the
-- target is still being read; or a head stands there whole, and of the body that it states some octets are missing.
pub data IsUnderWay (bytes : List ℕ) : Type 0 where
  nothing : length bytes ≡ 0 → IsUnderWay bytes
  in_head : length bytes < 16384 → MayBecomeRequest bytes → IsUnderWay bytes
  in_body : (h : RequestHead) (rest : List ℕ) (n : ℕ) → IsHead h → ReadsRequest bytes h rest → ask_of h ≡ Body n → length rest < n → IsUnderWay bytes

-- no request stands whole at the front, and no head that is refused; and one can still come
pub record Waits (bytes : List ℕ) : Type 0 where
  pub more : (h : RequestHead) (rest : List ℕ) → ReadsRequest bytes h rest → AsksMore (ask_of h) (length rest)
  pub under_way : IsUnderWay bytes

-- however it goes on, no head within the limit stands at the front
pub record NeverHead (bytes : List ℕ) : Type 0 where
  pub never : (more : List ℕ) (h : RequestHead) (rest : List ℕ) → ReadsRequest (bytes ++ more) h rest → 16384 < length (print_request h)

-- an octet of a line end
abbrev pub is_line_end : ℕ → Bool
is_line_end b = b == 13 || b == 10

-- What stands at the front of the rest is answered by the last response, of this text: a request, which is the last turn; a head that
-- is refused; or what is no head, however it goes on.
pub data Closes (rest : List ℕ) (last : List Turn) (text : List ℕ) : Type 0 where
  whole : (t : Turn) (more : List ℕ) → IsTurn t → is_last t ≡ true → rest ≡ octets_of t ++ more → last ≡ t ∷ [] → text ≡ turn_text t
      → Closes rest last text
  bad_length : (h : RequestHead) (more : List ℕ) (r : Refusal) → IsHead h → ask_of h ≡ Refused r → rest ≡ print_request h ++ more
      → last ≡ [] → text ≡ text_of (method_of h.method) (Refusing r) true → Closes rest last text
  bad_head : NeverHead rest → last ≡ [] → text ≡ text_of Other (Refusing BadHead) true → Closes rest last text

-- the method of the request at the front, where its head stands there whole
abbrev pub IsMethodAt : List ℕ → Method → Type 0
IsMethodAt bytes m = (HasNoRequest bytes × (m ≡ Other)) ⊎ ((h : RequestHead) × (rest : List ℕ) × ReadsRequest bytes h rest × (m ≡ method_of h.method))

-- How the rest of a stream is answered at its end: by a last response; not at all, where it is nothing but line ends; and else, where no
-- request stands whole there, as a request that was cut short.
pub data Ends (rest : List ℕ) (last : List Turn) (text : List ℕ) : Type 0 where
  closed : Closes rest last text → Ends rest last text
  quiet : list_all is_line_end rest ≡ true → last ≡ [] → text ≡ [] → Ends rest last text
  cut : (m : Method) → Waits rest → IsMethodAt rest m → list_all is_line_end rest ≡ false → last ≡ [] → text ≡ text_of m (Refusing CutShort) true
      → Ends rest last text

-- the next response on the stream, with its turn where it has one
pub data Says (rest : List ℕ) (last : List Turn) (text : List ℕ) : Type 0 where
  next : (t : Turn) (more : List ℕ) → IsOpenTurn t → rest ≡ octets_of t ++ more → last ≡ t ∷ [] → text ≡ turn_text t → Says rest last text
  closing : Closes rest last text → Says rest last text

-- a stream begins with one whole request at most
abbrev pub FramingIsUnique : Type 0
FramingIsUnique =
    (t u : Turn) (x y : List ℕ) → IsTurn t → IsTurn u → octets_of t ++ x ≡ octets_of u ++ y → (t.head ≡ u.head) × (t.body ≡ u.body) × (x ≡ y)
