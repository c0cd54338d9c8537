-- A response that there is no memory for.
use Rattle.std.proofs.Common.{◌≡◌, ◌||◌, ◌&&◌, if◌then◌else◌, ℕ, Bool, true, false, List, Option, Some, None, Result, Ok, refl, sym, ap, subst, ◌∙◌}
use Rattle.std.specs.Prelude.{option_map}
use Rattle.httparse.specs.Grammar.{RequestHead}
use Rattle.grant_policy.specs.declared.rule.Rule.{Rule}
use Rattle.office_model.specs.declared.table_fault.TableFault.TheVariants as faults
use Rattle.office_model.specs.declared.table_fault.StepFault.TheVariants.{BeforeCommit, Commit}
use Rattle.office_model.specs.declared.receipt.Receipt.{Receipt}
use Rattle.office_model.specs.declared.reply.UpdateReply.{UpdateReply}
use Rattle.office_model.specs.declared.reply.UpdateReply.TheVariants.{NoError}
use Rattle.office_model.specs.declared.request.Call.{Call}
use Rattle.office_model.specs.declared.request.Request.{Request}
use Rattle.office_model.specs.declared.request.Request.TheVariants as requests
use Rattle.office_model.specs.declared.reply.Reply.{Reply}
use Rattle.office_model.specs.declared.reply.Reply.TheVariants as replies
use Rattle.office_model.specs.declared.reply.Reading.{Reading}
use Rattle.office_model.specs.declared.reply.Reading.TheVariants as readings
use Rattle.office_model.specs.Replies.{to_update, id_reused, reading_of, reply_of}
use Rattle.office_model.specs.States.{State}
use Rattle.office_model.specs.Tables.{Keeps, Kept}
use Rattle.dns_names.specs.Order.{same_name}
use Rattle.zone_core.specs.Updates.{UpdateOf, same_update}
use Rattle.office_core.specs.Machine.{Turn, step, updated, answered, refusal}
use Rattle.office_core.specs.Runs.{HasUpdate, turn}
use Rattle.office_core.specs.Steps.{Steps, Leaves, CountsReply, other_after}
use Rattle.wire_json.specs.Replies.{IsShort}
use Rattle.office_wire.specs.declared.method.Method.{Method}
use Rattle.office_wire.specs.declared.request_fault.RequestFault.{RequestFault}
use Rattle.office_wire.specs.declared.request_fault.RequestFault.TheVariants as wrong
use Rattle.office_wire.specs.declared.response.Response.{Response}
use Rattle.office_wire.specs.declared.response.Response.TheVariants.{Refused, BadBody, Replied}
use Rattle.office_wire.specs.declared.head.Heading.{Heading}
use Rattle.office_wire.specs.Framing.{IsAsked}
use Rattle.office_wire.specs.Requests.{Refuses, call_by, call_of}
use Rattle.office_wire.specs.Serving.{standing, Mark, IsReplied}
use Rattle.office_wire.specs.Servfails.{servfail_in, noted, one_more}
use Rattle.office_wire.specs.ShortResponses.{IsShortResponse, IsPut, servfail}
use Rattle.office_wire.specs.Exchange.{Standing, Answers, names_nobody, replied, failed, refused, refusing}

-- what was read is no reply to an update
not_read : (reading : Reading) (x : UpdateReply) → Some (reading_of reading) ≡ Some (to_update x) → ⊥
not_read (readings.Records rs) x e = absurd cc
not_read (readings.File origin rs) x e = absurd cc
not_read (readings.Delegations ds) x e = absurd cc
not_read (readings.Changes cs) x e = absurd cc
not_read (readings.Right r) x e = absurd cc

-- a reply to an update is short
short_update : (reply : Reply) (x : UpdateReply) → reply_of reply ≡ Some (to_update x) → IsShort reply
short_update (replies.Update r) x e = tt
short_update replies.IdReused x e = tt
short_update (replies.Servfail fault) x e = tt
short_update replies.NotAuth x e = tt
short_update replies.NotZone x e = tt
short_update (replies.Read reading) x e = absurd (not_read reading x e)

-- a turn whose reply is long leaves the state as it was
abbrev IsLongTurn : State → Turn → Type 0
IsLongTurn s t = (reply : Reply) → reply_of reply ≡ Some t.reply → (IsShort reply → ⊥) → t.after ≡ s

long_answered : (s : State) (caller id : List ℕ) (origin : List (List ℕ)) (update : UpdateOf) (o : Option UpdateReply) → IsLongTurn s (answered s caller id origin update o)
long_answered s caller id origin update (Some x) reply e long = absurd (long (short_update reply _ e))
long_answered s caller id origin update None reply e long = absurd (long (short_update reply _ e))

long_updated : (rules : List Rule) (s : State) (caller id : List ℕ) (origin : List (List ℕ)) (update : UpdateOf) (o : Option Receipt) → IsLongTurn s (updated rules s caller id origin update o)
long_updated rules s caller id origin update (Some kept) reply e long = refl
long_updated rules s caller id origin update None reply e long = long_answered s caller id origin update (refusal rules caller origin update (s.zones origin)) reply e long

long_step : (rules : List Rule) (s : State) (caller : List ℕ) (request : Request) → IsLongTurn s (step rules s caller request)
long_step rules s caller (requests.Update origin id update) reply e long = long_updated rules s caller id origin update (s.receipts caller id) reply e long
long_step rules s caller (requests.Read query) reply e long = refl

-- and as it was is the other that a crash may leave
not_reused : (reading : Reading) → Some (reading_of reading) ≡ Some id_reused → ⊥
not_reused (readings.Records rs) e = absurd cc
not_reused (readings.File origin rs) e = absurd cc
not_reused (readings.Delegations ds) e = absurd cc
not_reused (readings.Changes cs) e = absurd cc
not_reused (readings.Right r) e = absurd cc

not_again : (reading : Reading) (reply : UpdateReply) (same : Bool) → Some (reading_of reading) ≡ Some (if same then to_update reply else id_reused) → ⊥
not_again reading reply true e = not_read reading reply e
not_again reading reply false e = not_reused reading e

not_answered : (s : State) (caller id : List ℕ) (origin : List (List ℕ)) (update : UpdateOf) (reading : Reading) (o : Option UpdateReply) → Some (reading_of reading) ≡ Some (answered s caller id origin update o).reply → ⊥
not_answered s caller id origin update reading (Some x) e = not_read reading x e
not_answered s caller id origin update reading None e = not_read reading NoError e

not_updated : (rules : List Rule) (s : State) (caller id : List ℕ) (origin : List (List ℕ)) (update : UpdateOf) (reading : Reading) (o : Option Receipt) → Some (reading_of reading) ≡ Some (updated rules s caller id origin update o).reply → ⊥
not_updated rules s caller id origin update reading (Some kept) e = not_again reading kept.reply (same_name kept.origin origin && same_update kept.update update) e
not_updated rules s caller id origin update reading None e = not_answered s caller id origin update reading (refusal rules caller origin update (s.zones origin)) e

-- a long reply is what was read
long_reading : (reply : Reply) → (IsShort reply → ⊥) → (reading : Reading) × (reply ≡ replies.Read reading)
long_reading (replies.Update r) long = absurd (long tt)
long_reading replies.IdReused long = absurd (long tt)
long_reading (replies.Servfail fault) long = absurd (long tt)
long_reading replies.NotAuth long = absurd (long tt)
long_reading replies.NotZone long = absurd (long tt)
long_reading (replies.Read reading) long = (reading, refl)

long_other : (rules : List Rule) (s : State) (caller : List ℕ) (request : Request) (other : Option State) (reply : Reply) → reply_of reply ≡ Some (step rules s caller request).reply
    → (IsShort reply → ⊥) → other_after request (step rules s caller request).after other ≡ other
long_other rules s caller (requests.Update origin id update) other reply said long =
    let it = long_reading reply long in
    absurd (not_updated rules s caller id origin update it.0 (s.receipts caller id) (sym (ap (λ (r : Reply). reply_of r) it.1) ∙ said))
long_other rules s caller (requests.Read query) other reply said long = refl

short_refusing : (fault : RequestFault) → IsShortResponse (refusing fault)
short_refusing (wrong.Refused r) = tt
short_refusing (wrong.BadBody n) = tt
short_refusing wrong.NoMemory = tt

-- in place of a response that is not short SERVFAIL may be answered
pub servfail_instead : (rules : List Rule) (c d : Standing) (read : Result Call RequestFault) (response : Response) → Answers rules c read response d → (IsShortResponse response → ⊥)
    → Answers rules c read servfail d
servfail_instead rules c d read response (replied call reply e has r said after other count) long =
    let long_reply = λ (short : IsShort reply). long (subst (λ (x : Response). IsShortResponse x) (sym r) short) in
    failed (BeforeCommit faults.NoMemory) refl (after ∙ long_step rules c.state call.caller call.request reply said long_reply)
    (other ∙ long_other rules c.state call.caller call.request c.other reply said long_reply) count
servfail_instead rules c d read response (failed fault r stays other count) long =
    absurd (long (subst (λ (x : Response). IsShortResponse x) (sym r) tt))
servfail_instead rules c d read response (refused fault e r stays) long =
    absurd (long (subst (λ (x : Response). IsShortResponse x) (sym r) (short_refusing fault)))

-- ---- what a call is answered

pub steps_answer : (holds marked : State → Type 0) (leaves : State → State → Type 0) (rules : List Rule) (s : Kept) (before after : ℕ) (read : Result Call RequestFault) (call : Call) (reply : Reply)
    → read ≡ Ok call → HasUpdate call.request → Steps (λ t. holds t × marked t) rules s.state call.caller call.request reply
    → Leaves leaves rules s.state s.other call.caller call.request reply → CountsReply before after reply
    → (t : Kept) × (Keeps holds leaves t × marked t.state) × Answers rules (standing s before) read (Replied reply) (standing t after)
steps_answer holds marked leaves rules s before after read call (replies.Servfail (BeforeCommit fault)) e has steps left counts =
    (s, ((steps.0, left), steps.1), failed (BeforeCommit fault) refl refl refl counts)
steps_answer holds marked leaves rules s before after read call (replies.Servfail (Commit fault)) e has steps left counts =
    (record { state = s.state; other = Some (turn rules s.state call).after }, ((steps.0, left), steps.1), failed (Commit fault) refl refl (call, e, refl) counts)
steps_answer holds marked leaves rules s before after read call reply e has steps left counts = (
  record { state = (turn rules s.state call).after; other = other_after call.request (turn rules s.state call).after s.other },
  ((steps.1.0, left), steps.1.1),
  replied call reply e has refl steps.0 refl refl counts,
)

pub refusal_answers : (rules : List Rule) (c : Standing) (read : Result Call RequestFault) (fault : RequestFault) → Refuses fault read → Answers rules c read (refusing fault) c
refusal_answers rules c read (wrong.Refused r) e = refused (wrong.Refused r) e refl refl
refusal_answers rules c read (wrong.BadBody n) e = refused (wrong.BadBody n) e refl refl
refusal_answers rules c read wrong.NoMemory e = failed (BeforeCommit faults.NoMemory) refl refl refl refl

-- the call of what is kept of a head is the call of the head
pub asked_call : (g : Heading) (h : RequestHead) (body : List ℕ) → IsAsked g h → call_by (option_map (λ v. v.now) g.caller) g.method g.target.now body ≡ call_of h body
unfolding call_of
asked_call g h body is = λ i. call_by (is.caller i) (is.method i) (is.target i) body

-- what is put is the text of what is answered, and is noted
pub put_whole : (rules : List Rule) (c d : Mark) (read : Result Call RequestFault) (response : Response) (method : Method) (closing last whole : Bool) (text : List ℕ) → Answers rules c.standing read response d.standing
    → last ≡ closing || names_nobody response → IsPut method response last whole text → whole ≡ true → d.note ≡ noted c.note (servfail_in response)
    → IsReplied rules c read method closing last text d
put_whole rules c d read response method closing last true text a last_is put is note =
    record { response = response; answers = a; last_is = last_is; text_is = put; note = note }
put_whole rules c d read response method closing last false text a last_is put is note = absurd cc

-- a long response names a caller
long_names : (response : Response) → (IsShortResponse response → ⊥) → names_nobody response ≡ names_nobody servfail
long_names (Refused refusal) long = absurd (long tt)
long_names (BadBody number) long = refl
long_names (Replied reply) long = refl

-- and SERVFAIL where there was no memory for it
pub put_servfail : (rules : List Rule) (c d : Mark) (read : Result Call RequestFault) (response : Response) (method : Method) (closing last whole : Bool) (text : List ℕ) → Answers rules c.standing read response d.standing
    → last ≡ closing || names_nobody response → IsPut method response last whole text → whole ≡ false → d.note ≡ one_more c.note faults.NoMemory
    → IsReplied rules c read method closing last text d
put_servfail rules c d read response method closing last true text a last_is put is note = absurd cc
put_servfail rules c d read response method closing last false text a last_is put is note = record {
  response = servfail;
  answers = servfail_instead rules c.standing d.standing read response a put.0;
  last_is = last_is ∙ ap (λ (b : Bool). closing || b) (long_names response put.0);
  text_is = put.1;
  note = note;
}
