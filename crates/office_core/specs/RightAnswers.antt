-- What calls are told, in words of what was asked, of the reply, and of what is held before the call and after it. What makes a
-- reply right here computes no reply, and nothing of what is held after it.
use Rattle.std.specs.Prelude.{◌≡◌, ◌≢◌, ◌⊎◌, ◌↔◌, ℕ, suc, List, take, length, None, Some, slice_get}
use Rattle.dns_data.specs.declared.record.Record.{Record}
use Rattle.grant_policy.specs.declared.rule.Rule.{Rule}
use Rattle.zone_core.specs.declared.verdict.Failed.{Failed}
use Rattle.zone_core.specs.Sets.{Records}
use Rattle.zone_core.specs.Zones.{IsZone}
use Rattle.zone_core.specs.Updates.{UpdateOf, ActsWithin, IsFirstOutside}
use Rattle.zone_core.specs.Met.{IsFirstUnmet}
use Rattle.zone_core.specs.Accounts.{IsMadeBy}
use Rattle.zone_core.specs.Versions.{Advances}
use Rattle.zone_core.specs.Delegations.{DelegationOf, AreReported}
use Rattle.office_model.specs.declared.receipt.Receipt.{Receipt}
use Rattle.office_model.specs.declared.reply.UpdateReply.{UpdateReply}
use Rattle.office_model.specs.declared.reply.UpdateReply.TheVariants as replies
use Rattle.office_model.specs.declared.request.Call.{Call}
use Rattle.office_model.specs.declared.request.Request.{Request}
use Rattle.office_model.specs.declared.request.Request.TheVariants as requests
use Rattle.office_model.specs.declared.request.Query.{Query}
use Rattle.office_model.specs.declared.request.Query.TheVariants as queries
use Rattle.office_model.specs.Replies.{ReplyOf, to_update, id_reused, delegations}
use Rattle.office_model.specs.States.{Held, State, AreZones, AreReceipts, zone_held}
use Rattle.office_core.specs.Footprints.{footprint}
use Rattle.office_core.specs.Permissions.{IsPermitted, IsFirstDenial}
use Rattle.office_core.specs.Machine.{receipt}
use Rattle.office_core.specs.Runs.{Answer, HaveUpdates, state_after, answers}
use Rattle.office_core.specs.Promises.{IsMade, IsAdvance, HasMoved, IsAskedAndGranted, IsNoted, IsJudged, IsOfZone, IsListOf, QueryIsRight, ZoneIsRight}

-- ---- updates under a new identifier

-- An update fails by a prerequisite: its zone is there, its names are within the zone, the policy permits it, and the prerequisite
-- is the first that is not met (RFC 2136 section 3.2.5).
pub record FailsBy (rules : List Rule) (s : State) (caller : List ℕ) (origin : List (List ℕ)) (update : UpdateOf) (failed : Failed) : Type 0 where
  pub held : Held
  pub there : s.zones origin ≡ Some held
  pub inside : ActsWithin origin update
  pub permitted : IsPermitted rules caller origin update
  pub first : IsFirstUnmet held.records update.prerequisites failed

-- What an update with a new identifier is due: no error, where it is made; that there is no such zone; the first item whose name
-- is not within the zone; the first point that the policy does not grant, with the rule that denies it, or none where the closing
-- default does; the first prerequisite that is not met.
abbrev pub IsDue : List Rule → State → List ℕ → List ℕ → List (List ℕ) → UpdateOf → UpdateReply → Type 0
IsDue rules s caller id origin update replies.NoError = (held : Held) × IsMade rules s caller id origin update held
IsDue rules s caller id origin update replies.NotAuth = s.zones origin ≡ None
IsDue rules s caller id origin update (replies.NotZone place) = (held : Held) × (s.zones origin ≡ Some held) × IsFirstOutside origin update place
IsDue rules s caller id origin update (replies.Refused place by) =
    IsJudged s caller id origin update × IsFirstDenial rules caller (footprint origin update) (record { place = place; by = by })
IsDue rules s caller id origin update (replies.Failed failed) = FailsBy rules s caller origin update failed

-- A zone is made another by an update: its records are those that the operations make of the records before it, one operation
-- after the other (RFC 2136 section 3.4.2), with the next serial where they leave it as it was (section 3.6); so its serial is
-- greater if anything has changed (RFC 1982); what moved was asked for and granted, but for the SOA whose serial the office
-- advanced; it is noted; and no other zone has changed.
pub record IsMadeWhole (rules : List Rule) (before : State) (caller : List ℕ) (origin : List (List ℕ)) (update : UpdateOf) (held : Held) (after : State) : Type 0 where
  pub now : Held
  pub there : after.zones origin ≡ Some now
  pub is_zone : IsZone (zone_held origin now)
  pub records : IsMadeBy (zone_held origin held) update (zone_held origin now)
  pub serial : Advances (zone_held origin held) update (zone_held origin now)
  pub moved : (r : Record) → HasMoved held.records now.records r → IsAdvance origin held.records now.records r ⊎ IsAskedAndGranted rules caller origin update r
  pub noted : IsNoted held now
  pub others : (o : List (List ℕ)) → o ≢ origin → after.zones o ≡ before.zones o

-- what an update that is told a reply does to zones: where that is no error it is made whole, and else no zone has changed
abbrev pub LeavesZones : List Rule → State → List ℕ → List (List ℕ) → UpdateOf → State → UpdateReply → Type 0
LeavesZones rules before caller origin update after replies.NoError =
    (held : Held) × (before.zones origin ≡ Some held) × IsMadeWhole rules before caller origin update held after
LeavesZones rules before caller origin update after told = (o : List (List ℕ)) → after.zones o ≡ before.zones o

-- What is promised of the reply to an update whose identifier is new: it is the one that is due, and no other; the zones are as
-- that says; and the reply is kept in a receipt, while every other receipt is as it was.
pub record NewIsRight (rules : List Rule) (before : State) (caller id : List ℕ) (origin : List (List ℕ)) (update : UpdateOf) (reply : ReplyOf) (after : State) : Type 0 where
  pub told : UpdateReply
  pub reply_is : reply ≡ to_update told
  pub exactly : (other : UpdateReply) → (reply ≡ to_update other) ↔ IsDue rules before caller id origin update other
  pub zones : LeavesZones rules before caller origin update after told
  pub kept : after.receipts caller id ≡ Some (receipt origin update told)
  pub others : (c i : List ℕ) → (after.receipts c i ≡ before.receipts c i) ⊎ ((c ≡ caller) × (i ≡ id))

-- the receipt is of this update of this zone
abbrev pub IsReceiptOf : List (List ℕ) → UpdateOf → Receipt → Type 0
IsReceiptOf origin update kept = (kept.origin ≡ origin) × (kept.update ≡ update)

-- What is promised of the reply to an update whose identifier has a receipt: it is the reply that was kept where the receipt
-- is of this update, and else that its identifier was given to another; and nothing changes.
abbrev pub RepeatIsRight : State → List (List ℕ) → UpdateOf → Receipt → ReplyOf → State → Type 0
RepeatIsRight before origin update kept reply after =
    (after ≡ before)
    × ((IsReceiptOf origin update kept × (reply ≡ to_update kept.reply)) ⊎ (¬ IsReceiptOf origin update kept × (reply ≡ id_reused)))

-- ---- replies

-- a reply reports the delegations that the records of a set make which the caller may list (RFC 1034 section 4.2.1)
abbrev pub TellsReport : List Rule → List ℕ → List (List ℕ) → Records → ReplyOf → Type 0
TellsReport rules caller origin set reply =
    (rs : List Record) × (ds : List DelegationOf) × IsListOf rules caller set rs × AreReported origin rs ds × (reply ≡ delegations ds)

-- What is promised of the reply to a query: the records that the caller may list, as a list, a master file or a report of their
-- delegations, or what it sees of the zone's changes, or else that no zone of the origin is there; or what the policy decides of its
-- right.
abbrev pub QueryIsTold : List Rule → State → List ℕ → Query → ReplyOf → Type 0
QueryIsTold rules before caller (queries.Delegations origin) reply = IsOfZone before origin (λ held. TellsReport rules caller origin held.records) reply
QueryIsTold rules before caller query reply = QueryIsRight rules before caller query reply

-- What is promised of the reply to a request: of an update the above, by whether its identifier has a receipt; a query changes
-- nothing.
abbrev pub ReplyIsRight : List Rule → State → List ℕ → Request → ReplyOf → State → Type 0
ReplyIsRight rules before caller (requests.Update origin id update) reply after =
    (before.receipts caller id ≡ None → NewIsRight rules before caller id origin update reply after)
    × ((kept : Receipt) → before.receipts caller id ≡ Some kept → RepeatIsRight before origin update kept reply after)
ReplyIsRight rules before caller (requests.Read query) reply after = (after ≡ before) × QueryIsTold rules before caller query reply

-- an answer goes to the caller who asked, and its reply is right
pub record AnswerIsRight (rules : List Rule) (before : State) (call : Call) (answer : Answer) (after : State) : Type 0 where
  pub caller : answer.caller ≡ call.caller
  pub reply : ReplyIsRight rules before call.caller call.request answer.reply after

-- ---- all calls

-- what is held before the call of a number, from 0: after that many calls
abbrev pub state_before : List Rule → State → List Call → ℕ → State
state_before rules s calls k = state_after rules s (take k calls)

-- a call is an update under an identifier of a caller, and is made
abbrev pub IsMadeUnder : List Rule → State → List ℕ → List ℕ → Call → Type 0
IsMadeUnder rules before caller id call =
    (origin : List (List ℕ)) × (update : UpdateOf) × (held : Held)
    × (call ≡ record { caller = caller; request = requests.Update origin id update }) × IsMade rules before caller id origin update held

-- What is promised of the answers that calls were given: each is right; no two updates of a caller are made under one identifier;
-- an update that is called again is told the same again; each zone that was there is right, and no zone comes or goes.
pub record AnswersAreRight (rules : List Rule) (s : State) (calls : List Call) (given : List Answer) : Type 0 where
  pub as_many : length given ≡ length calls
  pub each : (k : ℕ) (call : Call) (answer : Answer) → slice_get calls k ≡ Some call → slice_get given k ≡ Some answer
      → AnswerIsRight rules (state_before rules s calls k) call answer (state_before rules s calls (suc k))
  pub once : (caller id : List ℕ) (j k : ℕ) (call other : Call) → slice_get calls j ≡ Some call → slice_get calls k ≡ Some other
      → IsMadeUnder rules (state_before rules s calls j) caller id call → IsMadeUnder rules (state_before rules s calls k) caller id other → j ≡ k
  pub again : (caller id : List ℕ) (origin : List (List ℕ)) (update : UpdateOf) (j k : ℕ) (first second : Answer)
      → slice_get calls j ≡ Some (record { caller = caller; request = requests.Update origin id update })
      → slice_get calls k ≡ Some (record { caller = caller; request = requests.Update origin id update })
      → slice_get given j ≡ Some first → slice_get given k ≡ Some second → second.reply ≡ first.reply
  pub zones : (o : List (List ℕ)) (held : Held) → s.zones o ≡ Some held → ZoneIsRight rules s calls o held
  pub no_other : (o : List (List ℕ)) → s.zones o ≡ None → (state_after rules s calls).zones o ≡ None

-- What the machine answers to calls is right, from any state in which what is held are zones and receipts of updates.
abbrev pub AllAnswersAreRight : Type 0
AllAnswersAreRight =
    (rules : List Rule) (s : State) (calls : List Call) → AreZones s → AreReceipts s → HaveUpdates calls → AnswersAreRight rules s calls (answers rules s calls)
