-- What the office promises of each request and of all of them, in words of its policy and its zones.
use Rattle.std.specs.Prelude.{◌≡◌, ◌≢◌, ◌⊎◌, ◌↔◌, ℕ, suc, ◌+◌, ◌<◌, ◌≤◌, List, [], ◌∷◌, ◌++◌, Some, None, slice_get}
use Rattle.std.specs.List.{AllPairs, Contains, fold}
use Rattle.dns_names.specs.Labels.{IsWithin}
use Rattle.dns_data.specs.declared.record.Record.{Record}
use Rattle.dns_data.specs.declared.record_type.RecordType.TheVariants as types
use Rattle.dns_data.specs.Rdata.{type_of}
use Rattle.grant_policy.specs.declared.action.Action.TheVariants as action
use Rattle.grant_policy.specs.declared.rule.Rule.{Rule}
use Rattle.grant_policy.specs.Rules.{Question}
use Rattle.grant_policy.specs.Decisions.{Verdict, IsDecision}
use Rattle.zone_core.specs.declared.update.Place.{Place}
use Rattle.zone_core.specs.declared.verdict.Failed.{Failed}
use Rattle.zone_core.specs.Sets.{Records, InOrder, IsIn, listing, part, within, minus}
use Rattle.zone_core.specs.Zones.{AreKept, soa_at}
use Rattle.zone_core.specs.Updates.{UpdateOf, ActsWithin, first_outside}
use Rattle.zone_core.specs.Prerequisites.{verdict}
use Rattle.zone_core.specs.Met.{AreMet}
use Rattle.zone_core.specs.Effects.{next_version, zone_after}
use Rattle.zone_core.specs.Versions.{Advances}
use Rattle.zone_core.specs.Changes.{changed, ChangeOf, change_between}
use Rattle.zone_core.specs.Delegations.{report}
use Rattle.office_model.specs.declared.receipt.Receipt.{Receipt}
use Rattle.office_model.specs.declared.reply.UpdateReply.{UpdateReply}
use Rattle.office_model.specs.declared.reply.UpdateReply.TheVariants as replies
use Rattle.office_model.specs.declared.request.Call.{Call}
use Rattle.office_model.specs.declared.request.Request.{Request}
use Rattle.office_model.specs.declared.request.Request.TheVariants as requests
use Rattle.office_model.specs.declared.request.Query.{Query}
use Rattle.office_model.specs.declared.request.Query.TheVariants as queries
use Rattle.office_model.specs.Replies.{ReplyOf, NumberedOf, to_update, id_reused, not_auth, not_zone, records, file, delegations, changes, right}
use Rattle.office_model.specs.States.{Held, State, AreZones, AreReceipts, zone_held}
use Rattle.office_core.specs.Footprints.{Point, footprint}
use Rattle.office_core.specs.Permissions.{DenialOf, question, IsGranted, IsPermitted, IsFirstDenial}
use Rattle.office_core.specs.Machine.{Turn, listed, changes_from, receipt}
use Rattle.office_core.specs.Runs.{HaveUpdates, turn, state_after}

-- ---- updates that are made

-- An update is made: its identifier is new to the caller, its zone is there, its names are within the zone, the policy permits it,
-- and its prerequisites are met.
pub record IsMade (rules : List Rule) (s : State) (caller id : List ℕ) (origin : List (List ℕ)) (update : UpdateOf) (held : Held) : Type 0 where
  pub fresh : s.receipts caller id ≡ None
  pub there : s.zones origin ≡ Some held
  pub inside : ActsWithin origin update
  pub permitted : IsPermitted rules caller origin update
  pub met : AreMet held.records update.prerequisites

-- the office's own change: the SOA at the origin, whose serial is one further
pub record IsAdvance (origin : List (List ℕ)) (before after : Records) (r : Record) : Type 0 where
  pub type : type_of r.rdata ≡ types.Soa
  pub owner : r.owner ≡ origin
  pub next : (soa : Record) × (soa_at origin before ≡ Some soa) × (soa_at origin after ≡ Some (next_version soa))

-- a record went or came, its TTL counted
abbrev pub HasMoved : Records → Records → Record → Type 0
HasMoved before after r = IsIn r (minus before after) ⊎ IsIn r (minus after before)

-- an update asks for an action with the records of this owner and type, and the policy grants it
pub record IsAskedAndGranted (rules : List Rule) (caller : List ℕ) (origin : List (List ℕ)) (update : UpdateOf) (r : Record) : Type 0 where
  pub point : Point
  pub asked : Contains (footprint origin update) point
  pub name : point.name ≡ r.owner
  pub record_type : point.record_type ≡ type_of r.rdata
  pub granted : IsGranted rules caller point.name point.record_type point.action

-- the changes of a zone after one: where nothing moved they are those before, and else there is one more, with all that did
abbrev pub IsNoted : Held → Held → Type 0
IsNoted before after =
    ((after.records ≡ before.records) × (after.changes ≡ before.changes))
    ⊎ ((after.records ≢ before.records) × (after.changes ≡ before.changes ++ change_between before.records after.records ∷ []))

-- An update that is made is made whole: the zone after it is that of the standard (RFC 2136 section 3.4), whose serial is greater if
-- anything has changed (RFC 1982), and no other zone has changed; what moved was granted; and it is noted.
pub record IsWhole (rules : List Rule) (s : State) (caller : List ℕ) (origin : List (List ℕ)) (update : UpdateOf) (held : Held) (made : Turn) : Type 0 where
  pub reply : made.reply ≡ to_update replies.NoError
  pub after : Held
  pub there : made.after.zones origin ≡ Some after
  pub zone : zone_held origin after ≡ zone_after (zone_held origin held) update
  pub others : (o : List (List ℕ)) → o ≢ origin → made.after.zones o ≡ s.zones o
  pub serial : Advances (zone_held origin held) update (zone_held origin after)
  pub moved : (r : Record) → HasMoved held.records after.records r → IsAdvance origin held.records after.records r ⊎ IsAskedAndGranted rules caller origin update r
  pub noted : IsNoted held after

-- ---- updates that are refused

-- an update reaches the policy: its identifier is new, its zone is there, and its names are within it
pub record IsJudged (s : State) (caller id : List ℕ) (origin : List (List ℕ)) (update : UpdateOf) : Type 0 where
  pub fresh : s.receipts caller id ≡ None
  pub held : Held
  pub there : s.zones origin ≡ Some held
  pub inside : ActsWithin origin update

-- a reply tells this denial
abbrev pub tells : DenialOf → ReplyOf
tells denial = to_update (replies.Refused denial.place denial.by)

-- ---- updates that are not made for another reason

-- the zone of an update is there, and this is the first item of the update whose name is not within it
abbrev pub IsOutside : State → List (List ℕ) → UpdateOf → Place → Type 0
IsOutside s origin update place = (held : Held) × (s.zones origin ≡ Some held) × (first_outside origin update ≡ Some place)

-- an update fails: its zone is there, its names are within the zone, the policy permits it, and its prerequisites are not met,
-- with this place and code (RFC 2136 section 3.2)
pub record IsFailing (rules : List Rule) (s : State) (caller : List ℕ) (origin : List (List ℕ)) (update : UpdateOf) (failed : Failed) : Type 0 where
  pub held : Held
  pub there : s.zones origin ≡ Some held
  pub inside : ActsWithin origin update
  pub permitted : IsPermitted rules caller origin update
  pub unmet : verdict held.records update.prerequisites ≡ Some failed

-- ---- lists

-- A caller's list has exactly the records that it may list, in record order (RFC 4034 section 6).
pub record IsListOf (rules : List Rule) (caller : List ℕ) (set : Records) (rs : List Record) : Type 0 where
  pub order : InOrder rs
  pub exactly : (r : Record) → Contains rs r ↔ (IsIn r set × IsGranted rules caller r.owner (type_of r.rdata) action.List)

-- what may be listed of a set is such a list
abbrev pub ListsAreExact : Type 0
ListsAreExact = (rules : List Rule) (caller : List ℕ) (set : Records) → AreKept set → IsListOf rules caller set (listed rules caller (listing set))

-- ---- changes

-- so many of a list have a property
abbrev pub SoMany : {X : Type 0} → (X → Type 0) → List X → ℕ → Type 0
SoMany P [] n = n ≡ 0
SoMany P (x ∷ xs) n = ((m : ℕ) × P x × (n ≡ suc m) × SoMany P xs m) ⊎ (¬ P x × SoMany P xs n)

-- one of a list has a property, and so many before it do
abbrev pub IsNth : {X : Type 0} → (X → Type 0) → List X → ℕ → X → Type 0
IsNth {X} P xs n x = (before : List X) × (after : List X) × (xs ≡ before ++ x ∷ after) × P x × SoMany P before n

-- a caller may list a record
abbrev pub MayList : List Rule → List ℕ → Record → Type 0
MayList rules caller r = IsGranted rules caller r.owner (type_of r.rdata) action.List

-- it sees something of a change: it may list some record that went or came
abbrev pub SeesSome : List Rule → List ℕ → ChangeOf → Type 0
SeesSome rules caller c = (r : Record) × (Contains c.removed r ⊎ Contains c.added r) × MayList rules caller r

-- of some records exactly those that it may list are shown to it, in their order
abbrev pub AreShown : List Rule → List ℕ → List Record → List Record → Type 0
AreShown rules caller rs shown = (k : ℕ) (r : Record) → (slice_get shown k ≡ Some r) ↔ IsNth (MayList rules caller) rs k r

-- A change as a caller is told it: it sees something of it; its number is its place, from 1 on, among those of which it does; and
-- of each side it has what it may list.
pub record IsAnsweredAs (rules : List Rule) (caller : List ℕ) (cs : List ChangeOf) (n : NumberedOf) : Type 0 where
  pub change : ChangeOf
  pub earlier : ℕ
  pub place : IsNth (SeesSome rules caller) cs earlier change
  pub number : n.number ≡ earlier + 1
  pub removed : AreShown rules caller change.removed n.removed
  pub added : AreShown rules caller change.added n.added

-- A caller gets these changes from a number on: exactly those with at least that number, in the order of their numbers.
pub record AreAnsweredFrom (rules : List Rule) (caller : List ℕ) (from : ℕ) (cs : List ChangeOf) (ns : List NumberedOf) : Type 0 where
  pub order : AllPairs (λ a b. a.number < b.number) ns
  pub exactly : (n : NumberedOf) → Contains ns n ↔ ((from ≤ n.number) × IsAnsweredAs rules caller cs n)

-- changes are answered so
abbrev pub ChangesAreExact : Type 0
ChangesAreExact = (rules : List Rule) (caller : List ℕ) (from : ℕ) (cs : List ChangeOf) → AreAnsweredFrom rules caller from cs (changes_from rules caller from cs)

-- ---- what is read

-- what is replied of a zone: that no zone of the origin is there, or else this of what is held
abbrev pub IsOfZone : State → List (List ℕ) → (Held → ReplyOf → Type 0) → ReplyOf → Type 0
IsOfZone s origin IsOf reply = ((s.zones origin ≡ None) × (reply ≡ not_auth)) ⊎ ((held : Held) × (s.zones origin ≡ Some held) × IsOf held reply)

-- a reply tells the records of a set that the caller may list
abbrev pub TellsList : List Rule → List ℕ → (List Record → ReplyOf) → Records → ReplyOf → Type 0
TellsList rules caller told set reply = (rs : List Record) × IsListOf rules caller set rs × (reply ≡ told rs)

-- and those within a name, or that the name is not within the origin
abbrev pub TellsWithin : List Rule → List ℕ → List (List ℕ) → List (List ℕ) → Records → ReplyOf → Type 0
TellsWithin rules caller origin top set reply =
    (IsWithin top origin × TellsList rules caller records (part set (within top)) reply) ⊎ (¬ IsWithin top origin × (reply ≡ not_zone))

-- a reply tells what the caller sees of changes, from a number on
abbrev pub TellsChanges : List Rule → List ℕ → ℕ → List ChangeOf → ReplyOf → Type 0
TellsChanges rules caller from cs reply = (ns : List NumberedOf) × AreAnsweredFrom rules caller from cs ns × (reply ≡ changes ns)

-- a reply tells what the policy decides
abbrev pub TellsDecision : List Rule → Question → ReplyOf → Type 0
TellsDecision rules asked reply = (v : Verdict) × IsDecision asked rules v × (reply ≡ right v)

-- ---- a request

-- What is promised of an update. A denial names the first point that is not granted, with the rule that denies it, or none where
-- the closing default does.
pub record UpdateIsRight (rules : List Rule) (s : State) (caller id : List ℕ) (origin : List (List ℕ)) (update : UpdateOf) (done : Turn) : Type 0 where
  -- it is made exactly where it may be, and then whole
  pub whole : (held : Held) → IsMade rules s caller id origin update held → IsWhole rules s caller origin update held done
  pub only : s.receipts caller id ≡ None → done.reply ≡ to_update replies.NoError → (held : Held) × IsMade rules s caller id origin update held
  -- it is refused exactly where the policy denies a point of it
  pub denied : s.receipts caller id ≡ None → (denial : DenialOf)
      → (done.reply ≡ tells denial) ↔ (IsJudged s caller id origin update × IsFirstDenial rules caller (footprint origin update) denial)
  -- the reply says that there is no zone, which item has a name outside it or which prerequisite fails, each exactly where that is so
  -- and no earlier test refuses it
  pub not_auth : s.receipts caller id ≡ None → (done.reply ≡ to_update replies.NotAuth) ↔ (s.zones origin ≡ None)
  pub not_zone : s.receipts caller id ≡ None → (place : Place) → (done.reply ≡ to_update (replies.NotZone place)) ↔ IsOutside s origin update place
  pub failed : s.receipts caller id ≡ None → (f : Failed) → (done.reply ≡ to_update (replies.Failed f)) ↔ IsFailing rules s caller origin update f
  -- a repeated one is told the reply that was kept, and another one under its identifier so
  pub repeated : (kept : Receipt) → s.receipts caller id ≡ Some kept
      → (done.after ≡ s) × (((kept.origin ≡ origin) × (kept.update ≡ update) × (done.reply ≡ to_update kept.reply))
      ⊎ (¬ ((kept.origin ≡ origin) × (kept.update ≡ update)) × (done.reply ≡ id_reused)))
  -- the reply to one that is new is kept
  pub kept : s.receipts caller id ≡ None
      → (reply : UpdateReply) × (done.reply ≡ to_update reply) × (done.after.receipts caller id ≡ Some (receipt origin update reply))

-- What is promised of the reply to a query: it is what is read: the records that the caller may list, as a list, a master file or a
-- report of their delegations; what it sees of the zone's changes; or what the policy decides of its right.
abbrev pub QueryIsRight : List Rule → State → List ℕ → Query → ReplyOf → Type 0
QueryIsRight rules s caller (queries.List origin) reply = IsOfZone s origin (λ held. TellsList rules caller records held.records) reply
QueryIsRight rules s caller (queries.ListWithin origin top) reply = IsOfZone s origin (λ held. TellsWithin rules caller origin top held.records) reply
QueryIsRight rules s caller (queries.File origin) reply = IsOfZone s origin (λ held. TellsList rules caller (file origin) held.records) reply
QueryIsRight rules s caller (queries.Delegations origin) reply = IsOfZone s origin (λ held. TellsList rules caller (λ rs. delegations (report origin rs)) held.records) reply
QueryIsRight rules s caller (queries.Changes origin from) reply = IsOfZone s origin (λ held. TellsChanges rules caller from held.changes) reply
QueryIsRight rules s caller (queries.Rights name record_type asked) reply = TellsDecision rules (question caller name record_type asked) reply

-- What is promised of a request: of an update the above, and a query changes nothing and is answered right.
abbrev pub RequestIsRight : List Rule → State → List ℕ → Request → Turn → Type 0
RequestIsRight rules s caller (requests.Update origin id update) done = UpdateIsRight rules s caller id origin update done
RequestIsRight rules s caller (requests.Read query) done = (done.after ≡ s) × QueryIsRight rules s caller query done.reply

-- an update of this zone is made for the call
abbrev pub MakesUpdate : List Rule → State → List ℕ → List (List ℕ) → Request → Type 0
MakesUpdate rules s caller zone (requests.Update origin id update) = (origin ≡ zone) × ((held : Held) × IsMade rules s caller id origin update held)
MakesUpdate rules s caller zone request = ⊥

-- the call gives a receipt: an update does, to its caller under its identifier
abbrev pub GivesReceipt : List ℕ → List ℕ → List ℕ → Request → Type 0
GivesReceipt caller c i (requests.Update origin id update) = (c ≡ caller) × (i ≡ id)
-- and no other request gives one
GivesReceipt caller c i request = ⊥

-- What is promised of the answer to one request: it is right; a zone changes only by an update of it that is made; no receipt is
-- ever lost, and none comes or changes but that of the update.
pub record TurnIsRight (rules : List Rule) (s : State) (caller : List ℕ) (request : Request) (done : Turn) : Type 0 where
  pub request_is_right : RequestIsRight rules s caller request done
  pub zones_stay : (o : List (List ℕ)) → (done.after.zones o ≡ s.zones o) ⊎ MakesUpdate rules s caller o request
  pub receipts_stay : (c i : List ℕ) (kept : Receipt) → s.receipts c i ≡ Some kept → done.after.receipts c i ≡ Some kept
  pub receipts_of_others : (c i : List ℕ) → (done.after.receipts c i ≡ s.receipts c i) ⊎ GivesReceipt caller c i request

-- ---- all requests

-- this update of a zone is made for the call
abbrev pub MakesThis : List Rule → State → List ℕ → List (List ℕ) → UpdateOf → Request → Type 0
MakesThis rules s caller zone this (requests.Update origin id update) =
    (update ≡ this) × ((origin ≡ zone) × ((held : Held) × IsMade rules s caller id origin update held))
MakesThis rules s caller zone this request = ⊥

-- the updates of a zone that are made for calls, in order
abbrev pub AreMade : List Rule → State → List Call → List (List ℕ) → List UpdateOf → Type 0
AreMade rules s [] zone updates = updates ≡ []
AreMade rules s (call ∷ calls) zone updates =
    ((update : UpdateOf) × (others : List UpdateOf) × (updates ≡ update ∷ others)
    × MakesThis rules s call.caller zone update call.request × AreMade rules (turn rules s call).after calls zone others)
    ⊎ (¬ MakesUpdate rules s call.caller zone call.request × AreMade rules (turn rules s call).after calls zone updates)

-- What is promised of a zone over calls: it is the zone at the start with the updates that were made of it, in order; and the
-- changes that were noted, made to it in order, lead from the one to the other.
pub record ZoneIsRight (rules : List Rule) (s : State) (calls : List Call) (zone : List (List ℕ)) (held : Held) : Type 0 where
  pub after : Held
  pub there : (state_after rules s calls).zones zone ≡ Some after
  pub updates : List UpdateOf
  pub are_made : AreMade rules s calls zone updates
  pub in_order : zone_held zone after ≡ fold zone_after (zone_held zone held) updates
  pub noted : List ChangeOf
  pub changes : after.changes ≡ held.changes ++ noted
  pub lead : fold (λ set c. changed set c.removed c.added) held.records noted ≡ after.records

-- What is promised of calls: each is answered right, and each zone that was there is right; no zone comes or goes.
pub record CallsAreRight (rules : List Rule) (s : State) (calls : List Call) : Type 0 where
  pub each : (front rest : List Call) (call : Call) → calls ≡ front ++ call ∷ rest
      → TurnIsRight rules (state_after rules s front) call.caller call.request (turn rules (state_after rules s front) call)
  pub zones : (o : List (List ℕ)) (held : Held) → s.zones o ≡ Some held → ZoneIsRight rules s calls o held
  pub no_other : (o : List (List ℕ)) → s.zones o ≡ None → (state_after rules s calls).zones o ≡ None

-- Calls are answered right, from any state in which what is held are zones and receipts of updates.
abbrev pub AllCallsAreRight : Type 0
AllCallsAreRight = (rules : List Rule) (s : State) (calls : List Call) → AreZones s → AreReceipts s → HaveUpdates calls → CallsAreRight rules s calls
