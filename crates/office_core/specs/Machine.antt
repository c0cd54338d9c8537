-- The machine: what the office replies to a caller's request, and the state after it. The order of tests is this office's own: a
-- receipt, the zone, the names, the policy, and only then the prerequisites (RFC 2136 section 3 has these before permission), so
-- that a denial tells nothing of a zone's records.
use Rattle.std.specs.Prelude.{ℕ, suc, List, [], ◌∷◌, ◌++◌, Bool, ◌&&◌, nat_le, if◌then◌else◌, Option, Some, None, option_map}
use Rattle.std.specs.List.{filter, flat_map}
use Rattle.std.specs.Option.{option_or}
use Rattle.dns_names.specs.Labels.{is_within}
use Rattle.dns_names.specs.Order.{same_name}
use Rattle.dns_data.specs.declared.record.Record.{Record}
use Rattle.dns_data.specs.Rdata.{type_of}
use Rattle.grant_policy.specs.declared.action.Action.TheVariants as action
use Rattle.grant_policy.specs.declared.rule.Rule.{Rule}
use Rattle.grant_policy.specs.Decisions.{decision, is_granted}
use Rattle.zone_core.specs.declared.update.Operation.{Operation}
use Rattle.zone_core.specs.Sets.{Records, listing, part, within, is_same}
use Rattle.zone_core.specs.Updates.{UpdateOf, first_outside, same_update}
use Rattle.zone_core.specs.Prerequisites.{verdict}
use Rattle.zone_core.specs.Effects.{zone_after}
use Rattle.zone_core.specs.Delegations.{report}
use Rattle.zone_core.specs.Changes.{ChangeOf, change_between, is_empty}
use Rattle.office_model.specs.declared.request.Request.{Request}
use Rattle.office_model.specs.declared.request.Request.TheVariants as requests
use Rattle.office_model.specs.declared.request.Query.{Query}
use Rattle.office_model.specs.declared.request.Query.TheVariants as queries
use Rattle.office_model.specs.declared.reply.UpdateReply.{UpdateReply}
use Rattle.office_model.specs.declared.reply.UpdateReply.TheVariants.{NoError, NotAuth, NotZone, Refused, Failed}
use Rattle.office_model.specs.declared.receipt.Receipt.{Receipt}
use Rattle.office_model.specs.Replies.{ReplyOf, NumberedOf, to_update, id_reused, not_auth, not_zone, records, file, delegations, changes, right}
use Rattle.office_model.specs.States.{Held, State, zone_held, hold, keep}
use Rattle.office_core.specs.Footprints.{footprint}
use Rattle.office_core.specs.Permissions.{DenialOf, question, first_denial}

-- ---- what a caller may list

-- whether a caller may list a record
abbrev pub may_list : List Rule → List ℕ → Record → Bool
may_list rules caller r = is_granted (decision (question caller r.owner (type_of r.rdata) action.List) rules)

-- the records that it may
abbrev pub listed : List Rule → List ℕ → List Record → List Record
listed rules caller rs = filter (may_list rules caller) rs

-- those of the zone of an origin, where there is the zone
abbrev pub listed_at : List Rule → List ℕ → State → List (List ℕ) → Option (List Record)
listed_at rules caller s origin = option_map (λ held. listed rules caller (listing held.records)) (s.zones origin)

-- what it may list of a change
abbrev pub seen_of : List Rule → List ℕ → ChangeOf → ChangeOf
seen_of rules caller c = record { removed = listed rules caller c.removed; added = listed rules caller c.added }

-- a change, unless it has no record
abbrev pub if_some : ChangeOf → List ChangeOf
if_some c = if is_empty c then [] else c ∷ []

-- what a caller sees of changes: of each the records that it may list; changes of which it sees nothing are left out
abbrev pub seen : List Rule → List ℕ → List ChangeOf → List ChangeOf
seen rules caller cs = flat_map (λ c. if_some (seen_of rules caller c)) cs

-- changes with their numbers, from this one on
abbrev pub numbered : ℕ → List ChangeOf → List NumberedOf
numbered n [] = []
numbered n (c ∷ cs) = record { number = n; removed = c.removed; added = c.added } ∷ numbered (suc n) cs

-- the changes that a caller sees, numbered from 1 in its own list, from a number on
abbrev pub changes_from : List Rule → List ℕ → ℕ → List ChangeOf → List NumberedOf
changes_from rules caller from cs = filter (λ c. nat_le from c.number) (numbered 1 (seen rules caller cs))

-- ---- queries, which change nothing

-- what is read of a zone, or that there is no zone
abbrev pub of_zone : Option Held → (Held → ReplyOf) → ReplyOf
of_zone None reads = not_auth
of_zone (Some held) reads = reads held

abbrev pub list_reply : List Rule → List ℕ → Held → ReplyOf
list_reply rules caller held = records (listed rules caller (listing held.records))

abbrev pub list_within_reply : List Rule → List ℕ → List (List ℕ) → List (List ℕ) → Held → ReplyOf
list_within_reply rules caller origin top held =
    if is_within top origin then records (listed rules caller (listing (part held.records (within top)))) else not_zone

abbrev pub file_reply : List Rule → List ℕ → List (List ℕ) → Held → ReplyOf
file_reply rules caller origin held = file origin (listed rules caller (listing held.records))

abbrev pub delegations_reply : List Rule → List ℕ → List (List ℕ) → Held → ReplyOf
delegations_reply rules caller origin held = delegations (report origin (listed rules caller (listing held.records)))

abbrev pub changes_reply : List Rule → List ℕ → ℕ → Held → ReplyOf
changes_reply rules caller from held = changes (changes_from rules caller from held.changes)

-- what is replied to a query
abbrev pub query_reply : List Rule → State → List ℕ → Query → ReplyOf
query_reply rules s caller (queries.List origin) = of_zone (s.zones origin) (list_reply rules caller)
query_reply rules s caller (queries.ListWithin origin top) = of_zone (s.zones origin) (list_within_reply rules caller origin top)
query_reply rules s caller (queries.File origin) = of_zone (s.zones origin) (file_reply rules caller origin)
query_reply rules s caller (queries.Delegations origin) = of_zone (s.zones origin) (delegations_reply rules caller origin)
query_reply rules s caller (queries.Changes origin from) = of_zone (s.zones origin) (changes_reply rules caller from)
query_reply rules s caller (queries.Rights name record_type asked) = right (decision (question caller name record_type asked) rules)

-- ---- updates

-- the first item whose name is outside the origin
abbrev pub outside_reply : List (List ℕ) → UpdateOf → Option UpdateReply
outside_reply origin update = option_map NotZone (first_outside origin update)

abbrev pub refused_by : DenialOf → UpdateReply
refused_by denial = Refused denial.place denial.by

-- the first point that is not granted
abbrev pub denied_reply : List Rule → List ℕ → List (List ℕ) → UpdateOf → Option UpdateReply
denied_reply rules caller origin update = option_map refused_by (first_denial rules caller (footprint origin update))

-- the first prerequisite that does not hold
abbrev pub failed_reply : Records → UpdateOf → Option UpdateReply
failed_reply set update = option_map Failed (verdict set update.prerequisites)

-- why an update of a zone is not made: the first that applies of its names, the policy and its prerequisites
abbrev pub zone_refusal : List Rule → List ℕ → List (List ℕ) → UpdateOf → Held → Option UpdateReply
zone_refusal rules caller origin update held =
    option_or (outside_reply origin update) (option_or (denied_reply rules caller origin update) (failed_reply held.records update))

-- and before them, that there is no zone
abbrev pub refusal : List Rule → List ℕ → List (List ℕ) → UpdateOf → Option Held → Option UpdateReply
refusal rules caller origin update None = Some NotAuth
refusal rules caller origin update (Some held) = zone_refusal rules caller origin update held

-- the changes of a zone, with one more where it differs
abbrev pub with_change : Records → Records → List ChangeOf → List ChangeOf
with_change before after cs = if is_same before after then cs else cs ++ change_between before after ∷ []

-- the records of a zone after an update (RFC 2136 section 3.4.2), with what that changed
abbrev pub held_after : List (List ℕ) → UpdateOf → Held → Held
held_after origin update held =
    let after = (zone_after (zone_held origin held) update).records in record { records = after; changes = with_change held.records after held.changes }

-- the receipt of an update that is answered so
abbrev pub receipt : List (List ℕ) → UpdateOf → UpdateReply → Receipt
receipt origin update reply = record { origin = origin; update = update; reply = reply }

-- ---- one step

-- a reply, and the state after it
pub record Turn : Type 0 where
  pub reply : ReplyOf
  pub after : State

-- a reply that leaves the state as it was
abbrev pub unchanged : State → ReplyOf → Turn
unchanged s reply = record { reply = reply; after = s }

-- the reply of a receipt, where it is of the same update; another update under the same identifier is not made
abbrev pub again : List (List ℕ) → UpdateOf → Receipt → ReplyOf
again origin update kept = if same_name kept.origin origin && same_update kept.update update then to_update kept.reply else id_reused

-- an update without a receipt: it is refused, or made whole
abbrev pub answered : State → List ℕ → List ℕ → List (List ℕ) → UpdateOf → Option UpdateReply → Turn
answered s caller id origin update (Some reply) = record { reply = to_update reply; after = keep s caller id (receipt origin update reply) }
answered s caller id origin update None =
    record { reply = to_update NoError; after = keep (hold s origin (option_map (held_after origin update) (s.zones origin))) caller id (receipt origin update NoError) }

-- an update, by the receipt that there is under its identifier
abbrev pub updated : List Rule → State → List ℕ → List ℕ → List (List ℕ) → UpdateOf → Option Receipt → Turn
updated rules s caller id origin update (Some kept) = unchanged s (again origin update kept)
updated rules s caller id origin update None = answered s caller id origin update (refusal rules caller origin update (s.zones origin))

-- a request of a caller
abbrev pub step : List Rule → State → List ℕ → Request → Turn
step rules s caller (requests.Update origin id update) = updated rules s caller id origin update (s.receipts caller id)
step rules s caller (requests.Read query) = unchanged s (query_reply rules s caller query)

-- ---- what a step makes

-- the operations of an update that is made now
abbrev pub made_now : Option Receipt → Option UpdateReply → UpdateOf → List Operation
made_now None None update = update.operations
made_now None (Some reply) update = []
made_now (Some kept) refused update = []

-- the operations that a step makes
abbrev pub made : List Rule → State → List ℕ → Request → List Operation
made rules s caller (requests.Update origin id update) = made_now (s.receipts caller id) (refusal rules caller origin update (s.zones origin)) update
made rules s caller request = []
