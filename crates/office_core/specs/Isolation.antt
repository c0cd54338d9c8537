-- Isolation: a caller's replies are those that it would get alone, as long as others change nothing at its own names.
use Rattle.std.specs.Prelude.{◌≡◌, ◌≢◌, ℕ, List, [], ◌∷◌, map, bytes_eq, Some}
use Rattle.std.specs.List.{filter, AllByRecursion}
use Rattle.dns_names.specs.Labels.{IsName}
use Rattle.dns_data.specs.declared.record_type.RecordType.{RecordType}
use Rattle.dns_data.specs.declared.record_type.RecordType.TheVariants as types
use Rattle.grant_policy.specs.declared.action.Action.{Action}
use Rattle.grant_policy.specs.declared.action.Action.TheVariants as action
use Rattle.grant_policy.specs.declared.rule.Rule.{Rule}
use Rattle.grant_policy.specs.Decisions.{HasRight}
use Rattle.grant_policy.specs.Isolated.{ChangesRecords, IsIsolated}
use Rattle.zone_core.specs.Updates.{acted_name}
use Rattle.zone_core.specs.Visibility.{IsInvisible}
use Rattle.office_model.specs.declared.request.Request.{Request}
use Rattle.office_model.specs.declared.request.Request.TheVariants as requests
use Rattle.office_model.specs.declared.request.Call.{Call}
use Rattle.office_model.specs.Replies.{ReplyOf}
use Rattle.office_model.specs.States.{State, Held, AreZones}
use Rattle.office_core.specs.Permissions.{IsGranted}
use Rattle.office_core.specs.Machine.{made}
use Rattle.office_core.specs.Runs.{Answer, turn, answers, HaveUpdates}

-- ---- a caller by itself

-- the requests of a caller
abbrev pub asked_by : List ℕ → List Call → List Call
asked_by caller calls = filter (λ call. bytes_eq call.caller caller) calls

-- the replies to it
abbrev pub replies_to : List ℕ → List Answer → List ReplyOf
replies_to caller all = map (λ a. a.reply) (filter (λ a. bytes_eq a.caller caller) all)

-- its replies among all calls are those to its calls alone
abbrev pub IsAnsweredAlone : List Rule → List ℕ → State → List Call → Type 0
IsAnsweredAlone rules caller s calls = replies_to caller (answers rules s calls) ≡ replies_to caller (answers rules s (asked_by caller calls))

-- ---- what it may do

-- its own names: those at which some action with some type is granted to it
abbrev pub IsOwn : List Rule → List ℕ → List (List ℕ) → Type 0
IsOwn rules caller name = HasRight rules caller name

-- it has no right on the SOA at the origin of a zone
abbrev pub HasNoSoaRight : List Rule → List ℕ → State → Type 0
HasNoSoaRight rules caller s =
    (origin : List (List ℕ)) (held : Held) → s.zones origin ≡ Some held → (asked : Action) → ¬ IsGranted rules caller origin types.Soa asked

-- it may neither list nor check the SOA at the origin of a zone, whatever else it may do with it
pub record IsBlindAt (rules : List Rule) (caller : List ℕ) (origin : List (List ℕ)) : Type 0 where
  pub unlisted : ¬ IsGranted rules caller origin types.Soa action.List
  pub unchecked : ¬ IsGranted rules caller origin types.Soa action.Check

abbrev pub SeesNoSoa : List Rule → List ℕ → State → Type 0
SeesNoSoa rules caller s = (origin : List (List ℕ)) (held : Held) → s.zones origin ≡ Some held → IsBlindAt rules caller origin

-- ---- what others do

-- the origin of the zone that a request changes, if it does: a query changes none
abbrev pub origin_of : Request → List (List ℕ)
origin_of (requests.Update origin id update) = origin
origin_of (requests.Read query) = []

-- each operation that is made for another caller acts at a name that is not the caller's own
abbrev pub OthersStayAway : List Rule → List ℕ → State → List Call → Type 0
OthersStayAway rules caller s [] = Unit {0}
OthersStayAway rules caller s (call ∷ calls) =
    (call.caller ≢ caller → AllByRecursion (λ op. ¬ IsOwn rules caller (acted_name op)) (made rules s call.caller call.request))
    × OthersStayAway rules caller (turn rules s call).after calls

-- the same, but others may add an SOA at a zone's origin, whoever's own name that is
abbrev pub OthersStayInvisible : List Rule → List ℕ → State → List Call → Type 0
OthersStayInvisible rules caller s [] = Unit {0}
OthersStayInvisible rules caller s (call ∷ calls) =
    (call.caller ≢ caller → AllByRecursion (IsInvisible (IsOwn rules caller) (origin_of call.request)) (made rules s call.caller call.request))
    × OthersStayInvisible rules caller (turn rules s call).after calls

-- the policy grants no other caller to change records at a name of the caller's own
abbrev pub OthersMayNot : List Rule → List ℕ → Type 0
OthersMayNot rules caller =
    (other : List ℕ) (name : List (List ℕ)) (record_type : RecordType) (asked : Action)
    → other ≢ caller → IsName name → IsOwn rules caller name → ChangesRecords asked → ¬ IsGranted rules other name record_type asked

-- ---- the laws

-- What calls were answered tells each caller what it would be told alone: one that has no right on an SOA where others stay away
-- from its names; one that sees no SOA where others stay invisible at its names, or where the policy lets none of them change anything
-- there.
pub record AreAnsweredAlone (rules : List Rule) (s : State) (calls : List Call) (given : List Answer) : Type 0 where
  pub by_rights : (caller : List ℕ) → HasNoSoaRight rules caller s → OthersStayAway rules caller s calls → replies_to caller given ≡ replies_to caller (answers rules s (asked_by caller calls))
  pub by_visibility : (caller : List ℕ) → SeesNoSoa rules caller s → OthersStayInvisible rules caller s calls → replies_to caller given ≡ replies_to caller (answers rules s (asked_by caller calls))
  pub by_policy : (caller : List ℕ) → SeesNoSoa rules caller s → OthersMayNot rules caller → replies_to caller given ≡ replies_to caller (answers rules s (asked_by caller calls))

-- A caller that has no right on an SOA is told what it would be told alone, where others stay away from its names.
abbrev pub CallersAreAlone : Type 0
CallersAreAlone =
    (rules : List Rule) (caller : List ℕ) (s : State) (calls : List Call)
    → AreZones s → HaveUpdates calls → HasNoSoaRight rules caller s → OthersStayAway rules caller s calls → IsAnsweredAlone rules caller s calls

-- It is enough that it sees no SOA, and others do no harm by adding an SOA at an origin.
abbrev pub BlindCallersAreAlone : Type 0
BlindCallersAreAlone =
    (rules : List Rule) (caller : List ℕ) (s : State) (calls : List Call)
    → AreZones s → HaveUpdates calls → SeesNoSoa rules caller s → OthersStayInvisible rules caller s calls → IsAnsweredAlone rules caller s calls

-- By the policy alone, whatever is requested.
abbrev pub PoliciesKeepAlone : Type 0
PoliciesKeepAlone =
    (rules : List Rule) (caller : List ℕ) (s : State) (calls : List Call)
    → AreZones s → HaveUpdates calls → SeesNoSoa rules caller s → OthersMayNot rules caller → IsAnsweredAlone rules caller s calls

-- So by one fact of the policy, which is decided of each policy: a caller that it isolates is told what it would be told alone.
abbrev pub IsolatedCallersAreAlone : Type 0
IsolatedCallersAreAlone =
    (rules : List Rule) (caller : List ℕ) (s : State) (calls : List Call)
    → AreZones s → HaveUpdates calls → IsIsolated rules caller → IsAnsweredAlone rules caller s calls
