-- What a head and a body ask of the office, with the refusal that comes first: the caller, the route, the parts of the path, the
-- body.
use Rattle.std.specs.Prelude.{◌≡◌, ℕ, List, Option, Some, None, option_and_then, Result, Ok, Err, codes}
use Rattle.httparse.specs.Grammar.{RequestHead}
use Rattle.dns_names.specs.declared.name_fault.NameFault.{NameFault}
use Rattle.dns_names.specs.declared.name_fault.NameFault.TheVariants as names
use Rattle.dns_names.specs.Reading.{absolute_name}
use Rattle.dns_data.specs.declared.record_type.RecordType.{RecordType}
use Rattle.dns_data.specs.Types.{type_named}
use Rattle.grant_policy.specs.declared.action.Action.{Action}
use Rattle.grant_policy.specs.Words.{action_of}
use Rattle.grant_policy.specs.Reading.{identifier_of}
use Rattle.office_model.specs.declared.request.Call.{Call}
use Rattle.office_model.specs.declared.request.Request.{Request}
use Rattle.office_model.specs.declared.request.Request.TheVariants as requests
use Rattle.office_model.specs.declared.request.Query.TheVariants as queries
use Rattle.wire_json.specs.declared.body.UpdateBody.{UpdateBody}
use Rattle.wire_json.specs.declared.body_fault.BodyFault.{BodyFault}
use Rattle.wire_json.specs.declared.body_fault.BodyFault.TheVariants as bodies
use Rattle.wire_json.specs.Faults.{fault_number}
use Rattle.wire_json.specs.Reading.{update_of_body, delegation_of_body}
use Rattle.office_wire.specs.declared.method.Method.{Method}
use Rattle.office_wire.specs.declared.refusal.Refusal.{Refusal}
use Rattle.office_wire.specs.declared.refusal.Refusal.TheVariants.{NoCaller, NoRoute, BadPart}
use Rattle.office_wire.specs.declared.request_fault.RequestFault.{RequestFault}
use Rattle.office_wire.specs.declared.request_fault.RequestFault.TheVariants.{Refused, BadBody, NoMemory}
use Rattle.office_wire.specs.declared.route.Route.{Route}
use Rattle.office_wire.specs.declared.route.Route.TheVariants as routes
use Rattle.office_wire.specs.Fields.{fields_of, values_of, only, number_of}
use Rattle.office_wire.specs.Lengths.{method_of}
use Rattle.office_wire.specs.Routes.{route_of}
use Rattle.office_wire.specs.Parts.{decoded_part}

-- the next step, unless there is a fault
infixl 10 ◌>>=◌
abbrev pub ◌>>=◌ : {A B : Type 0} → Result A RequestFault → (A → Result B RequestFault) → Result B RequestFault
(Ok x) >>= f = f x
(Err e) >>= f = Err e

-- what a call refused with is the refusal of the definition; out of memory says nothing of the definition
abbrev pub Refuses : {Y : Type 0} → RequestFault → Result Y RequestFault → Type 0
Refuses NoMemory read = Unit {0}
Refuses fault read = read ≡ Err fault

-- what a call answered is what the definition gives, unless memory ran out
abbrev pub Gives : {X : Type 0} → Result X RequestFault → Result X RequestFault → Type 0
Gives (Ok x) read = read ≡ Ok x
Gives (Err e) read = Refuses e read

-- a value that is there, or else this refusal
abbrev pub or_refused : {A : Type 0} → Refusal → Option A → Result A RequestFault
or_refused r None = Err (Refused r)
or_refused r (Some x) = Ok x

-- a part that is no name
abbrev pub of_name : NameFault → RequestFault
of_name names.NoMemory = NoMemory
of_name fault = Refused BadPart

-- a body that is refused, by its published number
abbrev pub of_body : BodyFault → RequestFault
of_body bodies.NoMemory = NoMemory
of_body fault = BadBody (fault_number fault)

-- what a definition of names gives
abbrev pub of_names : {A : Type 0} → Result A NameFault → Result A RequestFault
of_names (Ok x) = Ok x
of_names (Err fault) = Err (of_name fault)

-- what a definition of bodies gives
abbrev pub of_bodies : {A : Type 0} → Result A BodyFault → Result A RequestFault
of_bodies (Ok x) = Ok x
of_bodies (Err fault) = Err (of_body fault)

-- ---- the caller

-- the value of the only field that names a caller
abbrev pub caller_text : RequestHead → Option (List ℕ)
caller_text h = only (values_of (codes "x-office-caller") (fields_of h))

-- the caller: an identifier
abbrev pub caller_in : Option (List ℕ) → Result (List ℕ) RequestFault
caller_in text = or_refused NoCaller (option_and_then identifier_of text)

-- ---- the parts of a path

-- an absolute name (RFC 1035 section 5.1)
abbrev pub name_in : List ℕ → Result (List (List ℕ)) RequestFault
name_in text = of_names (absolute_name text)

-- a number of 32 bits
abbrev pub number_in : List ℕ → Result ℕ RequestFault
number_in text = or_refused BadPart (number_of 4294967295 text)

-- a record type by its name, in either letter case
abbrev pub type_in : List ℕ → Result RecordType RequestFault
type_in text = or_refused BadPart (type_named text)

-- an action by its word
abbrev pub action_in : List ℕ → Result Action RequestFault
action_in text = or_refused BadPart (action_of text)

-- ---- requests

-- the update that a body asks for in the zone of an origin
abbrev pub update_in : List (List ℕ) → Result UpdateBody RequestFault → Result Request RequestFault
update_in origin read = read >>= λ b. Ok (requests.Update origin b.id b.update)

-- the zone of a path
abbrev pub zone_in : (List ℕ → List ℕ) → Result (List (List ℕ)) RequestFault
zone_in parts = name_in (parts (codes "{zone}"))

-- the request of a route, by the parts of the path, which have the names of the route's row, and the body
abbrev pub request_by : Route → (List ℕ → List ℕ) → List ℕ → Result Request RequestFault
request_by routes.Update parts body = zone_in parts >>= λ origin. update_in origin (of_bodies (update_of_body body))
request_by routes.Delegate parts body = zone_in parts >>= λ origin. update_in origin (of_bodies (delegation_of_body origin body))
request_by routes.Delegations parts body = zone_in parts >>= λ origin. Ok (requests.Read (queries.Delegations origin))
request_by routes.Records parts body = zone_in parts >>= λ origin. Ok (requests.Read (queries.List origin))
request_by routes.RecordsWithin parts body =
    zone_in parts >>= λ origin. name_in (parts (codes "{name}")) >>= λ top. Ok (requests.Read (queries.ListWithin origin top))
request_by routes.File parts body = zone_in parts >>= λ origin. Ok (requests.Read (queries.File origin))
request_by routes.Changes parts body =
    zone_in parts >>= λ origin. number_in (parts (codes "{from}")) >>= λ from. Ok (requests.Read (queries.Changes origin from))
request_by routes.Rights parts body =
    name_in (parts (codes "{name}")) >>= λ name. type_in (parts (codes "{type}")) >>= λ record_type.
    action_in (parts (codes "{action}")) >>= λ action. Ok (requests.Read (queries.Rights name record_type action))

-- the call that a caller's text, a method, a target and a body are, or the refusal that comes first
unfoldable pub call_by : Option (List ℕ) → Method → List ℕ → List ℕ → Result Call RequestFault
call_by text method target body =
    caller_in text >>= λ caller. or_refused NoRoute (route_of method target) >>= λ row.
    request_by row.0 (decoded_part row.1 target) body >>= λ request. Ok (record { caller = caller; request = request })

-- the same of a head and a body
unfoldable pub call_of : RequestHead → List ℕ → Result Call RequestFault
call_of h body = call_by (caller_text h) (method_of h.method) h.target body
