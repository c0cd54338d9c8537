-- The bodies of replies: JSON objects whose keys stand in byte order, and for a file the text of its zone.
use Rattle.std.specs.Prelude.{ℕ, List, [], ◌∷◌, map, codes, decimal, Option, Some, None}
use Rattle.dns_names.specs.Spelling.{name_text}
use Rattle.dns_data.specs.declared.record.Record.{Record}
use Rattle.dns_data.specs.Text.{record_line}
use Rattle.dns_master.specs.ZoneText.{zone_text}
use Rattle.zone_core.specs.declared.rcode.Rcode.{Rcode}
use Rattle.zone_core.specs.declared.rcode.Rcode.TheVariants as rcodes
use Rattle.zone_core.specs.declared.update.ItemList.{ItemList}
use Rattle.zone_core.specs.declared.update.ItemList.TheVariants.{Prerequisites}
use Rattle.zone_core.specs.declared.report.Glue.{Glue}
use Rattle.zone_core.specs.declared.report.Glue.TheVariants.{Outside, Listed, Unlisted}
use Rattle.zone_core.specs.declared.report.DelegatedServer.{DelegatedServer}
use Rattle.zone_core.specs.declared.report.Delegation.{Delegation}
use Rattle.zone_core.specs.Kinds.{list_word}
use Rattle.zone_core.specs.Rcodes.{rcode_number, rcode_text, rcode_of}
use Rattle.office_model.specs.declared.reply.UpdateReply.{UpdateReply}
use Rattle.office_model.specs.declared.reply.UpdateReply.TheVariants as updates
use Rattle.office_model.specs.declared.reply.Right.{Right}
use Rattle.office_model.specs.declared.reply.Right.TheVariants.{Granted, Denied}
use Rattle.office_model.specs.declared.reply.NumberedChange.{NumberedChange}
use Rattle.office_model.specs.declared.reply.Reply.{Reply}
use Rattle.office_model.specs.declared.reply.Reply.TheVariants as replies
use Rattle.office_model.specs.declared.reply.Reading.{Reading}
use Rattle.office_model.specs.declared.reply.Reading.TheVariants as readings
use Rattle.wire_json.specs.Json.{quoted, array, member, object}

-- ---- refusals, codes and places

-- the published number of a refusal
abbrev pub refusal_member : ℕ → List ℕ
refusal_member number = member (codes "refusal") (decimal number)

-- a refusal alone
abbrev pub refusal_body : ℕ → List ℕ
refusal_body number = object (refusal_member number ∷ [])

-- the number of a code (RFC 2136 section 2.2)
abbrev pub code_member : Rcode → List ℕ
code_member code = member (codes "code") (decimal (rcode_number code))

-- the name of a code (RFC 2136 section 2.2)
abbrev pub name_member : Rcode → List ℕ
name_member code = member (codes "name") (quoted (rcode_text code))

-- a code alone
abbrev pub code_body : Rcode → List ℕ
code_body code = object (code_member code ∷ name_member code ∷ [])

-- a body that was refused (RFC 2136 section 2.2)
abbrev pub form_error_body : ℕ → List ℕ
form_error_body number = object (code_member rcodes.FormErr ∷ name_member rcodes.FormErr ∷ refusal_member number ∷ [])

-- the number of an item in its list, from 0
abbrev pub item_member : ℕ → List ℕ
item_member item = member (codes "item") (decimal item)

-- the list of an item
abbrev pub list_member : ItemList → List ℕ
list_member list = member (codes "list") (quoted (list_word list))

-- a code, and the item that it is of
abbrev pub place_body : Rcode → ℕ → ItemList → List ℕ
place_body code item list = object (code_member code ∷ item_member item ∷ list_member list ∷ name_member code ∷ [])

-- the rule that decided, or the closing default
abbrev pub rule_of : Option (List ℕ) → List ℕ
rule_of None = codes "closing"
rule_of (Some rule) = rule

-- the rule by which it was decided
abbrev pub by_member : List ℕ → List ℕ
by_member rule = member (codes "by") (quoted rule)

-- REFUSED, by a rule, with the digits of the item's number and its list (RFC 2136 section 2.2)
abbrev pub refusing_body : List ℕ → List ℕ → List ℕ → List ℕ
refusing_body rule item list =
    object (by_member rule ∷ code_member rcodes.Refused ∷ member (codes "item") item ∷ member (codes "list") (quoted list) ∷ name_member rcodes.Refused ∷ [])

-- REFUSED, by a rule, and the item that it is of (RFC 2136 section 2.2)
abbrev pub refused_body : List ℕ → ℕ → ItemList → List ℕ
refused_body rule item list = refusing_body rule (decimal item) (list_word list)

-- a reply to an update (RFC 2136 section 3)
abbrev pub update_body : UpdateReply → List ℕ
update_body updates.NoError = code_body rcodes.NoError
update_body updates.NotAuth = code_body rcodes.NotAuth
update_body (updates.NotZone place) = place_body rcodes.NotZone place.item place.list
update_body (updates.Refused place by) = refused_body (rule_of by) place.item place.list
update_body (updates.Failed failed) = place_body (rcode_of failed.code) failed.item Prerequisites

-- ---- rights

-- that a rule decided so
abbrev pub granted_body : List ℕ → List ℕ → List ℕ
granted_body rule granted = object (by_member rule ∷ member (codes "granted") granted ∷ [])

-- what the policy decides
abbrev pub right_body : Right → List ℕ
right_body (Granted rule) = granted_body rule (codes "true")
right_body (Denied by) = granted_body (rule_of by) (codes "false")

-- ---- records and changes

-- a record as a line
abbrev pub line_value : Record → List ℕ
line_value r = quoted (record_line r)

-- records as an array of lines
abbrev pub lines_value : List Record → List ℕ
lines_value rs = array (map line_value rs)

-- records
abbrev pub records_body : List Record → List ℕ
records_body rs = object (member (codes "records") (lines_value rs) ∷ [])

-- a change with its number, the records that came and those that went
abbrev pub change_value : NumberedChange → List ℕ
change_value change =
    object (member (codes "added") (lines_value change.change.added) ∷ member (codes "number") (decimal change.number) ∷ member (codes "removed") (lines_value change.change.removed) ∷ [])

-- changes, in their order
abbrev pub changes_body : List NumberedChange → List ℕ
changes_body changes = object (member (codes "changes") (array (map change_value changes)) ∷ [])

-- ---- delegations

-- what there is of a server's glue (RFC 1034 section 4.2.1)
abbrev pub glue_text : Glue → List ℕ
glue_text Outside = codes "outside"
glue_text Listed = codes "listed"
glue_text Unlisted = codes "unlisted"

-- a server, with its glue
abbrev pub server_value : DelegatedServer → List ℕ
server_value server = object (member (codes "glue") (quoted (glue_text server.glue)) ∷ member (codes "name") (quoted (name_text server.name)) ∷ [])

-- a child and its servers
abbrev pub delegation_value : Delegation → List ℕ
delegation_value delegation =
    object (member (codes "child") (quoted (name_text delegation.child)) ∷ member (codes "servers") (array (map server_value delegation.servers.items)) ∷ [])

-- delegations, in their order
abbrev pub delegations_body : List Delegation → List ℕ
delegations_body delegations = object (member (codes "delegations") (array (map delegation_value delegations)) ∷ [])

-- ---- replies

-- the body of what was read
abbrev pub reading_body : Reading → List ℕ
reading_body (readings.Records records) = records_body records.items
reading_body (readings.File origin records) = zone_text origin records.items
reading_body (readings.Delegations delegations) = delegations_body delegations.items
reading_body (readings.Changes changes) = changes_body changes.items
reading_body (readings.Right right) = right_body right

-- the body of a reply
abbrev pub body_of : Reply → List ℕ
body_of (replies.Update reply) = update_body reply
body_of replies.IdReused = refusal_body 61
body_of (replies.Servfail fault) = code_body rcodes.ServFail
body_of replies.NotAuth = code_body rcodes.NotAuth
body_of replies.NotZone = code_body rcodes.NotZone
body_of (replies.Read reading) = reading_body reading

-- a reading whose body has at most 256 octets: that of a right
abbrev pub IsShortReading : Reading → Type 0
IsShortReading (readings.Right right) = Unit {0}
IsShortReading reading = ⊥

-- a reply whose body has at most 256 octets
abbrev pub IsShort : Reply → Type 0
IsShort (replies.Update reply) = Unit {0}
IsShort replies.IdReused = Unit {0}
IsShort (replies.Servfail fault) = Unit {0}
IsShort replies.NotAuth = Unit {0}
IsShort replies.NotZone = Unit {0}
IsShort (replies.Read reading) = IsShortReading reading
