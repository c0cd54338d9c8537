-- Replies: their codes, and what the program sees of them.
use Rattle.std.specs.Prelude.{ℕ, List, map, Option, Some, None}
use Rattle.dns_data.specs.declared.record.Record.{Record}
use Rattle.grant_policy.specs.Decisions.{Verdict, granted, denied}
use Rattle.zone_core.specs.declared.rcode.Rcode.{Rcode}
use Rattle.zone_core.specs.declared.rcode.Rcode.TheVariants as codes
use Rattle.zone_core.specs.Rcodes.{rcode_of}
use Rattle.zone_core.specs.Changes.{ChangeOf}
use Rattle.zone_core.specs.Delegations.{DelegationOf, report_of}
use Rattle.office_model.specs.declared.reply.UpdateReply.{UpdateReply}
use Rattle.office_model.specs.declared.reply.UpdateReply.TheVariants as updates
use Rattle.office_model.specs.declared.reply.Right.{Right}
use Rattle.office_model.specs.declared.reply.Right.TheVariants as rights
use Rattle.office_model.specs.declared.reply.NumberedChange.{NumberedChange}
use Rattle.office_model.specs.declared.reply.SeenChange.{SeenChange}
use Rattle.office_model.specs.declared.reply.Reply.{Reply}
use Rattle.office_model.specs.declared.reply.Reply.TheVariants as replies
use Rattle.office_model.specs.declared.reply.Reading.{Reading}
use Rattle.office_model.specs.declared.reply.Reading.TheVariants as readings
use Rattle.office_model.specs.TableFaults.{cause, table_fault_number}

-- the code of a reply to an update (RFC 2136 section 2.2)
abbrev pub update_rcode : UpdateReply → Rcode
update_rcode updates.NoError = codes.NoError
update_rcode updates.NotAuth = codes.NotAuth
update_rcode (updates.NotZone place) = codes.NotZone
update_rcode (updates.Refused place by) = codes.Refused
update_rcode (updates.Failed failed) = rcode_of failed.code

-- ---- what the machine replies

-- what a caller sees of a change, and its number among those of which it sees something
pub record NumberedOf : Type 0 where
  pub number : ℕ
  pub removed : List Record
  pub added : List Record

-- A reply: to an update, or that its identifier was given to another before; that there is no such zone, or that a name is
-- outside it; records; a master file's origin and records; delegations; changes; what the policy decides.
pub data ReplyOf : Type 0 where
  to_update : UpdateReply → ReplyOf
  id_reused : ReplyOf
  not_auth : ReplyOf
  not_zone : ReplyOf
  records : List Record → ReplyOf
  file : List (List ℕ) → List Record → ReplyOf
  delegations : List DelegationOf → ReplyOf
  changes : List NumberedOf → ReplyOf
  right : Verdict → ReplyOf

-- ---- what the program sees of its own

abbrev pub right_of : Right → Verdict
right_of (rights.Granted id) = granted id
right_of (rights.Denied by) = denied by

abbrev pub seen_in : SeenChange → ChangeOf
seen_in c = record { removed = c.removed; added = c.added }

abbrev pub numbered_of : NumberedChange → NumberedOf
numbered_of c = record { number = c.number; removed = c.change.removed; added = c.change.added }

-- what was read
abbrev pub reading_of : Reading → ReplyOf
reading_of (readings.Records rs) = records rs.items
reading_of (readings.File origin rs) = file origin rs.items
reading_of (readings.Delegations ds) = delegations (map report_of ds.items)
reading_of (readings.Changes cs) = changes (map numbered_of cs.items)
reading_of (readings.Right r) = right (right_of r)

-- a reply of the machine; none where the table failed or memory ran out
abbrev pub reply_of : Reply → Option ReplyOf
reply_of (replies.Update reply) = Some (to_update reply)
reply_of replies.IdReused = Some id_reused
reply_of (replies.Servfail fault) = None
reply_of replies.NotAuth = Some not_auth
reply_of replies.NotZone = Some not_zone
reply_of (replies.Read reading) = Some (reading_of reading)

-- the published number of a refusal that has no response code
abbrev pub reply_refusal : Reply → Option ℕ
reply_refusal (replies.Update reply) = None
reply_refusal replies.IdReused = Some 61
reply_refusal (replies.Servfail fault) = Some (table_fault_number (cause fault))
reply_refusal replies.NotAuth = None
reply_refusal replies.NotZone = None
reply_refusal (replies.Read reading) = None
