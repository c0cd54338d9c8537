-- Responses that fit the room that is taken before the first read.
use Rattle.std.specs.Prelude.{◌≡◌, ℕ, Bool, true, false, List}
use Rattle.office_model.specs.declared.table_fault.TableFault.TheVariants.{NoMemory}
use Rattle.office_model.specs.declared.table_fault.StepFault.TheVariants.{BeforeCommit}
use Rattle.office_model.specs.declared.reply.Reply.TheVariants.{Servfail}
use Rattle.wire_json.specs.Replies.{IsShort}
use Rattle.office_wire.specs.declared.method.Method.{Method}
use Rattle.office_wire.specs.declared.response.Response.{Response}
use Rattle.office_wire.specs.declared.response.Response.TheVariants.{Refused, BadBody, Replied}
use Rattle.office_wire.specs.Texts.{text_of}

-- a response whose body has at most 256 octets
abbrev pub IsShortResponse : Response → Type 0
IsShortResponse (Refused refusal) = Unit {0}
IsShortResponse (BadBody number) = Unit {0}
IsShortResponse (Replied reply) = IsShort reply

-- SERVFAIL when out of memory
abbrev pub servfail : Response
servfail = Replied (Servfail (BeforeCommit NoMemory))

-- The text of a response stands there; in place of one that is not short, where there was no memory for it, that of SERVFAIL.
abbrev pub IsPut : Method → Response → Bool → Bool → List ℕ → Type 0
IsPut method response closing true text = text ≡ text_of method response closing
IsPut method response closing false text = (IsShortResponse response → ⊥) × (text ≡ text_of method servfail closing)
