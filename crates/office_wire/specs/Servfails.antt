-- The turns of a stream that were answered SERVFAIL, and what is noted of them.
use Rattle.std.specs.Prelude.{◌≡◌, ◌+◌, ◌-◌, ◌^◌, min, List, [], ◌∷◌, length, Some, None}
use Rattle.std.specs.List.{flat_map, last_or}
use Rattle.office_model.specs.declared.table_fault.TableFault.{TableFault}
use Rattle.office_model.specs.TableFaults.{cause}
use Rattle.office_model.specs.declared.reply.Reply.TheVariants.{Servfail}
use Rattle.office_wire.specs.declared.response.Response.{Response}
use Rattle.office_wire.specs.declared.response.Response.TheVariants.{Replied}
use Rattle.office_wire.specs.declared.servfails.Servfails.{Servfails}
use Rattle.office_wire.specs.Exchange.{Turn}

-- why a response is SERVFAIL, if it is
abbrev pub servfail_in : Response → List TableFault
servfail_in (Replied (Servfail fault)) = cause fault ∷ []
servfail_in response = []

-- why turns were answered SERVFAIL, those that were, in their order
abbrev pub servfails : List Turn → List TableFault
servfails turns = flat_map (λ t. servfail_in t.response) turns

-- a note of them: how many, as far as 64 bits count, and the last
pub record AreNoted (faults : List TableFault) (note : Servfails) : Type 0 where
  pub count : note.count ≡ min (length faults) (2 ^ 64 - 1)
  pub last : note.last ≡ last_or None faults

-- ---- one after the other

-- nothing is noted
abbrev pub none_noted : Servfails
none_noted = record { count = 0; last = None }

-- one more is noted
abbrev pub one_more : Servfails → TableFault → Servfails
one_more note fault = record { count = min (note.count + 1) (2 ^ 64 - 1); last = Some fault }

-- these are noted after others
abbrev pub noted : Servfails → List TableFault → Servfails
noted note [] = note
noted note (fault ∷ faults) = noted (one_more note fault) faults
