-- What the calls that part a text answer.
use Rattle.std.specs.Prelude.{◌≡◌, ℕ, List, [], ◌∷◌, ◌++◌, drop, Option, Some, None, Result, Ok, Err}
use Rattle.dns_data.specs.declared.record.Record.{Record}
use Rattle.dns_data.specs.Items.{ItemText}
use Rattle.dns_master.specs.declared.entry_fault.EntryFault.{EntryFault}
use Rattle.dns_master.specs.declared.other.OtherLead.{OtherLead}
use Rattle.dns_master.specs.declared.parting.Parting.{Parting}
use Rattle.dns_master.specs.EntryFaults.{RefusesEntry}
use Rattle.dns_master.specs.FileViews.{force_of}
use Rattle.dns_master.specs.AnyRecords.{AnyTaken, OtherLead as LeadOf, StatedOther as OtherOf}
use Rattle.dns_master.specs.Joined.{joined_line}
use Rattle.dns_master.specs.Parting.{line_of, records_in, any_text, origin_after}

-- a TTL, a word for a type and the items of data
abbrev pub lead_with : Option ℕ → List ℕ → List ItemText → LeadOf
lead_with ttl kind fields = record { ttl = ttl; kind = kind; fields = fields }

-- the same of items of which the first is the word
abbrev pub lead_at : Option ℕ → List ItemText → LeadOf
lead_at ttl [] = lead_with ttl [] []
lead_at ttl (item ∷ items) = lead_with ttl item.raw items

-- the octets of the first item
abbrev pub first_raw : List ItemText → List ℕ
first_raw [] = []
first_raw (item ∷ items) = item.raw

-- what a call answered of the lead of these items
abbrev pub lead_view : List ItemText → OtherLead → LeadOf
lead_view items lead = lead_at lead.ttl (drop lead.before items)

-- a record of another type that is stated so
abbrev pub other_stated : Option (List (List ℕ)) → LeadOf → OtherOf
other_stated owner lead = record { owner = owner; ttl = lead.ttl; kind = lead.kind; fields = lead.fields }

-- ---- lines

-- the line of a record of another type with the owner and the TTL of this record
abbrev pub line_with : Record → List ℕ → List ItemText → List ℕ
line_with r kind fields = joined_line (line_of r.owner r.ttl kind fields)

-- the same of a record, if there is one
abbrev pub line_if : Option Record → List ℕ → List ItemText → List ℕ
line_if None kind fields = []
line_if (Some r) kind fields = line_with r kind fields

-- ---- entries

-- an entry was taken so: the lines of its record were put after the text, if it is of the part
pub record TakesPart (old new : Parting) (t : AnyTaken) : Type 0 where
  pub part : new.part ≡ old.part
  pub in_force : force_of new.file ≡ t.0
  pub text : new.text.items ≡ old.text.items ++ any_text old.origin (records_in old.part t.1)
  pub origin : new.origin ≡ origin_after old.origin (records_in old.part t.1)

-- what an entry makes was taken, or refused
abbrev pub TakesAny : Parting → Parting → Result AnyTaken EntryFault → Result (Unit {0}) EntryFault → Type 0
TakesAny old new read (Ok done) = (t : AnyTaken) × (read ≡ Ok t) × TakesPart old new t
TakesAny old new read (Err e) = RefusesEntry e read
