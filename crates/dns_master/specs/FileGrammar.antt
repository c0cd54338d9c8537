-- Which records a text has (RFC 1035 section 5.1, RFC 2308 section 4): its entries, what each states where the origin before it
-- is in force, and the record of each that states one.
use Rattle.std.specs.Prelude.{◌≡◌, ℕ, suc, List, [], ◌∷◌, Some}
use Rattle.dns_data.specs.declared.record.Record.{Record}
use Rattle.dns_master.specs.declared.statement.StatedRecord.{StatedRecord}
use Rattle.dns_master.specs.declared.statement.Statement.{Statement}
use Rattle.dns_master.specs.declared.statement.Statement.TheVariants as statements
use Rattle.dns_master.specs.EntryTexts.{EntryText, AreEntries}
use Rattle.dns_master.specs.InForce.{InForce, AreInForce, or_else, ttl_in_force}
use Rattle.dns_master.specs.EntryGrammar.{States}

-- A record, by what is in force before its entry and after it: its owner is the one stated, else the last one stated.
pub record IsRecordOf (stated : StatedRecord) (before behind : InForce) (r : Record) : Type 0 where
  pub owner : or_else stated.owner before.owner ≡ Some r.owner
  pub ttl : ttl_in_force stated.ttl before behind ≡ Some r.ttl
  pub rdata : r.rdata ≡ stated.rdata

-- the records of entries from this number on, one for each that states one
abbrev pub AreRecords : (ℕ → InForce) → ℕ → List Statement → List Record → Type 0
AreRecords before k [] records = records ≡ []
AreRecords before k ((statements.Record stated) ∷ others) [] = ⊥
AreRecords before k ((statements.Record stated) ∷ others) (r ∷ records) =
    IsRecordOf stated (before k) (before (suc k)) r × AreRecords before (suc k) others records
AreRecords before k (s ∷ others) records = AreRecords before (suc k) others records

-- what each of the entries from this number on states
abbrev pub AreStated : (ℕ → InForce) → ℕ → List EntryText → List Statement → Type 0
AreStated before k [] statements = statements ≡ []
AreStated before k (e ∷ es) [] = ⊥
AreStated before k (e ∷ es) (s ∷ statements) = States (before k).origin e.white e.items s × AreStated before (suc k) es statements

-- The records of a text where this origin is handed in: one for each entry that states one, in order.
pub record IsFile (text : List ℕ) (origin : List (List ℕ)) (records : List Record) : Type 0 where
  pub of_entries : List EntryText
  pub statements : List Statement
  pub before : ℕ → InForce
  pub entries_are : AreEntries text of_entries
  pub in_force : AreInForce statements origin before
  pub are_stated : AreStated before 0 of_entries statements
  pub are_records : AreRecords before 0 statements records
