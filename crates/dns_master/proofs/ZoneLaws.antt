-- The printed text of a zone has its records.
use Rattle.std.proofs.Common.{◌≡◌, ℕ, suc, ◌<◌, ◌^◌, inl, inr, Bool, true, false, not, eqb, List, [], ◌∷◌, ◌++◌, map, Some, refl, sym, ap, subst, ◌∙◌, arith}
use Rattle.std.proofs.lemmas.Bool.{agree_below_at}
use Rattle.std.specs.Prelude.{codes, decimal}
use Rattle.std.specs.List.{AllByRecursion, flat_map}
use Rattle.dns_names.specs.Labels.{IsFolded, IsName}
use Rattle.dns_names.specs.Spelling.{name_text, label_text, octet_text}
use Rattle.dns_names.proofs.ReadingLaws.{text_spells}
use Rattle.dns_data.specs.declared.record.Record.{Record}
use Rattle.dns_data.specs.Items.{ItemText, plain}
use Rattle.dns_data.specs.Types.{type_text}
use Rattle.dns_data.specs.Rdata.{type_of, IsRecord}
use Rattle.dns_data.specs.Text.{data_items, record_items}
use Rattle.dns_data.proofs.NumberLaws.{decimal_is_number}
use Rattle.dns_data.proofs.DataLaws.{data_relative, data_spells}
use Rattle.dns_master.specs.declared.statement.StatedRecord.{StatedRecord}
use Rattle.dns_master.specs.declared.statement.Statement.{Statement}
use Rattle.dns_master.specs.declared.statement.Statement.TheVariants as statements
use Rattle.dns_master.specs.Entries.{Entry, entries}
use Rattle.dns_master.specs.Reader.{text_of}
use Rattle.dns_master.specs.Statements.{begins_with_dollar}
use Rattle.dns_master.specs.InForce.{InForce, handed_in}
use Rattle.dns_master.specs.EntryGrammar.{States}
use Rattle.dns_master.specs.FileGrammar.{AreRecords, AreStated, IsFile}
use Rattle.dns_master.specs.ZoneText.{ended_line, zone_text}
use Rattle.dns_master.proofs.CarriedLaws.{carried, carried_in_force}
use Rattle.dns_master.proofs.CutLaws.{view, entries_are}
use Rattle.dns_master.proofs.CleanLaws.{name_clean, number_clean, type_clean, data_clean}
use Rattle.dns_master.proofs.LineLaws.{line_text, CleanLine, AreLines, lines_read}

-- ---- a printed name makes no directive

-- the first octet is there, and no `$`
abbrev pub starts_other : List ℕ → Bool
starts_other [] = false
starts_other (o ∷ rest) = not (eqb o 36)

pub starts_more : (a b : List ℕ) → starts_other a ≡ true → starts_other (a ++ b) ≡ true
starts_more [] b e = absurd cc
starts_more (o ∷ a) b e = e

pub no_dollar : (text : List ℕ) → starts_other text ≡ true → begins_with_dollar text ≡ false
no_dollar [] e = refl
no_dollar (o ∷ rest) e = not_true (eqb o 36) e
  where
    not_true : (b : Bool) → not b ≡ true → b ≡ false
    not_true false p = refl
    not_true true p = absurd cc

label_starts : (label : List ℕ) → AllByRecursion IsFolded label → starts_other (label_text label) ≡ true
label_starts [] h = refl
label_starts (o ∷ label) h =
    starts_more (octet_text o ++ flat_map octet_text label) (46 ∷ []) (starts_more (octet_text o) (flat_map octet_text label) (agree_below_at (λ n. starts_other (octet_text n)) (λ n. true) 256 o refl h.0.below))

pub name_starts : (name : List (List ℕ)) → IsName name → starts_other (name_text name) ≡ true
name_starts [] is = refl
name_starts (label ∷ labels) is = starts_more (label_text label) (flat_map label_text labels) (label_starts label is.labels.0.octets)

-- ---- the lines

abbrev pub origin_items : List (List ℕ) → List ItemText
origin_items origin = plain (codes "$ORIGIN") ∷ plain (name_text origin) ∷ []

pub origin_said : (handed origin : List (List ℕ)) → IsName origin → States handed false (origin_items origin) (statements.Origin origin)
origin_said handed origin is = (codes "$ORIGIN", name_text origin, refl, refl, (is, inl (text_spells origin is)))

abbrev pub stated_of : Record → StatedRecord
stated_of r = record { owner = Some r.owner; ttl = Some r.ttl; rdata = r.rdata }

abbrev pub said : Record → Statement
said r = statements.Record (stated_of r)

pub record_said : (origin : List (List ℕ)) (r : Record) → IsRecord r → States origin false (record_items r) (said r)
record_said origin r is =
    let ttl = is.ttl in
    let small : r.ttl < 2 ^ 64 = omega arith in (
      λ d.
          let same : plain (name_text r.owner) ≡ plain (36 ∷ d.0) = cc in
          let raw : name_text r.owner ≡ 36 ∷ d.0 = ap (λ (i : ItemText). i.raw) same in
          let yes : begins_with_dollar (name_text r.owner) ≡ true = ap begins_with_dollar raw in
          let none = no_dollar (name_text r.owner) (name_starts r.owner is.owner) in
          absurd (let both = sym none ∙ yes in cc),
      record {
        owner = plain (name_text r.owner) ∷ [];
        lead = plain (decimal r.ttl) ∷ plain (codes "IN") ∷ [];
        kind = type_text (type_of r.rdata);
        fields = data_items r.rdata;
        items_are = refl;
        owner_is = (name_text r.owner, refl, (is.owner, inl (text_spells r.owner is.owner)));
        lead_is = ([], plain (codes "IN") ∷ [], decimal r.ttl, refl, (inl (decimal_is_number r.ttl small), is.ttl), inr (refl, inr (codes "IN", refl, refl)));
        kind_is = refl;
        fields_are = data_relative origin r.rdata (data_items r.rdata) (data_spells r.rdata is.rdata);
      },
    )

pub record_clean : (r : Record) → IsRecord r → CleanLine (record_items r)
record_clean r is =
    let ttl = is.ttl in
    let small : r.ttl < 2 ^ 64 = omega arith in
    record { some = omega arith; clean = (name_clean r.owner is.owner, (number_clean r.ttl small, (refl, (type_clean (type_of r.rdata), data_clean r.rdata is.rdata)))) }

records_clean : (rs : List Record) → AllByRecursion IsRecord rs → AllByRecursion CleanLine (map record_items rs)
records_clean [] h = tt
records_clean (r ∷ rs) h = (record_clean r h.0, records_clean rs h.1)

pub origin_clean : (origin : List (List ℕ)) → IsName origin → CleanLine (origin_items origin)
origin_clean origin is = record { some = omega arith; clean = (refl, (name_clean origin is, tt)) }

lines_printed : (rs : List Record) → flat_map ended_line rs ≡ flat_map line_text (map record_items rs)
lines_printed [] = refl
lines_printed (r ∷ rs) = ap (λ (t : List ℕ). ended_line r ++ t) (lines_printed rs)

-- ---- the file

pub here_said : (origin : List (List ℕ)) (white : Bool) (items line : List ItemText) (s : Statement) → white ≡ false → items ≡ line → States origin false line s → States origin white items s
here_said origin white items line s w e h = subst (λ (b : Bool). States origin b items s) (sym w) (subst (λ (l : List ItemText). States origin false l s) (sym e) h)

lines_said : (f : ℕ → InForce) (k : ℕ) (es : List Entry) (rs : List Record) → AllByRecursion IsRecord rs → AreLines es (map record_items rs) → AreStated f k (map view es) (map said rs)
lines_said f k [] [] h l = refl
lines_said f k [] (r ∷ rs) h l = absurd l
lines_said f k (e ∷ es) [] h l = absurd l
lines_said f k (e ∷ es) (r ∷ rs) h l =
    (here_said (f k).origin e.white (map text_of e.items) (record_items r) (said r) l.0 l.1 (record_said (f k).origin r h.0), lines_said f (suc k) es rs h.1 l.2)

records_are : (f : ℕ → InForce) (k : ℕ) (rs : List Record) → AreRecords f k (map said rs) rs
records_are f k [] = refl
records_are f k (r ∷ rs) = (record { owner = refl; ttl = refl; rdata = refl }, records_are f (suc k) rs)

all_said : (f : ℕ → InForce) (origin : List (List ℕ)) (es : List Entry) (rs : List Record) → IsName origin → AllByRecursion IsRecord rs → AreLines es (origin_items origin ∷ map record_items rs) → AreStated f 0 (map view es) (statements.Origin origin ∷ map said rs)
all_said f origin [] rs is h l = absurd l
all_said f origin (e ∷ es) rs is h l =
    (here_said (f 0).origin e.white (map text_of e.items) (origin_items origin) (statements.Origin origin) l.0 l.1 (origin_said (f 0).origin origin is), lines_said f 1 es rs h l.2)

pub zone_read : (handed origin : List (List ℕ)) (rs : List Record) → IsName origin → AllByRecursion IsRecord rs → IsFile (zone_text origin rs) handed rs
zone_read handed origin rs is h =
    let ss = statements.Origin origin ∷ map said rs in
    let f = carried (handed_in handed) ss in
    let lines = lines_read (origin_items origin) (map record_items rs) (origin_clean origin is) (records_clean rs h) in
    let text : zone_text origin rs ≡ flat_map line_text (origin_items origin ∷ map record_items rs) = ap (λ (t : List ℕ). line_text (origin_items origin) ++ t) (lines_printed rs) in
    record {
      of_entries = map view lines.0;
      statements = ss;
      before = f;
      entries_are = entries_are (zone_text origin rs) lines.0 (ap entries text ∙ lines.1);
      in_force = carried_in_force ss handed;
      are_stated = all_said f origin lines.0 rs is h lines.2;
      are_records = records_are f 1 rs;
    }
