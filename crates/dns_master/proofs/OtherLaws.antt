-- The line of a record of another type is read as that record.
use Rattle.std.proofs.Common.{◌≡◌, ℕ, ◌<◌, ◌≤◌, ◌^◌, inl, Bool, true, false, not, eqb, ◌||◌, ◌&&◌, List, [], ◌∷◌, length, Option, Some, None, Result, Ok, Err, refl, ap, ◌∙◌, arith}
use Rattle.std.proofs.lemmas.Bool.{and_parts, and_from, agree_below_at}
use Rattle.std.specs.Prelude.{codes, decimal}
use Rattle.std.specs.List.{AllByRecursion, list_any, list_all}
use Rattle.dns_names.specs.Labels.{IsName}
use Rattle.dns_names.specs.Spelling.{name_text}
use Rattle.dns_names.proofs.ReadingLaws.{text_spells}
use Rattle.dns_names.proofs.SymbolLaws.{IsBytes}
use Rattle.dns_data.specs.declared.data_fault.DataFault.TheVariants.{TypeNotKept}
use Rattle.dns_data.specs.declared.record_type.RecordType.{RecordType}
use Rattle.dns_data.specs.Items.{ItemText, plain}
use Rattle.dns_data.specs.Types.{type_named}
use Rattle.dns_data.specs.Reading.{data_of}
use Rattle.dns_data.proofs.FieldLaws.{name_only}
use Rattle.dns_data.proofs.NumberLaws.{decimal_is_number}
use Rattle.dns_master.specs.declared.entry_fault.EntryFault.{EntryFault}
use Rattle.dns_master.specs.declared.entry_fault.EntryFault.TheVariants.{Data}
use Rattle.dns_master.specs.declared.field.Part.{Part}
use Rattle.dns_master.specs.declared.field.Part.TheVariants as parts
use Rattle.dns_master.specs.declared.field.TtlAndClass.{TtlAndClass}
use Rattle.dns_master.specs.declared.statement.Statement.TheVariants.{Record}
use Rattle.dns_master.specs.Pieces.{is_quote, ends_item}
use Rattle.dns_master.specs.Grammar.{taken_behind}
use Rattle.dns_master.specs.EntryFaults.{◌>>=◌, of_datas}
use Rattle.dns_master.specs.Fields.{LeadText, name_at, or_not_kept, part_of, with_part, lead_of}
use Rattle.dns_master.specs.Statements.{is_directive, owner_of, statement_of}
use Rattle.dns_master.specs.EntryGrammar.{SpellsTtl}
use Rattle.dns_master.specs.InForce.{InForce}
use Rattle.dns_master.proofs.PartLaws.{part_ttl, part_class}
use Rattle.dns_master.proofs.ZoneLaws.{no_dollar, name_starts}
use Rattle.dns_master.proofs.CleanLaws.{runs, runs_are, clean_plain, CleanAt, Clean, name_clean, number_clean}
use Rattle.dns_master.proofs.LineLaws.{CleanLine}
use Rattle.dns_master.specs.declared.other.OtherPart.{OtherPart}
use Rattle.dns_master.specs.OtherTypes.{is_type_octet, begins_with_letter, begins_with_word, is_kept_number, is_class, is_other_type}
use Rattle.dns_master.specs.AnyRecords.{OtherText, Other, AnyTaken, OtherLead, StatedOther, ends_open, whole_lead, other_part, with_next, other_lead_of, other_behind, other_of, behind_other, other_taken, any_of, any_taken}
use Rattle.dns_master.specs.Parting.{other_items}

abbrev Labels : Type 0
Labels = List (List ℕ)

-- a record of another type as one is read
pub record IsOther (o : OtherText) : Type 0 where
  pub origin : IsName o.origin
  pub owner : IsName o.owner
  pub ttl : o.ttl ≤ 2147483647
  pub octets : IsBytes o.kind
  pub kind : is_other_type o.kind ≡ true
  pub not_kept : type_named o.kind ≡ None
  pub fields : AllByRecursion Clean o.fields

-- ---- its items are clean

ordinary : ℕ → Bool
ordinary o = not (ends_item o) && not (eqb o 92)

not_true : (b : Bool) → not b ≡ true → b ≡ false
not_true false e = refl
not_true true e = absurd cc

implied : (a b : Bool) → (not a || b) ≡ true → a ≡ true → b ≡ true
implied true b e h = e
implied false b e h = absurd cc

kind_run : (kind : List ℕ) → IsBytes kind → list_all is_type_octet kind ≡ true → runs ends_item false kind ≡ true
kind_run [] bytes e = refl
kind_run (o ∷ rest) bytes e =
    let p = and_parts (is_type_octet o) (list_all is_type_octet rest) e in
    let q = implied (is_type_octet o) (not (ends_item o) && not (eqb o 92))
    (agree_below_at (λ n. not (is_type_octet n) || (not (ends_item n) && not (eqb n 92))) (λ n. true) 256 o refl bytes.0) p.0 in
    let r = and_parts (not (ends_item o)) (not (eqb o 92)) q in
    and_from (not (ends_item o)) (runs ends_item (eqb o 92) rest) r.0 (rw (not_true (eqb o 92) r.1) (kind_run rest bytes.1 p.1))

letter_some : (kind : List ℕ) → begins_with_letter kind ≡ true → 0 < length kind
letter_some [] e = absurd cc
letter_some (o ∷ rest) e = omega arith

-- what is known of a word that can stand for another type
pub record IsWordOf (kind : List ℕ) : Type 0 where
  pub letter : begins_with_letter kind ≡ true
  pub octets : list_all is_type_octet kind ≡ true
  pub class : is_class kind ≡ false

pub kind_word : (kind : List ℕ) → is_other_type kind ≡ true → IsWordOf kind
kind_word kind e =
    let z = and_parts _ (not (is_class kind)) e in
    let a = and_parts _ (not (is_kept_number kind)) z.0 in
    let b = and_parts _ (not (begins_with_word (codes "TYPE0") kind)) a.0 in
    let c = and_parts _ (not (begins_with_word (codes "CLASS") kind)) b.0 in
    let d = and_parts (begins_with_letter kind) (list_all is_type_octet kind) c.0 in
    record { letter = d.0; octets = d.1; class = not_true (is_class kind) z.1 }

pub kind_clean : (kind : List ℕ) → IsBytes kind → is_other_type kind ≡ true → Clean (plain kind)
kind_clean kind bytes e =
    let w = kind_word kind e in
    clean_plain kind (letter_some kind w.letter) (kind_run kind bytes w.octets)

pub other_clean : (o : OtherText) → IsOther o → CleanLine (other_items o)
other_clean o is =
    let ttl = is.ttl in
    let small : o.ttl < 2 ^ 64 = omega arith in
    record { some = omega arith; clean = (name_clean o.owner is.owner, (number_clean o.ttl small, (refl, (kind_clean o.kind is.octets is.kind, is.fields)))) }

-- no clean item ends with a backslash that takes nothing
clean_ends : (quoted : Bool) (raw : List ℕ) → CleanAt quoted raw → taken_behind false raw ≡ false
clean_ends true raw h = (runs_are is_quote false raw h).1
clean_ends false [] h = absurd h
clean_ends false (o ∷ raw) h = (runs_are ends_item false (o ∷ raw) h).1

pub none_open : (items : List ItemText) → AllByRecursion Clean items → list_any ends_open items ≡ false
none_open [] h = refl
none_open (item ∷ items) h = rw (clean_ends item.quoted item.raw h.0) (none_open items h.1)

-- ---- its items are read

name_read : (origin name : Labels) → IsName origin → IsName name → name_at origin (plain (name_text name)) ≡ Ok name
name_read origin name is of = ap of_datas (name_only (Some origin) is (name_text name) name (of, inl (text_spells name of)))

owner_read : (origin : Labels) (owner : Option Labels) (name : Labels) (items : List ItemText) → IsName origin → IsName name → owner_of origin owner false (plain (name_text name) ∷ items) ≡ Ok (Some name)
owner_read origin None name items is of = ap (λ (r : Result Labels EntryFault). r >>= λ x. Ok (Some x)) (name_read origin name is of)
owner_read origin (Some owner) name items is of = ap (λ (r : Result Labels EntryFault). r >>= λ x. Ok (Some x)) (name_read origin name is of)

abbrev start : TtlAndClass
start = record { ttl = None; has_class = false }

module _ (o : OtherText) (is : IsOther o) where
  abbrev lead_items : List ItemText
  lead_items = plain (decimal o.ttl) ∷ plain (codes "IN") ∷ plain o.kind ∷ o.fields

  spells : SpellsTtl o.ttl (decimal o.ttl)
  spells = let ttl = is.ttl in (inl (decimal_is_number o.ttl (let small : o.ttl < 2 ^ 64 = omega arith in small)), ttl)

  at_kind : part_of (record { ttl = Some o.ttl; has_class = true }) (plain o.kind) ≡ Err (Data TypeNotKept)
  at_kind = ap (λ (t : Option RecordType). or_not_kept t >>= λ x. Ok (parts.«Type» (Some o.ttl) x)) is.not_kept

  abbrev more_of : List ItemText → Part → Result LeadText EntryFault
  more_of items part = with_part part items (λ next. lead_of next items)

  lead_refused : lead_of start lead_items ≡ Err (Data TypeNotKept)
  lead_refused =
      ap (λ (r : Result Part EntryFault). r >>= more_of (plain (codes "IN") ∷ plain o.kind ∷ o.fields)) (part_ttl false (decimal o.ttl) o.ttl spells)
      ∙ ap (λ (r : Result Part EntryFault). r >>= more_of (plain o.kind ∷ o.fields)) (part_class (Some o.ttl) (codes "IN") refl)
      ∙ ap (λ (r : Result Part EntryFault). r >>= more_of o.fields) at_kind

  abbrev other_more : ItemText → List ItemText → OtherPart → Result OtherLead EntryFault
  other_more item items next = with_next item items next (λ n. other_lead_of n items)

  abbrev lead : OtherLead
  lead = record { ttl = Some o.ttl; kind = o.kind; fields = o.fields }

  lead_read : other_lead_of start lead_items ≡ Ok lead
  lead_read =
      ap (λ (r : Result Part EntryFault). other_part None r >>= other_more (plain (decimal o.ttl)) (plain (codes "IN") ∷ plain o.kind ∷ o.fields)) (part_ttl false (decimal o.ttl) o.ttl spells)
      ∙ ap (λ (r : Result Part EntryFault). other_part (Some o.ttl) r >>= other_more (plain (codes "IN")) (plain o.kind ∷ o.fields)) (part_class (Some o.ttl) (codes "IN") refl)
      ∙ ap (λ (r : Result Part EntryFault). other_part (Some o.ttl) r >>= other_more (plain o.kind) o.fields) at_kind

  lead_whole : whole_lead lead ≡ Ok lead
  lead_whole = rw (is.kind, none_open o.fields is.fields) refl

  -- as its line states it
  abbrev pub stated : StatedOther
  stated = record { owner = Some o.owner; ttl = Some o.ttl; kind = o.kind; fields = o.fields }

  behind_read : other_behind (Some o.owner) lead_items ≡ Ok stated
  behind_read =
      ap (λ (r : Result OtherLead EntryFault). r >>= λ x. whole_lead x >>= λ l. Ok (record { owner = Some o.owner; ttl = l.ttl; kind = l.kind; fields = l.fields })) lead_read
      ∙ ap (λ (r : Result OtherLead EntryFault). r >>= λ l. Ok (record { owner = Some o.owner; ttl = l.ttl; kind = l.kind; fields = l.fields })) lead_whole

  other_read : (origin : Labels) (owner : Option Labels) → IsName origin → other_of origin owner false (other_items o) ≡ Ok stated
  other_read origin owner of =
      ap (λ (r : Result (Option Labels) EntryFault). r >>= λ own. other_behind own lead_items) (owner_read origin owner o.owner lead_items of is.owner) ∙ behind_read

  no_directive : is_directive (plain (name_text o.owner)) ≡ false
  no_directive = rw (no_dollar (name_text o.owner) (name_starts o.owner is.owner)) refl

  statement_refused : (origin : Labels) (owner : Option Labels) → IsName origin → statement_of origin owner false (other_items o) ≡ Err (Data TypeNotKept)
  statement_refused origin owner of =
      rw no_directive
      (ap (λ (r : Result (Option Labels) EntryFault). r >>= λ own. lead_of start lead_items >>= λ l. of_datas (data_of l.1 (Some origin) l.2) >>= λ rdata. Ok (Record (record { owner = own; ttl = l.0; rdata = rdata }))) (owner_read origin owner o.owner lead_items of is.owner)
      ∙ ap (λ (r : Result LeadText EntryFault). r >>= λ l. of_datas (data_of l.1 (Some origin) l.2) >>= λ rdata. Ok (Record (record { owner = Some o.owner; ttl = l.0; rdata = rdata }))) lead_refused)

  abbrev made : Labels → OtherText
  made origin = record { origin = origin; owner = o.owner; ttl = o.ttl; kind = o.kind; fields = o.fields }

  -- the record is read of its line, where its origin is in force
  pub other_again : (b : InForce) → b.origin ≡ o.origin → IsName b.origin → any_taken b false (other_items o) ≡ Ok (behind_other stated b, Other o ∷ [])
  other_again b e of =
      ap (any_of b false (other_items o)) (statement_refused b.origin b.owner of)
      ∙ ap (λ (r : Result StatedOther EntryFault). r >>= other_taken b) (other_read b.origin b.owner of)
      ∙ ap (λ (n : Labels). let t : Result AnyTaken EntryFault = Ok (behind_other stated b, Other (made n) ∷ []) in t) e
