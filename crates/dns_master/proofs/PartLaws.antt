-- What stands between the owner and the data: what is read is in the grammar, and what is in the grammar is read.
use Rattle.std.proofs.Common.{◌≡◌, ℕ, ◌+◌, ◌<◌, inl, inr, ◌⊎◌, Bool, true, false, cond, ltb, not, ◌||◌, ◌&&◌, List, [], ◌∷◌, ◌++◌, length, Option, Some, None, Result, Ok, Err, refl, sym, ap, subst, ◌∙◌, arith, ltb-false, append_assoc}
use Rattle.std.proofs.lemmas.Bool.{cond_both, and_parts, lt-leb}
use Rattle.std.proofs.lemmas.Slice.Eq.{bytes_eq-Decides}
use Rattle.std.specs.Prelude.{codes}
use Rattle.std.specs.List.{list_all, flat_map}
use Rattle.std.specs.Option.{is_some}
use Rattle.std.specs.Char.{is_ascii_digit, to_ascii_lowercase}
use Rattle.std.specs.Str.{str_to_ascii_lowercase, str_eq_ignore_ascii_case}
use Rattle.std.specs.Str.Parse.{IsNumeral}
use Rattle.dns_data.specs.declared.data_fault.DataFault.{DataFault}
use Rattle.dns_data.specs.declared.data_fault.DataFault.TheVariants.{QuotedItem}
use Rattle.dns_data.specs.declared.record_type.RecordType.{RecordType}
use Rattle.dns_data.specs.Items.{ItemText, plain}
use Rattle.dns_data.specs.Numbers.{duration_of, Group, IsGroup, group_text}
use Rattle.dns_data.specs.Types.{type_text, IsCalled}
use Rattle.dns_data.proofs.KeptLaws.{none_passes}
use Rattle.dns_data.proofs.NumberLaws.{is_numeral, duration_found, duration_only}
use Rattle.dns_master.specs.declared.entry_fault.EntryFault.{EntryFault}
use Rattle.dns_master.specs.declared.entry_fault.EntryFault.TheVariants.{ClassNotIn, Data}
use Rattle.dns_master.specs.declared.field.Part.{Part}
use Rattle.dns_master.specs.declared.field.Part.TheVariants as parts
use Rattle.dns_master.specs.declared.field.TtlAndClass.{TtlAndClass}
use Rattle.dns_master.specs.EntryFaults.{◌>>=◌}
use Rattle.dns_master.specs.Fields.{LeadText, unquoted, ttl_of, in_ttl, type_of_text, begins_with_digit, is_other_class, part_in, part_of, with_part, lead_of}
use Rattle.dns_master.specs.EntryGrammar.{IsWord, SpellsTtl, IsClassOrNone, AreTtlAndClass}
use Rattle.dns_master.proofs.TypeLemmas.{type_read}

-- ---- steps that may fail

-- the value of a step that did not fail
pub step_ok : {A B : Type 0} (r : Result A EntryFault) (f : A → Result B EntryFault) (y : B) → (r >>= f) ≡ Ok y → (x : A) × (r ≡ Ok x) × (f x ≡ Ok y)
step_ok (Ok x) f y e = (x, refl, e)
step_ok (Err d) f y e = absurd cc

-- an item by its parts
abbrev item_with : List ℕ → Bool → ItemText
item_with raw quoted = record { raw = raw; quoted = quoted }

unquoted_with : (raw text : List ℕ) (quoted : Bool) → cond quoted (Err (Data QuotedItem)) (Ok raw) ≡ Ok text → item_with raw quoted ≡ plain text
unquoted_with raw text true e = absurd cc
unquoted_with raw text false e = let same : raw ≡ text = cc in ap plain same

-- an item that is read as unquoted is so
pub unquoted_is : (item : ItemText) (text : List ℕ) → unquoted item ≡ Ok text → item ≡ plain text
unquoted_is item text e = unquoted_with item.raw text item.quoted e

-- ---- letters

-- a test that no letter passes says the same of either case
pub same_case : (test : ℕ → Bool) → ((c : ℕ) → 64 < c → test c ≡ false) → (c : ℕ) → test (to_ascii_lowercase c) ≡ test c
same_case test none c =
    let P : ℕ → Type 0 = λ x. test x ≡ test c in
    cond_both (ltb c 65) c (cond (ltb c 91) (c + 32) c) P (λ _. refl)
    (λ above. let le = ltb-false c 65 above in let here : test c ≡ false = none c (omega arith) in
    cond_both (ltb c 91) (c + 32) c P (λ _. none (c + 32) (omega arith) ∙ sym here) (λ _. refl))

pub no_digit : (c : ℕ) → 64 < c → is_ascii_digit c ≡ false
no_digit c h = grind (arith, lt-leb c 57)

digit_first : (raw : List ℕ) → begins_with_digit (str_to_ascii_lowercase raw) ≡ begins_with_digit raw
digit_first [] = refl
digit_first (o ∷ rest) = same_case is_ascii_digit no_digit o

-- two texts that are one in either letter case
pub same_word : (a b : List ℕ) → str_to_ascii_lowercase a ≡ str_to_ascii_lowercase b → str_eq_ignore_ascii_case a b ≡ true
same_word a b e = (bytes_eq-Decides _ _).1 e

pub word_same : (a b : List ℕ) → str_eq_ignore_ascii_case a b ≡ true → str_to_ascii_lowercase a ≡ str_to_ascii_lowercase b
word_same a b e = (bytes_eq-Decides _ _).0 e

-- ---- TTLs

in_ttl_ok : (r : Result ℕ DataFault) (ttl : ℕ) → in_ttl r ≡ Ok ttl → r ≡ Ok ttl
in_ttl_ok (Ok n) ttl e = let same : n ≡ ttl = cc in ap (λ (m : ℕ). Ok m) same
in_ttl_ok (Err f) ttl e = absurd cc

pub ttl_found : (raw : List ℕ) (ttl : ℕ) → ttl_of raw ≡ Ok ttl → SpellsTtl ttl raw
ttl_found raw ttl e = duration_found 2147483647 raw ttl (in_ttl_ok (duration_of 2147483647 raw) ttl e)

pub ttl_only : (raw : List ℕ) (ttl : ℕ) → SpellsTtl ttl raw → ttl_of raw ≡ Ok ttl
ttl_only raw ttl h = ap in_ttl (duration_only 2147483647 raw ttl h.0 h.1)

numeral_digit : (text rest : List ℕ) → IsNumeral 10 text → begins_with_digit (text ++ rest) ≡ true
numeral_digit [] rest h = absurd (let none = h.0 in omega arith)
numeral_digit (o ∷ text) rest h =
    let p = and_parts (ltb 0 (length (o ∷ text))) (list_all is_ascii_digit (o ∷ text)) (is_numeral (o ∷ text) h) in
    (and_parts (is_ascii_digit o) (list_all is_ascii_digit text) p.1).0

whole_numeral : (text : List ℕ) → IsNumeral 10 text → begins_with_digit text ≡ true
whole_numeral [] h = absurd (let none = h.0 in omega arith)
whole_numeral (o ∷ text) h = numeral_digit (o ∷ text) [] h

groups_digit : (groups : List Group) (text : List ℕ) → (groups ≡ [] → ⊥) → Rattle.std.specs.List.AllByRecursion IsGroup groups → text ≡ flat_map group_text groups → begins_with_digit text ≡ true
groups_digit [] text some h e = absurd (some refl)
groups_digit (g ∷ gs) text some h e =
    ap begins_with_digit (e ∙ append_assoc g.digits (g.unit ∷ []) (flat_map group_text gs)) ∙ numeral_digit g.digits (g.unit ∷ flat_map group_text gs) h.0.number

-- a TTL begins with a digit
pub ttl_digit : (raw : List ℕ) (ttl : ℕ) → SpellsTtl ttl raw → begins_with_digit raw ≡ true
ttl_digit raw ttl h = elim h.0 [
  | inl n ↦ whole_numeral raw n.0
  | inr g ↦ groups_digit g.0 raw g.1 g.2 g.3
]

-- ---- one item

-- the texts of types are no TTL and no class
type_no_digit : (t : RecordType) → begins_with_digit (str_to_ascii_lowercase (type_text t)) ≡ false
type_no_digit = none_passes (λ t. begins_with_digit (str_to_ascii_lowercase (type_text t))) refl

abbrev is_class : List ℕ → Bool
is_class raw = str_eq_ignore_ascii_case raw (codes "IN") || is_other_class raw

type_no_class : (t : RecordType) → is_class (type_text t) ≡ false
type_no_class = none_passes (λ t. is_class (type_text t)) refl

-- a class by its text in lower case
class_by_case : (a b : List ℕ) → str_to_ascii_lowercase a ≡ str_to_ascii_lowercase b → is_class a ≡ is_class b
class_by_case a b e = rw e refl

pub neither : (a b : Bool) → (a || b) ≡ false → (a ≡ false) × (b ≡ false)
neither true b e = absurd cc
neither false b e = (refl, e)

pub and_none : (a b : Bool) → b ≡ false → (a && b) ≡ false
and_none true b e = e
and_none false b e = refl

-- an item that is called as a type is that type
pub part_type : (read : TtlAndClass) (raw : List ℕ) (t : RecordType) → IsCalled t raw → part_of read (plain raw) ≡ Ok (parts.«Type» read.ttl t)
part_type read raw t h =
    let digit : begins_with_digit raw ≡ false = sym (digit_first raw) ∙ ap begins_with_digit h ∙ type_no_digit t in
    let class = neither (str_eq_ignore_ascii_case raw (codes "IN")) (is_other_class raw) (class_by_case raw (type_text t) h ∙ type_no_class t) in
    let kind = (type_read raw t).1 h in
    rw (and_none (not (is_some read.ttl)) (begins_with_digit raw) digit, and_none (not read.has_class) (str_eq_ignore_ascii_case raw (codes "IN")) class.0, and_none (not read.has_class) (is_other_class raw) class.1, kind) refl

-- an item that spells a TTL is one, where none was read
pub part_ttl : (has_class : Bool) (raw : List ℕ) (ttl : ℕ) → SpellsTtl ttl raw → part_of (record { ttl = None; has_class = has_class }) (plain raw) ≡ Ok (parts.More (record { ttl = Some ttl; has_class = has_class }))
part_ttl has_class raw ttl h = rw (ttl_digit raw ttl h, ttl_only raw ttl h) refl

-- an item that names IN is the class, where none was read
pub part_class : (ttl : Option ℕ) (raw : List ℕ) → IsWord (codes "IN") raw → part_of (record { ttl = ttl; has_class = false }) (plain raw) ≡ Ok (parts.More (record { ttl = ttl; has_class = true }))
part_class ttl raw h =
    let digit : begins_with_digit raw ≡ false = sym (digit_first raw) ∙ ap begins_with_digit h in
    rw (and_none (not (is_some ttl)) (begins_with_digit raw) digit, same_word raw (codes "IN") h) refl

-- ---- what an item that was read is

not_none : (o : Option ℕ) (b : Bool) → (not (is_some o) && b) ≡ true → (o ≡ None) × (b ≡ true)
not_none None b e = (refl, e)
not_none (Some x) b e = absurd cc

not_yet : (c b : Bool) → (not c && b) ≡ true → (c ≡ false) × (b ≡ true)
not_yet false b e = (refl, e)
not_yet true b e = absurd cc

-- a TTL where none was read, the class where none was read, or the type
abbrev pub IsPart : TtlAndClass → List ℕ → Part → Type 0
IsPart read raw part =
    ((read.ttl ≡ None) × ((ttl : ℕ) × SpellsTtl ttl raw × (part ≡ parts.More (record { ttl = Some ttl; has_class = read.has_class }))))
    ⊎ (((read.has_class ≡ false) × IsWord (codes "IN") raw × (part ≡ parts.More (record { ttl = read.ttl; has_class = true })))
    ⊎ ((t : RecordType) × IsCalled t raw × (part ≡ parts.«Type» read.ttl t)))

ok_same : {A : Type 0} (x y : A) → ◌≡◌ {A = Result A EntryFault} (Ok x) (Ok y) → y ≡ x
ok_same x y e = cc

raw_part : (read : TtlAndClass) (raw : List ℕ) (part : Part) → part_in read raw ≡ Ok part → IsPart read raw part
raw_part read raw part =
    let Reads : Result Part EntryFault → Type 0 = λ r. r ≡ Ok part → IsPart read raw part in
    cond_both (not (is_some read.ttl) && begins_with_digit raw) (ttl_of raw >>= λ ttl. Ok (parts.More (record { ttl = Some ttl; has_class = read.has_class }))) _ Reads
    (λ is e.
    let none = not_none read.ttl (begins_with_digit raw) is in
    let s = step_ok (ttl_of raw) (λ ttl. Ok (parts.More (record { ttl = Some ttl; has_class = read.has_class }))) part e in
    inl (none.0, (s.0, ttl_found raw s.0 s.1, ok_same _ _ s.2)))
    (λ _. cond_both (not read.has_class && str_eq_ignore_ascii_case raw (codes "IN")) (Ok (parts.More (record { ttl = read.ttl; has_class = true }))) _ Reads
    (λ is e. let none = not_yet read.has_class (str_eq_ignore_ascii_case raw (codes "IN")) is in inr (inl (none.0, word_same raw (codes "IN") none.1, ok_same _ _ e)))
    (λ _. cond_both (not read.has_class && is_other_class raw) (Err ClassNotIn) _ Reads (λ is e. absurd cc)
    (λ _ e. let s = step_ok (type_of_text raw) (λ t. Ok (parts.«Type» read.ttl t)) part e in inr (inr (s.0, (type_read raw s.0).0 s.1, ok_same _ _ s.2)))))

pub part_found : (read : TtlAndClass) (item : ItemText) (part : Part) → part_of read item ≡ Ok part → (raw : List ℕ) × (item ≡ plain raw) × IsPart read raw part
part_found read item part e =
    let s = step_ok (unquoted item) (part_in read) part e in
    (s.0, unquoted_is item s.0 s.1, raw_part read s.0 part s.2)

-- ---- all of them

-- TTL and class that follow where these were read
abbrev pub Follow : Option ℕ → Bool → Option ℕ → List ItemText → Type 0
Follow (Some own) true ttl lead = (lead ≡ []) × (ttl ≡ Some own)
Follow (Some own) false ttl lead = IsClassOrNone lead × (ttl ≡ Some own)
Follow None true None lead = lead ≡ []
Follow None true (Some ttl) lead = (raw : List ℕ) × (lead ≡ plain raw ∷ []) × SpellsTtl ttl raw
Follow None false ttl lead = AreTtlAndClass ttl lead

pub follow_none : (own : Option ℕ) (class : Bool) → Follow own class own []
follow_none (Some own) true = (refl, refl)
follow_none (Some own) false = (inl refl, refl)
follow_none None true = refl
follow_none None false = inl refl

pub follow_ttl : (class : Bool) (own : ℕ) (raw : List ℕ) (ttl : Option ℕ) (lead : List ItemText) → SpellsTtl own raw → Follow (Some own) class ttl lead → Follow None class ttl (plain raw ∷ lead)
follow_ttl true own raw ttl lead h f = subst (λ (o : Option ℕ). Follow None true o (plain raw ∷ lead)) (sym f.1) (raw, ap (λ (l : List ItemText). plain raw ∷ l) f.0, h)
follow_ttl false own raw ttl lead h f = subst (λ (o : Option ℕ). Follow None false o (plain raw ∷ lead)) (sym f.1) ([], lead, raw, refl, h, inr (refl, f.0))

one_class : (raw : List ℕ) (lead : List ItemText) → IsWord (codes "IN") raw → lead ≡ [] → IsClassOrNone (plain raw ∷ lead)
one_class raw lead h e = inr (raw, ap (λ (l : List ItemText). plain raw ∷ l) e, h)

pub follow_class : (own ttl : Option ℕ) (raw : List ℕ) (lead : List ItemText) → IsWord (codes "IN") raw → Follow own true ttl lead → Follow own false ttl (plain raw ∷ lead)
follow_class (Some own) ttl raw lead h f = (one_class raw lead h f.0, f.1)
follow_class None None raw lead h f = one_class raw lead h f
follow_class None (Some ttl) raw lead h f = (plain raw ∷ [], [], f.0, ap (λ (l : List ItemText). plain raw ∷ l) f.1, f.2, inl (one_class raw [] h refl, refl))

-- TTL, class and type that were read
pub record LeadRead (read : TtlAndClass) (items : List ItemText) (x : LeadText) : Type 0 where
  pub lead : List ItemText
  pub kind : List ℕ
  pub items_are : items ≡ lead ++ plain kind ∷ x.2
  pub follow : Follow read.ttl read.has_class x.0 lead
  pub called : IsCalled x.1 kind

abbrev more_of : List ItemText → Part → Result LeadText EntryFault
more_of items part = with_part part items (λ next. lead_of next items)

pub lead_found : (read : TtlAndClass) (items : List ItemText) (x : LeadText) → lead_of read items ≡ Ok x → LeadRead read items x
lead_found read [] x e = absurd cc
lead_found read (item ∷ items) x e =
    let s = step_ok (part_of read item) (more_of items) x e in
    let p = part_found read item s.0 s.1 in
    let first : item ∷ items ≡ plain p.0 ∷ items = ap (λ (i : ItemText). i ∷ items) p.1 in
    elim p.2 [
      | inl t ↦ (
          let r = lead_found (record { ttl = Some t.1.0; has_class = read.has_class }) items x (sym (ap (more_of items) t.1.2) ∙ s.2) in
          let whole : LeadRead read (item ∷ items) x = record {
            lead = plain p.0 ∷ r.lead;
            kind = r.kind;
            items_are = first ∙ ap (λ (l : List ItemText). plain p.0 ∷ l) r.items_are;
            follow = subst (λ (o : Option ℕ). Follow o read.has_class x.0 (plain p.0 ∷ r.lead)) (sym t.0) (follow_ttl read.has_class t.1.0 p.0 x.0 r.lead t.1.1 r.follow);
            called = r.called;
          } in whole)
      | inr q ↦ elim q [
        | inl c ↦ (
            let r = lead_found (record { ttl = read.ttl; has_class = true }) items x (sym (ap (more_of items) c.2) ∙ s.2) in
            let whole : LeadRead read (item ∷ items) x = record {
              lead = plain p.0 ∷ r.lead;
              kind = r.kind;
              items_are = first ∙ ap (λ (l : List ItemText). plain p.0 ∷ l) r.items_are;
              follow = subst (λ (b : Bool). Follow read.ttl b x.0 (plain p.0 ∷ r.lead)) (sym c.0) (follow_class read.ttl x.0 p.0 r.lead c.1 r.follow);
              called = r.called;
            } in whole)
        | inr t ↦ (
            let same : x ≡ (read.ttl, t.0, items) = ok_same _ _ (sym (ap (more_of items) t.2) ∙ s.2) in
            let here : LeadRead read (item ∷ items) (read.ttl, t.0, items) = record { lead = []; kind = p.0; items_are = first; follow = follow_none read.ttl read.has_class; called = t.1 } in
            subst (LeadRead read (item ∷ items)) (sym same) here)
      ]
    ]

-- ---- and what is in the grammar is read

module _ (kind : List ℕ) (t : RecordType) (h : IsCalled t kind) (fields : List ItemText) where
  at_type : (own : Option ℕ) (class : Bool) → lead_of (record { ttl = own; has_class = class }) (plain kind ∷ fields) ≡ Ok (own, t, fields)
  at_type own class = ap (λ (r : Result Part EntryFault). r >>= more_of fields) (part_type (record { ttl = own; has_class = class }) kind t h)

  at_ttl : (class : Bool) (raw : List ℕ) (ttl : ℕ) (items : List ItemText) → SpellsTtl ttl raw → lead_of (record { ttl = None; has_class = class }) (plain raw ∷ items) ≡ lead_of (record { ttl = Some ttl; has_class = class }) items
  at_ttl class raw ttl items s = ap (λ (r : Result Part EntryFault). r >>= more_of items) (part_ttl class raw ttl s)

  at_class : (own : Option ℕ) (raw : List ℕ) (items : List ItemText) → IsWord (codes "IN") raw → lead_of (record { ttl = own; has_class = false }) (plain raw ∷ items) ≡ lead_of (record { ttl = own; has_class = true }) items
  at_class own raw items s = ap (λ (r : Result Part EntryFault). r >>= more_of items) (part_class own raw s)

  class_or_none : (own : Option ℕ) (lead : List ItemText) → IsClassOrNone lead → lead_of (record { ttl = own; has_class = false }) (lead ++ plain kind ∷ fields) ≡ Ok (own, t, fields)
  class_or_none own lead (inl e) = ap (λ (l : List ItemText). lead_of (record { ttl = own; has_class = false }) (l ++ plain kind ∷ fields)) e ∙ at_type own false
  class_or_none own lead (inr c) =
      ap (λ (l : List ItemText). lead_of (record { ttl = own; has_class = false }) (l ++ plain kind ∷ fields)) c.1 ∙ at_class own c.0 (plain kind ∷ fields) c.2 ∙ at_type own true

  behind_class : (ttl : ℕ) (front : List ItemText) (raw : List ℕ) → SpellsTtl ttl raw → IsClassOrNone front → lead_of (record { ttl = None; has_class = false }) (front ++ plain raw ∷ plain kind ∷ fields) ≡ Ok (Some ttl, t, fields)
  behind_class ttl front raw s (inl e) =
      ap (λ (l : List ItemText). lead_of (record { ttl = None; has_class = false }) (l ++ plain raw ∷ plain kind ∷ fields)) e ∙ at_ttl false raw ttl (plain kind ∷ fields) s ∙ at_type (Some ttl) false
  behind_class ttl front raw s (inr c) =
      ap (λ (l : List ItemText). lead_of (record { ttl = None; has_class = false }) (l ++ plain raw ∷ plain kind ∷ fields)) c.1
      ∙ at_class None c.0 (plain raw ∷ plain kind ∷ fields) c.2 ∙ at_ttl true raw ttl (plain kind ∷ fields) s ∙ at_type (Some ttl) true

  pub lead_only : (ttl : Option ℕ) (lead : List ItemText) → AreTtlAndClass ttl lead → lead_of (record { ttl = None; has_class = false }) (lead ++ plain kind ∷ fields) ≡ Ok (ttl, t, fields)
  lead_only None lead f = class_or_none None lead f
  lead_only (Some ttl) lead f =
      let R : List ItemText → Type 0 = λ l. lead_of (record { ttl = None; has_class = false }) (l ++ plain kind ∷ fields) ≡ Ok (Some ttl, t, fields) in
      subst R (sym f.3) (elim f.5 [
        | inl c ↦ (
            let parts_are : (f.0 ++ plain f.2 ∷ f.1) ++ plain kind ∷ fields ≡ f.0 ++ plain f.2 ∷ plain kind ∷ fields =
            append_assoc f.0 (plain f.2 ∷ f.1) (plain kind ∷ fields) ∙ ap (λ (l : List ItemText). f.0 ++ plain f.2 ∷ (l ++ plain kind ∷ fields)) c.1 in
            ap (lead_of (record { ttl = None; has_class = false })) parts_are ∙ behind_class ttl f.0 f.2 f.4 c.0)
        | inr c ↦ (
            let parts_are : (f.0 ++ plain f.2 ∷ f.1) ++ plain kind ∷ fields ≡ plain f.2 ∷ (f.1 ++ plain kind ∷ fields) = ap (λ (l : List ItemText). (l ++ plain f.2 ∷ f.1) ++ plain kind ∷ fields) c.0 in
            ap (lead_of (record { ttl = None; has_class = false })) parts_are ∙ at_ttl false f.2 ttl (f.1 ++ plain kind ∷ fields) f.4 ∙ class_or_none (Some ttl) f.1 c.1)
      ])
