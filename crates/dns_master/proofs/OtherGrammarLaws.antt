-- Entries of other types: what is read is in the grammar.
use Rattle.std.proofs.Common.{◌≡◌, ℕ, ◌<◌, inl, inr, Bool, true, false, not, leb, leb-true, arith, append_assoc, ◌||◌, List, [], ◌∷◌, ◌++◌, Option, Some, None, Result, Ok, Err, refl, sym, ap, subst, ◌∙◌}
use Rattle.std.proofs.lemmas.Bool.{and_parts}
use Rattle.std.specs.Prelude.{codes}
use Rattle.std.specs.Int.{is_in_range}
use Rattle.std.specs.Char.{is_ascii_alphabetic}
use Rattle.std.specs.Str.{str_eq_ignore_ascii_case}
use Rattle.std.specs.Option.{is_some}
use Rattle.std.specs.List.{AllByRecursion, list_any}
use Rattle.dns_names.specs.Labels.{IsName}
use Rattle.dns_data.specs.declared.data_fault.DataFault.TheVariants.{TypeNotKept}
use Rattle.dns_data.specs.declared.record_type.RecordType.{RecordType}
use Rattle.dns_data.specs.Items.{ItemText, plain}
use Rattle.dns_data.specs.Types.{type_named, IsCalled}
use Rattle.dns_data.proofs.FieldLaws.{AreBytes, name_only}
use Rattle.dns_data.proofs.KeptLaws.{named_called}
use Rattle.dns_master.specs.declared.entry_fault.EntryFault.{EntryFault}
use Rattle.dns_master.specs.declared.entry_fault.EntryFault.TheVariants.{Data}
use Rattle.dns_master.specs.declared.field.Part.{Part}
use Rattle.dns_master.specs.declared.field.Part.TheVariants as parts
use Rattle.dns_master.specs.declared.field.TtlAndClass.{TtlAndClass}
use Rattle.dns_master.specs.declared.other.OtherPart.{OtherPart}
use Rattle.dns_master.specs.declared.other.OtherPart.TheVariants as others
use Rattle.dns_master.specs.EntryFaults.{◌>>=◌, of_datas}
use Rattle.dns_master.specs.EntryGrammar.{IsWord, SpellsTtl, IsClassOrNone, AreTtlAndClass, StatesOwner}
use Rattle.dns_master.specs.OtherTypes.{begins_with_letter, is_class}
use Rattle.dns_master.specs.Fields.{begins_with_digit, is_other_class, part_of}
use Rattle.dns_master.specs.Statements.{owner_of, behind_owner}
use Rattle.dns_master.specs.AnyRecords.{OtherLead, StatedOther, ends_open, whole_lead, other_part, with_next, other_lead_of, other_behind, other_of}
use Rattle.dns_master.specs.OtherGrammar.{StatesOther}
use Rattle.dns_master.proofs.PartLaws.{step_ok, no_digit, neither, and_none, part_ttl, part_class, part_found, Follow, follow_none, follow_ttl, follow_class}
use Rattle.dns_master.proofs.StatementLaws.{HasOwner, ok_same, owner_found}
use Rattle.dns_master.proofs.CutLaws.{by_bool}
use Rattle.dns_master.proofs.OtherLaws.{kind_word}
use Rattle.dns_master.proofs.WholeLaws.{more_is, kind_is, item_named, whole_is}

abbrev Labels : Type 0
Labels = List (List ℕ)

-- TTL and class that were read, and the items of the type and of the data
pub record LeadRead (read : TtlAndClass) (items : List ItemText) (x : OtherLead) : Type 0 where
  pub lead : List ItemText
  pub items_are : items ≡ lead ++ plain x.kind ∷ x.fields
  pub follow : Follow read.ttl read.has_class x.ttl lead
  pub not_kept : type_named x.kind ≡ None

abbrev item_with : List ℕ → Bool → ItemText
item_with raw quoted = record { raw = raw; quoted = quoted }

-- an item that is refused for its type is not quoted
plain_kind : (read : TtlAndClass) (raw : List ℕ) (quoted : Bool) → part_of read (item_with raw quoted) ≡ Err (Data TypeNotKept) → item_with raw quoted ≡ plain raw
plain_kind read raw true e = absurd cc
plain_kind read raw false e = refl

one_more : (read next : TtlAndClass) (item : ItemText) (items : List ItemText) (x : OtherLead) → part_of read item ≡ Ok (parts.More next) → LeadRead next items x → LeadRead read (item ∷ items) x
one_more read next item items x e r =
    let p = part_found read item (parts.More next) e in
    let first : item ∷ items ≡ plain p.0 ∷ items = ap (λ (i : ItemText). i ∷ items) p.1 in
    let all : item ∷ items ≡ (plain p.0 ∷ r.lead) ++ plain x.kind ∷ x.fields = first ∙ ap (λ (l : List ItemText). plain p.0 ∷ l) r.items_are in
    elim p.2 [
      | inl t ↦ (
          let same : next ≡ record { ttl = Some t.1.0; has_class = read.has_class } = cc in
          let behind : Follow (Some t.1.0) read.has_class x.ttl r.lead = subst (λ (n : TtlAndClass). Follow n.ttl n.has_class x.ttl r.lead) same r.follow in
          let whole : LeadRead read (item ∷ items) x = record {
            lead = plain p.0 ∷ r.lead;
            items_are = all;
            follow = subst (λ (o : Option ℕ). Follow o read.has_class x.ttl (plain p.0 ∷ r.lead)) (sym t.0) (follow_ttl read.has_class t.1.0 p.0 x.ttl r.lead t.1.1 behind);
            not_kept = r.not_kept;
          } in whole)
      | inr q ↦ elim q [
        | inl c ↦ (
            let same : next ≡ record { ttl = read.ttl; has_class = true } = cc in
            let behind : Follow read.ttl true x.ttl r.lead = subst (λ (n : TtlAndClass). Follow n.ttl n.has_class x.ttl r.lead) same r.follow in
            let whole : LeadRead read (item ∷ items) x = record {
              lead = plain p.0 ∷ r.lead;
              items_are = all;
              follow = subst (λ (b : Bool). Follow read.ttl b x.ttl (plain p.0 ∷ r.lead)) (sym c.0) (follow_class read.ttl x.ttl p.0 r.lead c.1 behind);
              not_kept = r.not_kept;
            } in whole)
        | inr t ↦ absurd (let no = t.2 in cc)
      ]
    ]

next_read : (read : TtlAndClass) (item : ItemText) (items : List ItemText) (part : OtherPart) (x : OtherLead) → other_part read.ttl (part_of read item) ≡ Ok part → with_next item items part (λ n. other_lead_of n items) ≡ Ok x
    → ((n : TtlAndClass) → other_lead_of n items ≡ Ok x → LeadRead n items x) → LeadRead read (item ∷ items) x
next_read read item items (others.Kind ttl) x e w more =
    let k = kind_is read.ttl ttl (part_of read item) e in
    let kind : item ≡ plain item.raw = plain_kind read item.raw item.quoted k.0 in
    let here : LeadRead read (item ∷ items) (record { ttl = ttl; kind = item.raw; fields = items }) = record {
      lead = [];
      items_are = ap (λ (i : ItemText). i ∷ items) kind;
      follow = subst (λ (o : Option ℕ). Follow read.ttl read.has_class o []) (sym k.1) (follow_none read.ttl read.has_class);
      not_kept = item_named read item.raw item.quoted k.0;
    } in
    subst (LeadRead read (item ∷ items)) (sym (ok_same (record { ttl = ttl; kind = item.raw; fields = items }) x w)) here
next_read read item items (others.More n) x e w more = one_more read n item items x (more_is read.ttl (part_of read item) n e) (more n w)

lead_read : (read : TtlAndClass) (items : List ItemText) (x : OtherLead) → other_lead_of read items ≡ Ok x → LeadRead read items x
lead_read read [] x e = absurd cc
lead_read read (item ∷ items) x e =
    let s = step_ok (other_part read.ttl (part_of read item)) (λ next. with_next item items next (λ n. other_lead_of n items)) x e in
    next_read read item items s.0 x s.1 s.2 (λ n q. lead_read n items x q)

or_false : (a b : Bool) → (a || b) ≡ false → (a ≡ false) × (b ≡ false)
or_false true b e = absurd cc
or_false false b e = (refl, e)

none_open : (items : List ItemText) → list_any ends_open items ≡ false → AllByRecursion (λ item. ends_open item ≡ false) items
none_open [] e = tt
none_open (item ∷ items) e = let p = or_false (ends_open item) (list_any ends_open items) e in (p.0, none_open items p.1)

not_called : (kind : List ℕ) → type_named kind ≡ None → (t : RecordType) → IsCalled t kind → ⊥
not_called kind none t h = let some = (named_called kind t).1 h in absurd cc

-- what an entry of another type is read as, it states
pub other_found : (origin : Labels) (owner : Option Labels) (white : Bool) (items : List ItemText) (o : StatedOther) → IsName origin → AreBytes items → other_of origin owner white items ≡ Ok o → StatesOther origin white items o
other_found origin owner white items o is bytes e =
    let rest = behind_owner white items in
    let a = step_ok (owner_of origin owner white items) (λ own. other_behind own rest) o e in
    let b = step_ok (other_lead_of (record { ttl = None; has_class = false }) rest) (λ read. whole_lead read >>= λ l. Ok (record { owner = a.0; ttl = l.ttl; kind = l.kind; fields = l.fields })) o a.2 in
    let c = step_ok (whole_lead b.0) (λ l. Ok (record { owner = a.0; ttl = l.ttl; kind = l.kind; fields = l.fields })) o b.2 in
    let w = whole_is b.0 c.0 c.1 in
    let own = owner_found origin owner white items a.0 is bytes a.1 in
    let l = lead_read (record { ttl = None; has_class = false }) rest b.0 b.1 in
    let same : o ≡ record { owner = a.0; ttl = b.0.ttl; kind = b.0.kind; fields = b.0.fields } =
    ok_same _ o c.2 ∙ ap (λ (x : OtherLead). let s : StatedOther = record { owner = a.0; ttl = x.ttl; kind = x.kind; fields = x.fields } in s) w.0 in
    let made : StatesOther origin white items (record { owner = a.0; ttl = b.0.ttl; kind = b.0.kind; fields = b.0.fields }) = record {
      owner = own.front;
      lead = l.lead;
      items_are = own.items_are ∙ ap (λ (r : List ItemText). own.front ++ r) l.items_are;
      owner_is = own.states;
      lead_is = l.follow;
      kind_is = w.1;
      not_kept = not_called b.0.kind l.not_kept;
      whole = none_open b.0.fields w.2;
    } in
    subst (StatesOther origin white items) (sym same) made

-- ---- and what is in the grammar is read

alpha_above : (o : ℕ) → is_ascii_alphabetic o ≡ true → 64 < o
alpha_above o e = by_bool (is_in_range 65 90 o)
    (λ h. let le = leb-true 65 o (and_parts (leb 65 o) (leb o 90) h).0 in omega arith)
    (λ h. let second : is_in_range 97 122 o ≡ true = rw h at e in let le = leb-true 97 o (and_parts (leb 97 o) (leb o 122) second).0 in omega arith)

letter_digit : (kind : List ℕ) → begins_with_letter kind ≡ true → begins_with_digit kind ≡ false
letter_digit [] e = absurd cc
letter_digit (o ∷ rest) e = no_digit o (alpha_above o e)

none_named : (kind : List ℕ) → ((t : RecordType) → IsCalled t kind → ⊥) → (r : Option RecordType) → type_named kind ≡ r → r ≡ None
none_named kind none None e = refl
none_named kind none (Some t) e = absurd (none t ((named_called kind t).0 e))

module _ (kind : List ℕ) (fields : List ItemText) (none : type_named kind ≡ None) (digit : begins_with_digit kind ≡ false) (no : is_class kind ≡ false) where
  abbrev lead_made : Option ℕ → OtherLead
  lead_made own = record { ttl = own; kind = kind; fields = fields }

  abbrev after : ItemText → List ItemText → OtherPart → Result OtherLead EntryFault
  after item items part = with_next item items part (λ n. other_lead_of n items)

  refused_kind : (own : Option ℕ) (class : Bool) → part_of (record { ttl = own; has_class = class }) (plain kind) ≡ Err (Data TypeNotKept)
  refused_kind own class =
      let c = neither (str_eq_ignore_ascii_case kind (codes "IN")) (is_other_class kind) no in
      rw (and_none (not (is_some own)) (begins_with_digit kind) digit, and_none (not class) (str_eq_ignore_ascii_case kind (codes "IN")) c.0, and_none (not class) (is_other_class kind) c.1, none) refl

  at_kind : (own : Option ℕ) (class : Bool) → other_lead_of (record { ttl = own; has_class = class }) (plain kind ∷ fields) ≡ Ok (lead_made own)
  at_kind own class = ap (λ (r : Result Part EntryFault). other_part own r >>= after (plain kind) fields) (refused_kind own class)

  at_ttl : (class : Bool) (raw : List ℕ) (ttl : ℕ) (items : List ItemText) → SpellsTtl ttl raw → other_lead_of (record { ttl = None; has_class = class }) (plain raw ∷ items) ≡ other_lead_of (record { ttl = Some ttl; has_class = class }) items
  at_ttl class raw ttl items s = ap (λ (r : Result Part EntryFault). other_part None r >>= after (plain raw) items) (part_ttl class raw ttl s)

  at_class : (own : Option ℕ) (raw : List ℕ) (items : List ItemText) → IsWord (codes "IN") raw → other_lead_of (record { ttl = own; has_class = false }) (plain raw ∷ items) ≡ other_lead_of (record { ttl = own; has_class = true }) items
  at_class own raw items s = ap (λ (r : Result Part EntryFault). other_part own r >>= after (plain raw) items) (part_class own raw s)

  class_or_none : (own : Option ℕ) (lead : List ItemText) → IsClassOrNone lead → other_lead_of (record { ttl = own; has_class = false }) (lead ++ plain kind ∷ fields) ≡ Ok (lead_made own)
  class_or_none own lead (inl e) = ap (λ (l : List ItemText). other_lead_of (record { ttl = own; has_class = false }) (l ++ plain kind ∷ fields)) e ∙ at_kind own false
  class_or_none own lead (inr c) =
      ap (λ (l : List ItemText). other_lead_of (record { ttl = own; has_class = false }) (l ++ plain kind ∷ fields)) c.1 ∙ at_class own c.0 (plain kind ∷ fields) c.2 ∙ at_kind own true

  behind_class : (ttl : ℕ) (front : List ItemText) (raw : List ℕ) → SpellsTtl ttl raw → IsClassOrNone front → other_lead_of (record { ttl = None; has_class = false }) (front ++ plain raw ∷ plain kind ∷ fields) ≡ Ok (lead_made (Some ttl))
  behind_class ttl front raw s (inl e) =
      ap (λ (l : List ItemText). other_lead_of (record { ttl = None; has_class = false }) (l ++ plain raw ∷ plain kind ∷ fields)) e ∙ at_ttl false raw ttl (plain kind ∷ fields) s ∙ at_kind (Some ttl) false
  behind_class ttl front raw s (inr c) =
      ap (λ (l : List ItemText). other_lead_of (record { ttl = None; has_class = false }) (l ++ plain raw ∷ plain kind ∷ fields)) c.1
      ∙ at_class None c.0 (plain raw ∷ plain kind ∷ fields) c.2 ∙ at_ttl true raw ttl (plain kind ∷ fields) s ∙ at_kind (Some ttl) true

  pub other_lead_only : (ttl : Option ℕ) (lead : List ItemText) → AreTtlAndClass ttl lead → other_lead_of (record { ttl = None; has_class = false }) (lead ++ plain kind ∷ fields) ≡ Ok (lead_made ttl)
  other_lead_only None lead f = class_or_none None lead f
  other_lead_only (Some ttl) lead f =
      let R : List ItemText → Type 0 = λ l. other_lead_of (record { ttl = None; has_class = false }) (l ++ plain kind ∷ fields) ≡ Ok (lead_made (Some ttl)) in
      subst R (sym f.3) (elim f.5 [
        | inl c ↦ (
            let parts_are : (f.0 ++ plain f.2 ∷ f.1) ++ plain kind ∷ fields ≡ f.0 ++ plain f.2 ∷ plain kind ∷ fields =
            append_assoc f.0 (plain f.2 ∷ f.1) (plain kind ∷ fields) ∙ ap (λ (l : List ItemText). f.0 ++ plain f.2 ∷ (l ++ plain kind ∷ fields)) c.1 in
            ap (other_lead_of (record { ttl = None; has_class = false })) parts_are ∙ behind_class ttl f.0 f.2 f.4 c.0)
        | inr c ↦ (
            let parts_are : (f.0 ++ plain f.2 ∷ f.1) ++ plain kind ∷ fields ≡ plain f.2 ∷ (f.1 ++ plain kind ∷ fields) = ap (λ (l : List ItemText). (l ++ plain f.2 ∷ f.1) ++ plain kind ∷ fields) c.0 in
            ap (other_lead_of (record { ttl = None; has_class = false })) parts_are ∙ at_ttl false f.2 ttl (f.1 ++ plain kind ∷ fields) f.4 ∙ class_or_none (Some ttl) f.1 c.1)
      ])

open_none : (items : List ItemText) → AllByRecursion (λ item. ends_open item ≡ false) items → list_any ends_open items ≡ false
open_none [] h = refl
open_none (item ∷ items) h = rw h.0 (open_none items h.1)

-- the owner that is stated is read
owner_only : (origin : Labels) (owner own : Option Labels) (white : Bool) (front rest : List ItemText) → IsName origin → HasOwner own owner → StatesOwner origin white own front
    → (owner_of origin owner white (front ++ rest) ≡ Ok own) × (behind_owner white (front ++ rest) ≡ rest)
owner_only origin None None true front rest is has s = absurd has
owner_only origin (Some owner) None true front rest is has s = (
  refl,
  ap (λ (l : List ItemText). l ++ rest) s,
)
owner_only origin owner (Some own) true front rest is has s = absurd s
owner_only origin owner None false front rest is has s = absurd s
owner_only origin None (Some own) false front rest is has s =
    let whole : front ++ rest ≡ plain s.0 ∷ rest = ap (λ (l : List ItemText). l ++ rest) s.1 in (
      ap (owner_of origin None false) whole ∙ ap (λ (r : Result Labels EntryFault). r >>= λ n. Ok (Some n)) (ap of_datas (name_only (Some origin) is s.0 own s.2)),
      ap (behind_owner false) whole,
    )
owner_only origin (Some owner) (Some own) false front rest is has s =
    let whole : front ++ rest ≡ plain s.0 ∷ rest = ap (λ (l : List ItemText). l ++ rest) s.1 in (
      ap (owner_of origin (Some owner) false) whole ∙ ap (λ (r : Result Labels EntryFault). r >>= λ n. Ok (Some n)) (ap of_datas (name_only (Some origin) is s.0 own s.2)),
      ap (behind_owner false) whole,
    )

-- what an entry of another type states, it is read as, if it states an owner or one is in force
pub other_only : (origin : Labels) (owner : Option Labels) (white : Bool) (items : List ItemText) (o : StatedOther) → IsName origin → HasOwner o.owner owner → StatesOther origin white items o → other_of origin owner white items ≡ Ok o
other_only origin owner white items o is has h =
    let rest = h.lead ++ plain o.kind ∷ o.fields in
    let w = kind_word o.kind h.kind_is in
    let own = owner_only origin owner o.owner white h.owner rest is has h.owner_is in
    let lead = other_lead_only o.kind o.fields (none_named o.kind h.not_kept (type_named o.kind) refl) (letter_digit o.kind w.letter) w.class o.ttl h.lead h.lead_is in
    let all : whole_lead (record { ttl = o.ttl; kind = o.kind; fields = o.fields }) ≡ Ok (record { ttl = o.ttl; kind = o.kind; fields = o.fields }) = rw (h.kind_is, open_none o.fields h.whole) refl in
    ap (other_of origin owner white) h.items_are
    ∙ ap (λ (r : Result (Option Labels) EntryFault). r >>= λ x. other_behind x (behind_owner white (h.owner ++ rest))) own.0
    ∙ ap (other_behind o.owner) own.1
    ∙ ap (λ (r : Result OtherLead EntryFault). r >>= λ read. whole_lead read >>= λ l. Ok (record { owner = o.owner; ttl = l.ttl; kind = l.kind; fields = l.fields })) lead
    ∙ ap (λ (r : Result OtherLead EntryFault). r >>= λ l. Ok (record { owner = o.owner; ttl = l.ttl; kind = l.kind; fields = l.fields })) all
