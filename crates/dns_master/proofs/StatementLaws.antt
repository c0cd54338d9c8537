-- Entries: what is read is in the grammar, and what is in the grammar is read.
use Rattle.std.proofs.Common.{◌≡◌, ℕ, Bool, true, false, eqb, not, List, [], ◌∷◌, ◌++◌, Option, Some, None, Result, Ok, Err, refl, sym, ap, subst, ◌∙◌, arith, eqb-true, ne_eqb}
use Rattle.std.proofs.lemmas.Bool.{cond_both, and_parts}
use Rattle.std.specs.Prelude.{codes}
use Rattle.std.specs.Str.{str_to_ascii_lowercase, str_eq_ignore_ascii_case}
use Rattle.dns_names.specs.Labels.{IsName}
use Rattle.dns_names.proofs.SymbolLaws.{IsBytes, All-parts}
use Rattle.dns_data.specs.declared.data_fault.DataFault.{DataFault}
use Rattle.dns_data.specs.declared.rdata.Data.{Data}
use Rattle.dns_data.specs.Items.{ItemText, plain}
use Rattle.dns_data.specs.declared.record_type.RecordType.{RecordType}
use Rattle.dns_data.specs.Rdata.{type_of}
use Rattle.dns_data.specs.Types.{IsCalled}
use Rattle.dns_data.specs.Grammar.{SpellsName, IsData}
use Rattle.dns_data.specs.Reading.{name_of, data_of}
use Rattle.dns_data.proofs.FieldLaws.{AreBytes, name_found, name_only}
use Rattle.dns_data.proofs.DataLaws.{data_found, data_only}
use Rattle.dns_master.specs.declared.entry_fault.EntryFault.{EntryFault}
use Rattle.dns_master.specs.declared.entry_fault.EntryFault.TheVariants.{DirectiveNotKept}
use Rattle.dns_master.specs.declared.field.TtlAndClass.{TtlAndClass}
use Rattle.dns_master.specs.declared.statement.StatedRecord.{StatedRecord}
use Rattle.dns_master.specs.declared.statement.Statement.{Statement}
use Rattle.dns_master.specs.declared.statement.Statement.TheVariants.{Origin, DefaultTtl, Record}
use Rattle.dns_master.specs.EntryFaults.{◌>>=◌, of_datas}
use Rattle.dns_master.specs.Fields.{LeadText, unquoted, name_at, ttl_of, lead_of}
use Rattle.dns_master.specs.Statements.{begins_with_dollar, is_directive, no_more, origin_of, default_ttl_of, directive_of, owner_of, behind_owner, record_of, statement_of}
use Rattle.dns_master.specs.EntryGrammar.{IsWord, SpellsTtl, AreTtlAndClass, StatesOwner, StatesRecord, IsDirective, States}
use Rattle.dns_master.proofs.PartLaws.{step_ok, unquoted_is, same_case, same_word, word_same, ttl_found, ttl_only, lead_found, lead_only}

abbrev Labels : Type 0
Labels = List (List ℕ)

pub datas_ok : {A : Type 0} (r : Result A DataFault) (x : A) → of_datas r ≡ Ok x → r ≡ Ok x
datas_ok (Ok y) x e = cc
datas_ok (Err f) x e = absurd cc

-- ---- names and TTLs

name_at_found : (origin : Labels) (item : ItemText) (name : Labels) → IsName origin → IsBytes item.raw → name_at origin item ≡ Ok name → (raw : List ℕ) × (item ≡ plain raw) × SpellsName (Some origin) name raw
name_at_found origin item name is bytes e =
    let s = step_ok (unquoted item) (λ raw. of_datas (name_of (Some origin) raw)) name e in
    let p = unquoted_is item s.0 s.1 in
    let octets : IsBytes s.0 = subst IsBytes (ap (λ (i : ItemText). i.raw) p) bytes in
    (s.0, p, name_found (Some origin) is s.0 name octets (datas_ok (name_of (Some origin) s.0) name s.2))

name_at_only : (origin : Labels) (raw : List ℕ) (name : Labels) → IsName origin → SpellsName (Some origin) name raw → name_at origin (plain raw) ≡ Ok name
name_at_only origin raw name is h = ap of_datas (name_only (Some origin) is raw name h)

none_more : (items : List ItemText) → (done : Unit {0}) → no_more items ≡ Ok done → items ≡ []
none_more [] done e = refl
none_more (item ∷ items) done e = absurd cc

pub ok_same : {A : Type 0} (x y : A) → ◌≡◌ {A = Result A EntryFault} (Ok x) (Ok y) → y ≡ x
ok_same x y e = cc

-- ---- directives

origin_found : (origin : Labels) (word : List ℕ) (items : List ItemText) (s : Statement) (white : Bool) → IsName origin → AreBytes items → IsWord (codes "$ORIGIN") word → origin_of origin items ≡ Ok s → States origin white (plain word ∷ items) s
origin_found origin word [] s white is bytes h e = absurd cc
origin_found origin word (item ∷ items) s white is bytes h e =
    let a = step_ok (name_at origin item) (λ name. no_more items >>= λ _. Ok (Origin name)) s e in
    let b = step_ok (no_more items) (λ _. Ok (Origin a.0)) s a.2 in
    let n = name_at_found origin item a.0 is bytes.0 a.1 in
    let whole : plain word ∷ item ∷ items ≡ plain word ∷ plain n.0 ∷ [] = ap (λ (i : ItemText). plain word ∷ i ∷ items) n.1 ∙ ap (λ (l : List ItemText). plain word ∷ plain n.0 ∷ l) (none_more items b.0 b.1) in
    let stated : States origin white (plain word ∷ item ∷ items) (Origin a.0) = (word, n.0, whole, h, n.2) in
    subst (States origin white (plain word ∷ item ∷ items)) (sym (ok_same (Origin a.0) s b.2)) stated

ttl_stated : (origin : Labels) (word : List ℕ) (items : List ItemText) (s : Statement) (white : Bool) → IsWord (codes "$TTL") word → default_ttl_of items ≡ Ok s → States origin white (plain word ∷ items) s
ttl_stated origin word [] s white h e = absurd cc
ttl_stated origin word (item ∷ items) s white h e =
    let a = step_ok (unquoted item) (λ raw. ttl_of raw >>= λ ttl. no_more items >>= λ _. Ok (DefaultTtl ttl)) s e in
    let t = step_ok (ttl_of a.0) (λ ttl. no_more items >>= λ _. Ok (DefaultTtl ttl)) s a.2 in
    let b = step_ok (no_more items) (λ _. Ok (DefaultTtl t.0)) s t.2 in
    let whole : plain word ∷ item ∷ items ≡ plain word ∷ plain a.0 ∷ [] = ap (λ (i : ItemText). plain word ∷ i ∷ items) (unquoted_is item a.0 a.1) ∙ ap (λ (l : List ItemText). plain word ∷ plain a.0 ∷ l) (none_more items b.0 b.1) in
    let stated : States origin white (plain word ∷ item ∷ items) (DefaultTtl t.0) = (word, a.0, whole, h, ttl_found a.0 t.0 t.1) in
    subst (States origin white (plain word ∷ item ∷ items)) (sym (ok_same (DefaultTtl t.0) s b.2)) stated

directive_found : (origin : Labels) (word : List ℕ) (items : List ItemText) (s : Statement) (white : Bool) → IsName origin → AreBytes items → directive_of origin word items ≡ Ok s → States origin white (plain word ∷ items) s
directive_found origin word items s white is bytes =
    let Reads : Result Statement EntryFault → Type 0 = λ r. r ≡ Ok s → States origin white (plain word ∷ items) s in
    cond_both (str_eq_ignore_ascii_case word (codes "$ORIGIN")) (origin_of origin items) _ Reads
    (λ h e. origin_found origin word items s white is bytes (word_same word (codes "$ORIGIN") h) e)
    (λ _. cond_both (str_eq_ignore_ascii_case word (codes "$TTL")) (default_ttl_of items) (Err DirectiveNotKept) Reads
    (λ h e. ttl_stated origin word items s white (word_same word (codes "$TTL") h) e)
    (λ _ e. absurd cc))

-- ---- records

-- the owner that was read, and its item
pub record OwnerRead (origin : Labels) (owner : Option Labels) (white : Bool) (items : List ItemText) (own : Option Labels) : Type 0 where
  pub front : List ItemText
  pub items_are : items ≡ front ++ behind_owner white items
  pub states : StatesOwner origin white own front
  pub bytes : AreBytes (behind_owner white items)

pub owner_found : (origin : Labels) (owner : Option Labels) (white : Bool) (items : List ItemText) (own : Option Labels) → IsName origin → AreBytes items → owner_of origin owner white items ≡ Ok own → OwnerRead origin owner white items own
owner_found origin None true items own is bytes e = absurd cc
owner_found origin (Some owner) true items own is bytes e =
    let here : OwnerRead origin (Some owner) true items None = record { front = []; items_are = refl; states = refl; bytes = bytes } in
    subst (OwnerRead origin (Some owner) true items) (sym (ok_same None own e)) here
owner_found origin owner false [] own is bytes e = absurd cc
owner_found origin owner false (item ∷ items) own is bytes e =
    let a = step_ok (name_at origin item) (λ name. Ok (Some name)) own e in
    let n = name_at_found origin item a.0 is bytes.0 a.1 in
    let here : OwnerRead origin owner false (item ∷ items) (Some a.0) = record {
      front = item ∷ [];
      items_are = refl;
      states = (n.0, ap (λ (i : ItemText). i ∷ []) n.1, n.2);
      bytes = bytes.1;
    } in
    subst (OwnerRead origin owner false (item ∷ items)) (sym (ok_same (Some a.0) own a.2)) here

fields_bytes : (lead : List ItemText) (kind : ItemText) (fields items : List ItemText) → items ≡ lead ++ kind ∷ fields → AreBytes items → AreBytes fields
fields_bytes lead kind fields items e bytes = (All-parts (λ item. IsBytes item.raw) lead (kind ∷ fields) (subst AreBytes e bytes)).1.1

record_found : (origin : Labels) (owner : Option Labels) (white : Bool) (items : List ItemText) (s : Statement) → IsName origin → AreBytes items → record_of origin owner white items ≡ Ok s → (stated : StatedRecord) × (s ≡ Record stated) × StatesRecord origin white items stated
record_found origin owner white items s is bytes e =
    let start : TtlAndClass = record { ttl = None; has_class = false } in
    let a = step_ok (owner_of origin owner white items) _ s e in
    let b = step_ok (lead_of start (behind_owner white items)) _ s a.2 in
    let d = step_ok (of_datas (data_of b.0.1 (Some origin) b.0.2)) _ s b.2 in
    let o = owner_found origin owner white items a.0 is bytes a.1 in
    let l = lead_found start (behind_owner white items) b.0 b.1 in
    let f = data_found b.0.1 (Some origin) b.0.2 d.0 is (fields_bytes l.lead (plain l.kind) b.0.2 (behind_owner white items) l.items_are o.bytes) (datas_ok (data_of b.0.1 (Some origin) b.0.2) d.0 d.1) in (
      record { owner = a.0; ttl = b.0.0; rdata = d.0 },
      ok_same _ s d.2,
      record {
        owner = o.front;
        lead = l.lead;
        kind = l.kind;
        fields = b.0.2;
        items_are = o.items_are ∙ ap (λ (r : List ItemText). o.front ++ r) l.items_are;
        owner_is = o.states;
        lead_is = l.follow;
        kind_is = subst (λ (t : RecordType). IsCalled t l.kind) (sym f.0) l.called;
        fields_are = f.1;
      },
    )

-- ---- entries

-- an item whose first octet is `$`, unquoted
dollar_first : (raw : List ℕ) → begins_with_dollar raw ≡ true → (rest : List ℕ) × (raw ≡ 36 ∷ rest)
dollar_first [] e = absurd cc
dollar_first (o ∷ rest) e = (rest, ap (λ (c : ℕ). c ∷ rest) (eqb-true o 36 e))

abbrev item_with : List ℕ → Bool → ItemText
item_with raw quoted = record { raw = raw; quoted = quoted }

not_quoted : (q : Bool) → not q ≡ true → q ≡ false
not_quoted false e = refl
not_quoted true e = absurd cc

directive_plain : (item : ItemText) → is_directive item ≡ true → item ≡ plain item.raw
directive_plain item e = ap (item_with item.raw) (not_quoted item.quoted (and_parts (begins_with_dollar item.raw) (not item.quoted) e).1)

directive_is : (item : ItemText) (items : List ItemText) → is_directive item ≡ true → IsDirective (item ∷ items)
directive_is item items e =
    let d = dollar_first item.raw (and_parts (begins_with_dollar item.raw) (not item.quoted) e).0 in
    (d.0, items, ap (λ (i : ItemText). i ∷ items) (directive_plain item e ∙ ap plain d.1))

is_no_directive : (item : ItemText) (items : List ItemText) → is_directive item ≡ false → IsDirective (item ∷ items) → ⊥
is_no_directive item items e d =
    let same : item ≡ plain (36 ∷ d.0) = cc in
    let yes : is_directive item ≡ true = ap is_directive same in
    absurd (let both = sym e ∙ yes in cc)

as_record : (origin : Labels) (white : Bool) (items : List ItemText) (s : Statement) → (IsDirective items → ⊥) → (stated : StatedRecord) × (s ≡ Record stated) × StatesRecord origin white items stated → States origin white items s
as_record origin white items s none r = let here : States origin white items (Record r.0) = (none, r.2) in subst (States origin white items) (sym r.1) here

pub statement_found : (origin : Labels) (owner : Option Labels) (white : Bool) (items : List ItemText) (s : Statement) → IsName origin → AreBytes items → statement_of origin owner white items ≡ Ok s → States origin white items s
statement_found origin owner white [] s is bytes e = as_record origin white [] s (λ d. absurd (let no = d.2 in cc)) (record_found origin owner white [] s is bytes e)
statement_found origin owner white (item ∷ items) s is bytes e =
    let Reads : Result Statement EntryFault → Type 0 = λ r. r ≡ Ok s → States origin white (item ∷ items) s in
    cond_both (is_directive item) (directive_of origin item.raw items) (record_of origin owner white (item ∷ items)) Reads
    (λ d f. subst (λ (i : ItemText). States origin white (i ∷ items) s) (sym (directive_plain item d)) (directive_found origin item.raw items s white is bytes.1 f))
    (λ d f. as_record origin white (item ∷ items) s (is_no_directive item items d) (record_found origin owner white (item ∷ items) s is bytes f))
    e

-- ---- and what is in the grammar is read

dollar_case : (raw : List ℕ) → begins_with_dollar (str_to_ascii_lowercase raw) ≡ begins_with_dollar raw
dollar_case [] = refl
dollar_case (o ∷ rest) = same_case (λ c. eqb c 36) (λ c h. ne_eqb c 36 (λ e. omega arith)) o

word_directive : (word text : List ℕ) → IsWord text word → begins_with_dollar (str_to_ascii_lowercase text) ≡ true → begins_with_dollar word ≡ true
word_directive word text h e = sym (dollar_case word) ∙ ap begins_with_dollar h ∙ e

origin_only : (origin : Labels) (owner : Option Labels) (white : Bool) (word raw : List ℕ) (name : Labels) → IsName origin → IsWord (codes "$ORIGIN") word → SpellsName (Some origin) name raw → statement_of origin owner white (plain word ∷ plain raw ∷ []) ≡ Ok (Origin name)
origin_only origin owner white word raw name is h n =
    rw (word_directive word (codes "$ORIGIN") h refl, same_word word (codes "$ORIGIN") h)
    (ap (λ (r : Result Labels EntryFault). r >>= λ x. no_more [] >>= λ _. Ok (Origin x)) (name_at_only origin raw name is n))

ttl_only_stated : (origin : Labels) (owner : Option Labels) (white : Bool) (word raw : List ℕ) (ttl : ℕ) → IsWord (codes "$TTL") word → SpellsTtl ttl raw → statement_of origin owner white (plain word ∷ plain raw ∷ []) ≡ Ok (DefaultTtl ttl)
ttl_only_stated origin owner white word raw ttl h n =
    let other : str_eq_ignore_ascii_case word (codes "$ORIGIN") ≡ false = rw h refl in
    rw (word_directive word (codes "$TTL") h refl, other, same_word word (codes "$TTL") h)
    (ap (λ (r : Result ℕ EntryFault). r >>= λ x. no_more [] >>= λ _. Ok (DefaultTtl x)) (ttl_only raw ttl n))

-- an owner is stated, or one is in force
abbrev pub HasOwner : Option Labels → Option Labels → Type 0
HasOwner None None = ⊥
HasOwner own owner = Unit {0}

abbrev start : TtlAndClass
start = record { ttl = None; has_class = false }

after_owner : (origin : Labels) (owner : Option Labels) (white : Bool) (items lead fields : List ItemText) (kind : List ℕ) (own : Option Labels) (stated : StatedRecord) → IsName origin
    → owner_of origin owner white items ≡ Ok own → behind_owner white items ≡ lead ++ plain kind ∷ fields → stated.owner ≡ own → AreTtlAndClass stated.ttl lead
    → IsCalled (type_of stated.rdata) kind → IsData (Some origin) stated.rdata fields → record_of origin owner white items ≡ Ok (Record stated)
after_owner origin owner white items lead fields kind own stated is o behind same l k f =
    let t = type_of stated.rdata in
    let read : lead_of start (behind_owner white items) ≡ Ok (stated.ttl, t, fields) = ap (lead_of start) behind ∙ lead_only kind t k fields stated.ttl lead l in
    let rdata : of_datas (data_of t (Some origin) fields) ≡ Ok stated.rdata = ap of_datas (data_only t (Some origin) fields stated.rdata is refl f) in
    ap (λ (r : Result (Option Labels) EntryFault). r >>= λ own. lead_of start (behind_owner white items) >>= λ lead. of_datas (data_of lead.1 (Some origin) lead.2) >>= λ rdata. Ok (Record (record { owner = own; ttl = lead.0; rdata = rdata }))) (o ∙ ap (λ (x : Option Labels). Ok x) (sym same))
    ∙ ap (λ (r : Result LeadText EntryFault). r >>= λ lead. of_datas (data_of lead.1 (Some origin) lead.2) >>= λ rdata. Ok (Record (record { owner = stated.owner; ttl = lead.0; rdata = rdata }))) read
    ∙ ap (λ (r : Result Data EntryFault). r >>= λ rdata. Ok (Record (record { owner = stated.owner; ttl = stated.ttl; rdata = rdata }))) rdata

record_only : (origin : Labels) (owner : Option Labels) (white : Bool) (items : List ItemText) (stated : StatedRecord) (own : Option Labels) → own ≡ stated.owner → IsName origin → HasOwner own owner → (r : StatesRecord origin white items stated) → StatesOwner origin white own r.owner → record_of origin owner white items ≡ Ok (Record stated)
record_only origin None true items stated None same is has r o = absurd has
record_only origin (Some owner) true items stated None same is has r o =
    let behind : items ≡ r.lead ++ plain r.kind ∷ r.fields = r.items_are ∙ ap (λ (f : List ItemText). f ++ (r.lead ++ plain r.kind ∷ r.fields)) o in
    after_owner origin (Some owner) true items r.lead r.fields r.kind None stated is refl behind (sym same) r.lead_is r.kind_is r.fields_are
record_only origin owner true items stated (Some own) same is has r o = absurd o
record_only origin owner false items stated None same is has r o = absurd o
record_only origin owner false items stated (Some own) same is has r o =
    let whole : items ≡ plain o.0 ∷ (r.lead ++ plain r.kind ∷ r.fields) = r.items_are ∙ ap (λ (f : List ItemText). f ++ (r.lead ++ plain r.kind ∷ r.fields)) o.1 in
    let read : owner_of origin owner false items ≡ Ok (Some own) = ap (owner_of origin owner false) whole ∙ ap (λ (x : Result Labels EntryFault). x >>= λ name. Ok (Some name)) (name_at_only origin o.0 own is o.2) in
    after_owner origin owner false items r.lead r.fields r.kind (Some own) stated is read (ap (behind_owner false) whole) (sym same) r.lead_is r.kind_is r.fields_are

no_directive : (origin : Labels) (owner : Option Labels) (white : Bool) (items : List ItemText) → (IsDirective items → ⊥) → statement_of origin owner white items ≡ record_of origin owner white items
no_directive origin owner white [] none = refl
no_directive origin owner white (item ∷ items) none =
    cond_both (is_directive item) (directive_of origin item.raw items) (record_of origin owner white (item ∷ items)) (λ (r : Result Statement EntryFault). r ≡ record_of origin owner white (item ∷ items))
    (λ d. absurd (none (directive_is item items d))) (λ _. refl)

-- the owner that a statement needs
abbrev pub NeedsOwner : Statement → Option Labels → Type 0
NeedsOwner (Record stated) owner = HasOwner stated.owner owner
NeedsOwner s owner = Unit {0}

pub statement_only : (origin : Labels) (owner : Option Labels) (white : Bool) (items : List ItemText) (s : Statement) → IsName origin → NeedsOwner s owner → States origin white items s → statement_of origin owner white items ≡ Ok s
statement_only origin owner white items (Origin name) is has h = ap (statement_of origin owner white) h.2 ∙ origin_only origin owner white h.0 h.1 name is h.3 h.4
statement_only origin owner white items (DefaultTtl ttl) is has h = ap (statement_of origin owner white) h.2 ∙ ttl_only_stated origin owner white h.0 h.1 ttl h.3 h.4
statement_only origin owner white items (Record stated) is has h =
    no_directive origin owner white items h.0 ∙ record_only origin owner white items stated stated.owner refl is has h.1 h.1.owner_is
