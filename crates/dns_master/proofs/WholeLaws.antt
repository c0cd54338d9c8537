-- What is read of a text of another type can be printed.
use Rattle.std.proofs.Common.{◌≡◌, ℕ, ◌≤◌, inl, inr, Bool, true, false, cond, not, eqb, leb, ltb, length, ◌||◌, ◌&&◌, List, [], ◌∷◌, ◌++◌, map, Option, Some, None, Result, Ok, Err, refl, sym, ap, subst, ◌∙◌, leb-true}
use Rattle.std.proofs.lemmas.Bool.{cond_both, and_from}
use Rattle.std.specs.Prelude.{codes, IfOk, IfSome}
use Rattle.std.specs.List.{AllByRecursion, list_any}
use Rattle.std.specs.Option.{is_some}
use Rattle.std.specs.Str.{str_eq_ignore_ascii_case}
use Rattle.dns_names.specs.Labels.{IsName}
use Rattle.dns_names.proofs.SymbolLaws.{IsBytes, All-both}
use Rattle.dns_data.specs.declared.data_fault.DataFault.{DataFault}
use Rattle.dns_data.specs.declared.data_fault.DataFault.TheVariants.{TypeNotKept, QuotedItem}
use Rattle.dns_data.specs.declared.record.Record.{Record}
use Rattle.dns_data.specs.declared.record_type.RecordType.{RecordType}
use Rattle.dns_data.specs.Items.{ItemText, plain, in_quotes}
use Rattle.dns_data.specs.Numbers.{duration_of}
use Rattle.dns_data.specs.Types.{type_named}
use Rattle.dns_data.proofs.FieldLaws.{AreBytes}
use Rattle.dns_master.specs.declared.shape.ShapeFault.{ShapeFault}
use Rattle.dns_master.specs.declared.entry_fault.EntryFault.{EntryFault}
use Rattle.dns_master.specs.declared.entry_fault.EntryFault.TheVariants.{NoOwner, NoTtl, ClassNotIn, Data}
use Rattle.dns_master.specs.declared.field.Part.{Part}
use Rattle.dns_master.specs.declared.field.Part.TheVariants as parts
use Rattle.dns_master.specs.declared.field.TtlAndClass.{TtlAndClass}
use Rattle.dns_master.specs.declared.file.FileFault.{FileFault}
use Rattle.dns_master.specs.declared.master_fault.MasterFault.{MasterFault}
use Rattle.dns_master.specs.declared.master_fault.MasterFault.TheVariants.{TooLarge}
use Rattle.dns_master.specs.declared.statement.Statement.{Statement}
use Rattle.dns_master.specs.declared.statement.Statement.TheVariants as statements
use Rattle.dns_master.specs.Pieces.{Piece, LineEnd, White, Comment, Open, Close, Quoted, Plain, Placed, lexed, is_quote, ends_item}
use Rattle.dns_master.specs.Grammar.{Runs, taken_behind, Stands, ArePieces}
use Rattle.dns_master.specs.Entries.{Found, Entry, Split, with_entry, end_of, begins_white, ended, at_piece, split, from, white_first, entries}
use Rattle.dns_master.specs.Entries as shape
use Rattle.dns_master.specs.Reader.{text_of}
use Rattle.dns_master.specs.EntryFaults.{◌>>=◌}
use Rattle.dns_master.specs.Fields.{ttl_of, in_ttl, or_not_kept, begins_with_digit, is_other_class, part_in, part_of}
use Rattle.dns_master.specs.Statements.{owner_of, behind_owner, statement_of}
use Rattle.dns_master.specs.InForce.{InForce, or_else, fitting_ttl, ttl_in_force, behind_entry, handed_in}
use Rattle.dns_master.specs.Files.{or_refused, records_of, first_left}
use Rattle.dns_master.specs.EntryGrammar.{AreTtlAndClass, StatesOwner, States}
use Rattle.dns_master.proofs.FoundLaws.{pieces_found}
use Rattle.dns_master.proofs.ByteLaws.{AreEntryBytes, bound, ok_of, entries_bytes}
use Rattle.dns_master.proofs.PartLaws.{step_ok, part_found}
use Rattle.dns_master.proofs.StatementLaws.{ok_same, owner_found, statement_found}
use Rattle.dns_master.proofs.FileLaws.{refused_ok}
use Rattle.dns_master.proofs.CleanLaws.{runs, Clean}
use Rattle.dns_master.specs.declared.other.OtherPart.{OtherPart}
use Rattle.dns_master.specs.declared.other.OtherPart.TheVariants as others
use Rattle.dns_master.specs.OtherTypes.{is_other_type}
use Rattle.dns_master.specs.AnyRecords.{OtherText, AnyRecord, Kept, Other, AnyTaken, OtherLead, StatedOther, is_not_kept, ends_open, whole_lead, other_part, with_next, other_lead_of, other_behind, other_of, behind_other, other_in, other_taken, any_of, any_taken, with_any, then_any, any_from, any_file_from, placed_any, any_on_lines, any_file}
use Rattle.dns_master.proofs.OtherLaws.{IsOther}

abbrev Labels : Type 0
Labels = List (List ℕ)

-- ---- items

-- an item that ends with no open backslash is cut so of any text in which a space or a line end stands after it
abbrev Cut : ItemText → Type 0
Cut item = taken_behind false item.raw ≡ false → Clean item

runs_from : (stops : ℕ → Bool) (taken : Bool) (text : List ℕ) → Runs stops taken text → taken_behind taken text ≡ false → runs stops taken text ≡ true
runs_from stops taken [] r e = rw e refl
runs_from stops true (o ∷ rest) r e = runs_from stops false rest r e
runs_from stops false (o ∷ rest) r e =
    and_from (not (stops o)) (runs stops (eqb o 92) rest) (let no : not (stops o) ≡ true = ap not r.0 in no) (runs_from stops (eqb o 92) rest r.1 e)

abbrev PieceCut : Piece → Type 0
PieceCut (Quoted raw) = Cut (in_quotes raw)
PieceCut (Plain raw) = Cut (plain raw)
PieceCut p = Unit {0}

stands_cut : (p : Piece) (after : List ℕ) → Stands p after → PieceCut p
stands_cut LineEnd after s = tt
stands_cut (White o) after s = tt
stands_cut (Comment t) after s = tt
stands_cut Open after s = tt
stands_cut Close after s = tt
stands_cut (Quoted raw) after s = λ e. runs_from is_quote false raw s.0 e
stands_cut (Plain []) after s = absurd s
stands_cut (Plain (o ∷ raw)) after s = λ e. runs_from ends_item false (o ∷ raw) s.0 e

abbrev ArePiecesCut : List Placed → Type 0
ArePiecesCut ps = AllByRecursion (λ p. PieceCut p.piece) ps

pieces_cut : (ps : List Placed) (open_quote : Option ℕ) (text : List ℕ) → ArePieces (map (λ p. p.piece) ps) open_quote text → ArePiecesCut ps
pieces_cut [] open_quote text h = tt
pieces_cut (p ∷ ps) open_quote text h = (stands_cut p.piece h.0 h.2, pieces_cut ps open_quote h.0 h.3)

abbrev AreCut : List ItemText → Type 0
AreCut items = AllByRecursion Cut items

abbrev AreEntriesCut : List Entry → Type 0
AreEntriesCut es = AllByRecursion (λ e. AreCut (map text_of e.items)) es

record SplitCut (s : Split) : Type 0 where
  first : AreCut (map text_of s.first)
  others : AreEntriesCut s.others

with_entry_cut : (white : Bool) (founds : List Found) (es : List Entry) → AreCut (map text_of founds) → AreEntriesCut es → AreEntriesCut (with_entry white founds es)
with_entry_cut white [] es h k = k
with_entry_cut white (f ∷ fs) es h k = (h, k)

piece_cut : (p : Piece) (left d u : ℕ) (white : Bool) (more : ℕ → ℕ → Result Split ShapeFault) → PieceCut p → ((e v : ℕ) → IfOk (more e v) SplitCut) → IfOk (at_piece p left d u white more) SplitCut
piece_cut LineEnd left d u white more p h =
    cond_both (eqb d 0) (shape.◌>>=◌ (more 0 u) (λ s. Ok (end_of white s))) (more d u) (λ (r : Result Split ShapeFault). IfOk r SplitCut)
    (λ _. bound SplitCut SplitCut (more 0 u) (end_of white) (h 0 u) (λ s b. record { first = tt; others = with_entry_cut white s.first s.others b.first b.others })) (λ _. h d u)
piece_cut (White o) left d u white more p h = h d u
piece_cut (Comment t) left d u white more p h = h d u
piece_cut Open left d u white more p h = h _ _
piece_cut Close left d u white more p h = cond_both (eqb d 0) _ (more _ u) (λ (r : Result Split ShapeFault). IfOk r SplitCut) (λ _. tt) (λ _. h _ u)
piece_cut (Quoted raw) left d u white more p h = bound SplitCut SplitCut (more d u) _ (h d u) (λ s b. record { first = (p, b.first); others = b.others })
piece_cut (Plain raw) left d u white more p h = bound SplitCut SplitCut (more d u) _ (h d u) (λ s b. record { first = (p, b.first); others = b.others })

ended_cut : (open_quote : Option ℕ) (d u : ℕ) → IfOk (ended open_quote d u) SplitCut
ended_cut (Some left) d u = tt
ended_cut None d u = cond_both (eqb d 0) (Ok (record { first = []; others = [] })) _ (λ (r : Result Split ShapeFault). IfOk r SplitCut) (λ _. record { first = tt; others = tt }) (λ _. tt)

split_cut : (open_quote : Option ℕ) (ps : List Placed) (d u : ℕ) → ArePiecesCut ps → IfOk (split open_quote ps d u) SplitCut
unfolding split
split_cut open_quote [] d u h = ended_cut open_quote d u
split_cut open_quote (p ∷ ps) d u h = piece_cut p.piece p.left d u (begins_white ps) (split open_quote ps) h.0 (λ e v. split_cut open_quote ps e v h.1)

entries_cut : (text : List ℕ) (es : List Entry) → entries text ≡ Ok es → AreEntriesCut es
entries_cut text es e =
    let pieces = pieces_cut (lexed text).pieces (lexed text).open_quote text (pieces_found text) in
    ok_of AreEntriesCut (entries text) es
    (bound SplitCut AreEntriesCut (from 0 0 text) (λ s. with_entry (white_first text) s.first s.others) (split_cut (lexed text).open_quote (lexed text).pieces 0 0 pieces)
    (λ s b. with_entry_cut (white_first text) s.first s.others b.first b.others)) e

or_false : (a b : Bool) → (a || b) ≡ false → (a ≡ false) × (b ≡ false)
or_false true b e = absurd cc
or_false false b e = (refl, e)

all_clean : (items : List ItemText) → AreCut items → list_any ends_open items ≡ false → AllByRecursion Clean items
all_clean [] h e = tt
all_clean (item ∷ items) h e = let p = or_false (ends_open item) (list_any ends_open items) e in (h.0 p.0, all_clean items h.1 p.1)

-- ---- what is in force

abbrev Short : ℕ → Type 0
Short ttl = ttl ≤ 2147483647

record IsSound (b : InForce) : Type 0 where
  origin : IsName b.origin
  owner : IfSome b.owner IsName
  default_ttl : IfSome b.default_ttl Short
  stated_ttl : IfSome b.stated_ttl Short

either : {A : Type 0} (P : A → Type 0) (a b : Option A) → IfSome a P → IfSome b P → IfSome (or_else a b) P
either P None b h k = k
either P (Some x) b h k = h

some_of : {A : Type 0} (P : A → Type 0) (a : Option A) (x : A) → IfSome a P → a ≡ Some x → P x
some_of P None x h e = absurd cc
some_of P (Some y) x h e = let same : y ≡ x = cc in subst P same h

fitting_short : (m : Option ℕ) → IfSome (fitting_ttl m) Short
fitting_short None = tt
fitting_short (Some s) = cond_both (leb s 2147483647) (Some s) None (λ (o : Option ℕ). IfSome o Short) (λ h. leb-true s 2147483647 h) (λ _. tt)

owner_named : (origin : Labels) (white : Bool) (own : Option Labels) (items : List ItemText) → StatesOwner origin white own items → IfSome own IsName
owner_named origin true None items h = tt
owner_named origin true (Some n) items h = absurd h
owner_named origin false None items h = absurd h
owner_named origin false (Some n) items h = h.2.0

lead_short : (ttl : Option ℕ) (items : List ItemText) → AreTtlAndClass ttl items → IfSome ttl Short
lead_short None items h = tt
lead_short (Some ttl) items h = h.4.1

kept_sound : (b : InForce) (white : Bool) (items : List ItemText) (s : Statement) → IsSound b → States b.origin white items s → IsSound (behind_entry s b)
kept_sound b white items (statements.Origin name) is h = record { origin = h.4.0; owner = is.owner; default_ttl = is.default_ttl; stated_ttl = is.stated_ttl }
kept_sound b white items (statements.DefaultTtl ttl) is h = record { origin = is.origin; owner = is.owner; default_ttl = h.4.1; stated_ttl = is.stated_ttl }
kept_sound b white items (statements.Record stated) is h = record {
  origin = is.origin;
  owner = either IsName stated.owner b.owner (owner_named b.origin white stated.owner h.1.owner h.1.owner_is) is.owner;
  default_ttl = is.default_ttl;
  stated_ttl = either Short stated.ttl b.stated_ttl (lead_short stated.ttl h.1.lead h.1.lead_is) is.stated_ttl;
}

-- ---- a record of another type

behind_cut : (white : Bool) (items : List ItemText) → AreCut items → AreCut (behind_owner white items)
behind_cut true items h = h
behind_cut false [] h = tt
behind_cut false (item ∷ items) h = h.1

pub not_kept_is : (fault : EntryFault) → is_not_kept fault ≡ true → fault ≡ Data TypeNotKept
not_kept_is (Data TypeNotKept) e = refl
not_kept_is fault e = absurd cc

pub more_is : (ttl : Option ℕ) (r : Result Part EntryFault) (next : TtlAndClass) → other_part ttl r ≡ Ok (others.More next) → r ≡ Ok (parts.More next)
more_is ttl (Ok (parts.More n)) next e = let same : n ≡ next = cc in ap (λ (x : TtlAndClass). Ok (parts.More x)) same
more_is ttl (Ok (parts.«Type» own t)) next e = absurd cc
more_is ttl (Err fault) next e =
    cond_both (is_not_kept fault) (Ok (others.Kind ttl)) (Err fault) (λ (x : Result OtherPart EntryFault). x ≡ Ok (others.More next) → ◌≡◌ {A = Result Part EntryFault} (Err fault) (Ok (parts.More next)))
    (λ _ q. absurd cc) (λ _ q. absurd cc) e

pub kind_is : (ttl own : Option ℕ) (r : Result Part EntryFault) → other_part ttl r ≡ Ok (others.Kind own) → (r ≡ Err (Data TypeNotKept)) × (own ≡ ttl)
kind_is ttl own (Ok (parts.More n)) e = absurd cc
kind_is ttl own (Ok (parts.«Type» u t)) e = absurd cc
kind_is ttl own (Err fault) e =
    cond_both (is_not_kept fault) (Ok (others.Kind ttl)) (Err fault) (λ (x : Result OtherPart EntryFault). x ≡ Ok (others.Kind own) → ◌≡◌ {A = Result Part EntryFault} (Err fault) (Err (Data TypeNotKept)) × (own ≡ ttl))
    (λ h q. (ap (λ (f : EntryFault). Err f) (not_kept_is fault h), let same : ttl ≡ own = cc in sym same)) (λ _ q. absurd cc) e

no_ttl : (r : Result ℕ DataFault) (f : ℕ → Result Part EntryFault) → ((n : ℕ) → f n ≡ Err (Data TypeNotKept) → ⊥) → (in_ttl r >>= f) ≡ Err (Data TypeNotKept) → ⊥
no_ttl (Ok n) f none e = none n e
no_ttl (Err fault) f none e = absurd cc

none_named : (t : Option RecordType) (ttl : Option ℕ) → (or_not_kept t >>= λ x. Ok (parts.«Type» ttl x)) ≡ Err (Data TypeNotKept) → t ≡ None
none_named None ttl e = refl
none_named (Some t) ttl e = absurd cc

raw_named : (read : TtlAndClass) (raw : List ℕ) → part_in read raw ≡ Err (Data TypeNotKept) → type_named raw ≡ None
raw_named read raw =
    let Reads : Result Part EntryFault → Type 0 = λ r. r ≡ Err (Data TypeNotKept) → type_named raw ≡ None in
    cond_both (not (is_some read.ttl) && begins_with_digit raw) (ttl_of raw >>= λ ttl. Ok (parts.More (record { ttl = Some ttl; has_class = read.has_class }))) _ Reads
    (λ _ e. absurd (no_ttl (duration_of 2147483647 raw) (λ ttl. Ok (parts.More (record { ttl = Some ttl; has_class = read.has_class }))) (λ n q. absurd cc) e))
    (λ _. cond_both (not read.has_class && str_eq_ignore_ascii_case raw (codes "IN")) (Ok (parts.More (record { ttl = read.ttl; has_class = true }))) _ Reads (λ _ e. absurd cc)
    (λ _. cond_both (not read.has_class && is_other_class raw) (Err ClassNotIn) _ Reads (λ _ e. absurd cc)
    (λ _ e. none_named (type_named raw) read.ttl e)))

pub item_named : (read : TtlAndClass) (raw : List ℕ) (quoted : Bool) → (cond quoted (Err (Data QuotedItem)) (Ok raw) >>= part_in read) ≡ Err (Data TypeNotKept) → type_named raw ≡ None
item_named read raw true e = absurd cc
item_named read raw false e = raw_named read raw e

record LeadIs (lead : OtherLead) : Type 0 where
  ttl : IfSome lead.ttl Short
  octets : IsBytes lead.kind
  not_kept : type_named lead.kind ≡ None
  fields : AreCut lead.fields

more_short : (read next : TtlAndClass) (item : ItemText) → IfSome read.ttl Short → part_of read item ≡ Ok (parts.More next) → IfSome next.ttl Short
more_short read next item h e =
    let p = part_found read item (parts.More next) e in
    elim p.2 [
      | inl t ↦ (let same : next ≡ record { ttl = Some t.1.0; has_class = read.has_class } = cc in let is : IfSome (Some t.1.0) Short = t.1.1.1 in subst (λ (n : TtlAndClass). IfSome n.ttl Short) (sym same) is)
      | inr q ↦ elim q [
        | inl c ↦ (let same : next ≡ record { ttl = read.ttl; has_class = true } = cc in subst (λ (n : TtlAndClass). IfSome n.ttl Short) (sym same) h)
        | inr t ↦ absurd (let no = t.2 in cc)
      ]
    ]

next_is : (item : ItemText) (items : List ItemText) (next : OtherPart) (more : TtlAndClass → Result OtherLead EntryFault) (lead : OtherLead) → IsBytes item.raw → ((ttl : Option ℕ) → next ≡ others.Kind ttl → (type_named item.raw ≡ None) × IfSome ttl Short) → AreCut items
    → ((n : TtlAndClass) → next ≡ others.More n → more n ≡ Ok lead → LeadIs lead) → with_next item items next more ≡ Ok lead → LeadIs lead
next_is item items (others.Kind ttl) more lead octets named cut on e =
    let n = named ttl refl in
    subst LeadIs (sym (ok_same (record { ttl = ttl; kind = item.raw; fields = items }) lead e)) (record { ttl = n.1; octets = octets; not_kept = n.0; fields = cut })
next_is item items (others.More n) more lead octets named cut on e = on n refl e

lead_is : (read : TtlAndClass) (items : List ItemText) (lead : OtherLead) → IfSome read.ttl Short → AreBytes items → AreCut items → other_lead_of read items ≡ Ok lead → LeadIs lead
lead_is read [] lead short bytes cut e = absurd cc
lead_is read (item ∷ items) lead short bytes cut e =
    let s = step_ok (other_part read.ttl (part_of read item)) (λ next. with_next item items next (λ n. other_lead_of n items)) lead e in
    next_is item items s.0 (λ n. other_lead_of n items) lead bytes.0
    (λ ttl k.
    let r = kind_is read.ttl ttl (part_of read item) (s.1 ∙ ap (λ (p : OtherPart). Ok p) k) in
    (item_named read item.raw item.quoted r.0, subst (λ (t : Option ℕ). IfSome t Short) (sym r.1) short)) cut.1
    (λ n k q. lead_is n items lead (more_short read n item short (more_is read.ttl (part_of read item) n (s.1 ∙ ap (λ (p : OtherPart). Ok p) k))) bytes.1 cut.1 q)
    s.2

pub whole_is : (lead l : OtherLead) → whole_lead lead ≡ Ok l → (l ≡ lead) × (is_other_type lead.kind ≡ true) × (list_any ends_open lead.fields ≡ false)
whole_is lead l =
    let Is : Result OtherLead EntryFault → Type 0 = λ r. r ≡ Ok l → (l ≡ lead) × (is_other_type lead.kind ≡ true) × (list_any ends_open lead.fields ≡ false) in
    cond_both (is_other_type lead.kind) _ _ Is
    (λ kind. cond_both (list_any ends_open lead.fields) _ (Ok lead) Is (λ _ e. absurd cc) (λ none e. (ok_same lead l e, kind, none)))
    (λ _ e. absurd cc)

record StatedIs (o : StatedOther) : Type 0 where
  owner : IfSome o.owner IsName
  ttl : IfSome o.ttl Short
  octets : IsBytes o.kind
  kind : is_other_type o.kind ≡ true
  not_kept : type_named o.kind ≡ None
  fields : AllByRecursion Clean o.fields

stated_is : (origin : Labels) (owner : Option Labels) (white : Bool) (items : List ItemText) (o : StatedOther) → IsName origin → AreBytes items → AreCut items → other_of origin owner white items ≡ Ok o → StatedIs o
stated_is origin owner white items o is bytes cut e =
    let rest = behind_owner white items in
    let a = step_ok (owner_of origin owner white items) (λ own. other_behind own rest) o e in
    let b = step_ok (other_lead_of (record { ttl = None; has_class = false }) rest) (λ read. whole_lead read >>= λ l. Ok (record { owner = a.0; ttl = l.ttl; kind = l.kind; fields = l.fields })) o a.2 in
    let c = step_ok (whole_lead b.0) (λ l. Ok (record { owner = a.0; ttl = l.ttl; kind = l.kind; fields = l.fields })) o b.2 in
    let w = whole_is b.0 c.0 c.1 in
    let own = owner_found origin owner white items a.0 is bytes a.1 in
    let same : o ≡ record { owner = a.0; ttl = b.0.ttl; kind = b.0.kind; fields = b.0.fields } =
    ok_same _ o c.2 ∙ ap (λ (l : OtherLead). let s : StatedOther = record { owner = a.0; ttl = l.ttl; kind = l.kind; fields = l.fields } in s) w.0 in
    let l = lead_is (record { ttl = None; has_class = false }) rest b.0 tt own.bytes (behind_cut white items cut) b.1 in
    let made : StatedIs (record { owner = a.0; ttl = b.0.ttl; kind = b.0.kind; fields = b.0.fields }) = record {
      owner = owner_named origin white a.0 own.front own.states;
      ttl = l.ttl;
      octets = l.octets;
      kind = w.1;
      not_kept = l.not_kept;
      fields = all_clean b.0.fields l.fields w.2;
    } in
    subst StatedIs (sym same) made

other_is : (b : InForce) (o : StatedOther) (r : OtherText) → IsSound b → StatedIs o → other_in o b ≡ Ok r → IsOther r
other_is b o r is h e =
    let p = step_ok (or_refused NoOwner (or_else o.owner b.owner)) (λ owner. or_refused NoTtl (ttl_in_force o.ttl b b) >>= λ ttl. Ok (record { origin = b.origin; owner = owner; ttl = ttl; kind = o.kind; fields = o.fields })) r e in
    let q = step_ok (or_refused NoTtl (ttl_in_force o.ttl b b)) (λ ttl. Ok (record { origin = b.origin; owner = p.0; ttl = ttl; kind = o.kind; fields = o.fields })) r p.2 in
    let made : IsOther (record { origin = b.origin; owner = p.0; ttl = q.0; kind = o.kind; fields = o.fields }) = record {
      origin = is.origin;
      owner = some_of IsName (or_else o.owner b.owner) p.0 (either IsName o.owner b.owner h.owner is.owner) (refused_ok NoOwner _ p.0 p.1);
      ttl = some_of Short (ttl_in_force o.ttl b b) q.0
          (either Short o.ttl _ h.ttl (either Short b.default_ttl _ is.default_ttl (either Short b.stated_ttl _ is.stated_ttl (fitting_short b.minimum)))) (refused_ok NoTtl _ q.0 q.1);
      octets = h.octets;
      kind = h.kind;
      not_kept = h.not_kept;
      fields = h.fields;
    } in
    subst IsOther (sym (ok_same _ r q.2)) made

-- ---- an entry, and all of them

-- a record of another type can be printed
abbrev pub IsFound : AnyRecord → Type 0
IsFound (Kept r) = Unit {0}
IsFound (Other o) = IsOther o

kept_found : (rs : List Record) → AllByRecursion IsFound (map Kept rs)
kept_found [] = tt
kept_found (r ∷ rs) = (tt, kept_found rs)

abbrev TakenIs : AnyTaken → Type 0
TakenIs t = IsSound t.0 × AllByRecursion IsFound t.1

any_is : (b : InForce) (white : Bool) (items : List ItemText) (r : Result Statement EntryFault) (t : AnyTaken) → IsSound b → AreBytes items → AreCut items → statement_of b.origin b.owner white items ≡ r → any_of b white items r ≡ Ok t → TakenIs t
any_is b white items (Ok s) t is bytes cut stated e =
    let p = step_ok (records_of s b) (λ records. Ok (behind_entry s b, map Kept records)) t e in
    let states = statement_found b.origin b.owner white items s is.origin bytes stated in
    let made : TakenIs (behind_entry s b, map Kept p.0) = (kept_sound b white items s is states, kept_found p.0) in
    subst TakenIs (sym (ok_same _ t p.2)) made
any_is b white items (Err fault) t is bytes cut stated e =
    cond_both (is_not_kept fault) (other_of b.origin b.owner white items >>= other_taken b) (Err fault) (λ (x : Result AnyTaken EntryFault). x ≡ Ok t → TakenIs t)
    (λ _ f.
    let p = step_ok (other_of b.origin b.owner white items) (other_taken b) t f in
    let q = step_ok (other_in p.0 b) (λ r. Ok (behind_other p.0 b, Other r ∷ [])) t p.2 in
    let h = stated_is b.origin b.owner white items p.0 is.origin bytes cut p.1 in
    let sound : IsSound (behind_other p.0 b) = record { origin = is.origin; owner = either IsName p.0.owner b.owner h.owner is.owner; default_ttl = is.default_ttl; stated_ttl = either Short p.0.ttl b.stated_ttl h.ttl is.stated_ttl } in
    let made : TakenIs (behind_other p.0 b, Other q.0 ∷ []) = (sound, (other_is b p.0 q.0 is h q.1, tt)) in
    subst TakenIs (sym (ok_same _ t q.2)) made)
    (λ _ f. absurd cc)
    e

with_ok : (records rs : List AnyRecord) (r : Result (List AnyRecord) FileFault) → with_any records r ≡ Ok rs → (others : List AnyRecord) × (r ≡ Ok others) × (rs ≡ records ++ others)
with_ok records rs (Ok others) e = (others, refl, let same : records ++ others ≡ rs = cc in sym same)
with_ok records rs (Err f) e = absurd cc

taken_ok : (left : ℕ) (r : Result AnyTaken EntryFault) (more : InForce → Result (List AnyRecord) FileFault) (rs : List AnyRecord) → then_any left r more ≡ Ok rs → (t : AnyTaken) × (r ≡ Ok t) × (with_any t.1 (more t.0) ≡ Ok rs)
taken_ok left (Ok t) more rs e = (t, refl, e)
taken_ok left (Err f) more rs e = absurd cc

entries_found : (es : List Entry) (b : InForce) (rs : List AnyRecord) → IsSound b → AreEntryBytes es → AreEntriesCut es → any_from es b ≡ Ok rs → AllByRecursion IsFound rs
entries_found [] b rs is bytes cut e = let same : [] ≡ rs = cc in subst (AllByRecursion IsFound) same tt
entries_found (e ∷ es) b rs is bytes cut h =
    let p = taken_ok (first_left e.items) (any_taken b e.white (map text_of e.items)) (any_from es) rs h in
    let w = with_ok p.0.1 rs (any_from es p.0.0) p.2 in
    let t = any_is b e.white (map text_of e.items) (statement_of b.origin b.owner e.white (map text_of e.items)) p.0 is bytes.0 cut.0 refl p.1 in
    subst (AllByRecursion IsFound) (sym w.2) (All-both IsFound p.0.1 w.0 t.1 (entries_found es p.0.0 w.0 t.0 bytes.1 cut.1 w.1))

whole_ok : (b : InForce) (r : Result (List Entry) ShapeFault) (rs : List AnyRecord) → any_file_from b r ≡ Ok rs → (es : List Entry) × (r ≡ Ok es) × (any_from es b ≡ Ok rs)
whole_ok b (Ok es) rs e = (es, refl, e)
whole_ok b (Err f) rs e = absurd cc

pub placed_found : (text : List ℕ) (origin : Labels) (rs : List AnyRecord) → IsName origin → IsBytes text → placed_any text origin ≡ Ok rs → AllByRecursion IsFound rs
placed_found text origin rs is bytes e =
    let w = whole_ok (handed_in origin) (entries text) rs e in
    entries_found w.0 (handed_in origin) rs (record { origin = is; owner = tt; default_ttl = tt; stated_ttl = tt }) (entries_bytes text w.0 bytes w.1) (entries_cut text w.0 w.1) w.2

lines_ok : (text : List ℕ) (r : Result (List AnyRecord) FileFault) (rs : List AnyRecord) → any_on_lines text r ≡ Ok rs → r ≡ Ok rs
lines_ok text (Ok x) rs e = let same : x ≡ rs = cc in ap (λ (l : List AnyRecord). Ok l) same
lines_ok text (Err f) rs e = absurd cc

-- the records of other types that are read of a text can be printed
pub text_found : (text : List ℕ) (origin : Labels) (rs : List AnyRecord) → IsName origin → IsBytes text → any_file text origin ≡ Ok rs → AllByRecursion IsFound rs
text_found text origin rs is bytes =
    cond_both (ltb 4194304 (length text)) (Err TooLarge) (any_on_lines text (placed_any text origin)) (λ (r : Result (List AnyRecord) MasterFault). r ≡ Ok rs → AllByRecursion IsFound rs)
    (λ _ e. absurd cc) (λ _ e. placed_found text origin rs is bytes (lines_ok text (placed_any text origin) rs e))
