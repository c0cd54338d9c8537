-- A text in parts, entry by entry.
use Rattle.std.proofs.Common.{◌≡◌, ℕ, ◌+◌, ◌-◌, ◌<◌, ◌≤◌, Bool, true, false, cond, List, [], ◌∷◌, ◌++◌, length, map, drop, get_or, Option, Some, None, Result, Ok, Err, refl, sym, ap, subst, ◌∙◌, arith, append_assoc, append-nil, length-append}
use Rattle.std.proofs.lemmas.Option.{slice_get-get_or}
use Rattle.std.proofs.lemmas.List.{length-map, drop-map}
use Rattle.std.proofs.lemmas.List.Elements.{filter-append}
use Rattle.std.proofs.Math.Seq.{get_or-append_seam, drop-append_seam}
use Rattle.std.specs.Prelude.{codes, decimal, OnOk}
use Rattle.std.specs.List.{flat_map, slice_get}
use Rattle.std.specs.declared.alloc.AllocError.{AllocError}
use Rattle.dns_names.specs.Spelling.{name_text}
use Rattle.std.specs.declared.net.ipv4_addr.Ipv4Addr.{Ipv4Addr}
use Rattle.dns_data.specs.declared.item.Item.{Item}
use Rattle.dns_data.specs.declared.rdata.Data.{Data as DataOf}
use Rattle.dns_data.specs.declared.rdata.Data.TheVariants.{A}
use Rattle.dns_data.specs.declared.record.Record.{Record}
use Rattle.dns_data.specs.Items.{ItemText, item_of}
use Rattle.dns_master.specs.declared.entry_fault.EntryFault.{EntryFault}
use Rattle.dns_master.specs.declared.entry_fault.EntryFault.TheVariants as faults
use Rattle.dns_master.specs.declared.file.FileFault.{FileFault}
use Rattle.dns_master.specs.declared.file.FileFault.TheVariants as files
use Rattle.dns_master.specs.declared.file.FileRead.{FileRead}
use Rattle.dns_master.specs.declared.parting.FilePart.{FilePart}
use Rattle.dns_master.specs.declared.parting.FilePart.TheVariants as of_file
use Rattle.dns_master.specs.declared.parting.Parting.{Parting}
use Rattle.dns_master.specs.declared.shape.ShapeFault.{ShapeFault}
use Rattle.dns_master.specs.declared.shape.ShapeFault.TheVariants as shapes
use Rattle.dns_master.specs.declared.statement.Statement.{Statement}
use Rattle.dns_master.specs.declared.statement.Statement.TheVariants as statements
use Rattle.dns_master.specs.Entries.{Found, Entry, with_entry, white_first, entries}
use Rattle.dns_master.specs.Entries as shape
use Rattle.dns_master.specs.EntryFaults.{◌>>=◌, RefusesEntry}
use Rattle.dns_master.specs.Statements.{owner_of, behind_owner, statement_of}
use Rattle.dns_master.specs.Reader.{RefusesAt, EntryRead, text_of}
use Rattle.dns_master.specs.InForce.{InForce, or_else, fitting_ttl, behind_entry}
use Rattle.dns_master.specs.Files.{or_refused, records_of}
use Rattle.dns_master.specs.FileViews.{force_of, TakesStatement, RefusesFile, IsFaultBefore}
use Rattle.dns_master.specs.ZoneText.{ended_line}
use Rattle.dns_master.specs.OtherTypes.{has_keys}
use Rattle.dns_master.specs.Joined.{flagged, flagged_text}
use Rattle.dns_master.specs.AnyRecords.{OtherText, AnyRecord, Kept, Other, AnyTaken, OtherLead, StatedOther, is_not_kept, whole_lead, other_lead_of, other_behind, other_of, behind_other, other_taken, kept_taken, any_of, any_taken, with_any, then_any, any_from, any_file_from}
use Rattle.dns_master.specs.Parting.{has_kept, has_kind, is_in, records_in, origin_change, other_line, origin_behind, any_lines, any_text, origin_after, with_lines}
use Rattle.dns_master.specs.PartViews.{lead_with, lead_at, first_raw, other_stated, line_with, line_if, TakesPart, TakesAny}
use Rattle.dns_master.proofs.FieldLemmas.{items_from}
use Rattle.dns_master.proofs.OtherLemmas.{line_made}
use Rattle.dns_master.proofs.RecordLemmas.{refused_on}
use Rattle.dns_master.proofs.ReadLemmas.{entries_none}

abbrev Labels : Type 0
Labels = List (List ℕ)

-- ---- records of types that are kept

kept_lines : (p : FilePart) (at : Labels) (rs : List Record) → any_text at (records_in p (map Kept rs)) ≡ cond (has_kept p) (flat_map ended_line rs) []
kept_lines of_file.Kept at [] = refl
kept_lines of_file.Kept at (r ∷ rs) = ap (λ (t : List ℕ). ended_line r ++ t) (kept_lines of_file.Kept at rs)
kept_lines of_file.Signer at [] = refl
kept_lines of_file.Signer at (r ∷ rs) = kept_lines of_file.Signer at rs
kept_lines of_file.Rest at [] = refl
kept_lines of_file.Rest at (r ∷ rs) = kept_lines of_file.Rest at rs

kept_origin : (p : FilePart) (at : Labels) (rs : List Record) → at ≡ origin_after at (records_in p (map Kept rs))
kept_origin of_file.Kept at [] = refl
kept_origin of_file.Kept at (r ∷ rs) = kept_origin of_file.Kept at rs
kept_origin of_file.Signer at [] = refl
kept_origin of_file.Signer at (r ∷ rs) = kept_origin of_file.Signer at rs
kept_origin of_file.Rest at [] = refl
kept_origin of_file.Rest at (r ∷ rs) = kept_origin of_file.Rest at rs

-- what a statement makes is taken, and its lines are put
pub kept_put : (old new : Parting) (between : FileRead) (s : Statement) (n : ℕ) → n ≡ length old.file.records.items → TakesStatement old.file between s (Ok tt)
    → new.file ≡ between → new.part ≡ old.part → new.origin ≡ old.origin → new.text.items ≡ old.text.items ++ cond (has_kept old.part) (flat_map ended_line (drop n between.records.items)) []
    → TakesAny old new (kept_taken (force_of old.file) s) (Ok tt)
kept_put old new between s n size h file part origin text =
    let records = h.0 in
    let made : drop n between.records.items ≡ records = ap (λ (k : ℕ). drop k between.records.items) size ∙ ap (drop (length old.file.records.items)) h.2.records ∙ drop-append_seam old.file.records.items records in (
      (behind_entry s (force_of old.file), map Kept records),
      ap (λ (r : Result (List Record) EntryFault). r >>= λ rs. Ok (behind_entry s (force_of old.file), map Kept rs)) h.1,
      record {
        part = part;
        in_force = ap force_of file ∙ h.2.in_force;
        text = text ∙ ap (λ (rs : List Record). old.text.items ++ cond (has_kept old.part) (flat_map ended_line rs) []) made ∙ ap (λ (t : List ℕ). old.text.items ++ t) (sym (kept_lines old.part old.origin records));
        origin = origin ∙ kept_origin old.part old.origin records;
      },
    )

-- the lines that are put are of records that were taken
pub some_taken : (old between : FileRead) (s : Statement) (n : ℕ) → n ≡ length old.records.items → TakesStatement old between s (Ok tt) → n ≤ length between.records.items
some_taken old between s n size h =
    let all : length between.records.items ≡ length old.records.items + length h.0 = ap length h.2.records ∙ length-append old.records.items h.0 in
    omega (arith, all, size)

-- ---- records of other types

-- what follows where a call went well
on_ok : {X E : Type 0} (P Q : Type 0) (r : Result X E) → (P → Q) → OnOk r P → OnOk r Q
on_ok P Q (Ok x) f h = f h
on_ok P Q (Err e) f h = tt

-- the line that is put, part by part
pub line_put : (r : Result (Unit {0}) AllocError) (rr : Record) (kind old head one two new : List ℕ) (fields : List ItemText) → head ≡ name_text rr.owner ++ 32 ∷ (decimal rr.ttl ++ codes " IN ") → one ≡ old ++ head → two ≡ one ++ kind
    → OnOk r (new ≡ two ++ flagged_text (flagged (has_keys kind) false fields)) → OnOk r (new ≡ old ++ line_with rr kind fields)
line_put r rr kind old head one two new fields h a b =
    let tail = flagged_text (flagged (has_keys kind) false fields) in
    on_ok (new ≡ two ++ tail) (new ≡ old ++ line_with rr kind fields) r
    (λ e. e ∙ ap (λ (t : List ℕ). t ++ tail) (b ∙ ap (λ (t : List ℕ). t ++ kind) (a ∙ ap (λ (t : List ℕ). old ++ t) h)) ∙ line_made old (name_text rr.owner) (decimal rr.ttl) kind tail)

made : (o : Option Labels) (t : Option ℕ) (rdata : DataOf) (records : List Record)
    → (or_refused faults.NoOwner o >>= λ owner. or_refused faults.NoTtl t >>= λ ttl. Ok ((record { owner = owner; ttl = ttl; rdata = rdata }) ∷ [])) ≡ Ok records → (r : Record) × (records ≡ r ∷ []) × (o ≡ Some r.owner) × (t ≡ Some r.ttl)
made None t rdata records e = absurd cc
made (Some o) None rdata records e = absurd cc
made (Some o) (Some t) rdata records e =
    let r : Record = record { owner = o; ttl = t; rdata = rdata } in (r, (let same : r ∷ [] ≡ records = cc in sym same), refl, refl)

module _ (b : InForce) (owner : Option Labels) (ttl : Option ℕ) (kind : List ℕ) (fields : List ItemText) (address : Ipv4Addr) where
  abbrev stand_in : Statement
  stand_in = statements.Record (record { owner = owner; ttl = ttl; rdata = A address })

  abbrev stated : StatedOther
  stated = other_stated owner (lead_with ttl kind fields)

  abbrev ttl_here : Option ℕ
  ttl_here = or_else ttl (or_else b.default_ttl (or_else b.stated_ttl (fitting_ttl b.minimum)))

  abbrev with_both : Option Labels → Option ℕ → Result AnyTaken EntryFault
  with_both o t =
      (or_refused faults.NoOwner o >>= λ n. or_refused faults.NoTtl t >>= λ s. Ok (record { origin = b.origin; owner = n; ttl = s; kind = kind; fields = fields })) >>= λ r. Ok (behind_other stated b, Other r ∷ [])

  abbrev other_with : Record → OtherText
  other_with r = record { origin = b.origin; owner = r.owner; ttl = r.ttl; kind = kind; fields = fields }

  pub other_made : (records : List Record) → records_of stand_in b ≡ Ok records → (r : Record) × (records ≡ r ∷ []) × (other_taken b stated ≡ Ok (behind_entry stand_in b, Other (other_with r) ∷ []))
  other_made records e =
      let m = made (or_else owner b.owner) ttl_here (A address) records e in
      (m.0, m.1, ap (λ (o : Option Labels). with_both o ttl_here) m.2 ∙ ap (λ (t : Option ℕ). with_both (Some m.0.owner) t) m.3)

  unmade : (o : Option Labels) (t : Option ℕ) (e : EntryFault)
      → RefusesEntry {Y = List Record} e (or_refused faults.NoOwner o >>= λ n. or_refused faults.NoTtl t >>= λ s. Ok ((record { owner = n; ttl = s; rdata = A address }) ∷ [])) → RefusesEntry e (with_both o t)
  unmade None t e h = refused_on e (Err faults.NoOwner) (λ (rs : List Record). with_both None t) h
  unmade (Some o) None e h = refused_on e (Err faults.NoTtl) (λ (rs : List Record). with_both (Some o) None) h
  unmade (Some o) (Some t) e h = refused_on e (Ok ((record { owner = o; ttl = t; rdata = A address }) ∷ [])) (λ (rs : List Record). with_both (Some o) (Some t)) h

  pub other_unmade : (e : EntryFault) → RefusesEntry e (records_of stand_in b) → RefusesEntry e (other_taken b stated)
  other_unmade e h = unmade (or_else owner b.owner) ttl_here e h

last_of : (records : List Record) (r : Record) → slice_get (records ++ r ∷ []) (length (records ++ r ∷ []) - 1) ≡ Some r
last_of records r =
    let all = records ++ r ∷ [] in
    let size : length all - 1 ≡ length records = omega (arith, length-append records (r ∷ [])) in
    let within : length records < length all = omega (arith, length-append records (r ∷ [])) in
    ap (slice_get all) size ∙ slice_get-get_or all (length records) r within ∙ ap (λ (x : Record). Some x) (get_or-append_seam records r [] r)

one_line : (b : Bool) (at : Labels) (o : OtherText) → any_text at (cond b (Other o ∷ []) []) ≡ cond b (origin_change at o.origin ++ other_line o) []
one_line true at o = append-nil (origin_change at o.origin ++ other_line o)
one_line false at o = refl

one_origin : (b : Bool) (at : Labels) (o : OtherText) → origin_after at (cond b (Other o ∷ []) []) ≡ cond b o.origin at
one_origin true at o = refl
one_origin false at o = refl

-- a record of another type is taken, and its line is put
pub other_put : (old new : Parting) (between : FileRead) (owner : Option Labels) (ttl : Option ℕ) (kind : List ℕ) (fields : List ItemText) (address : Ipv4Addr)
    → TakesStatement old.file between (statements.Record (record { owner = owner; ttl = ttl; rdata = A address })) (Ok tt) → new.file ≡ between → new.part ≡ old.part
    → new.text.items ≡ old.text.items ++ cond (has_kind old.part kind) (origin_change old.origin between.origin ++ line_if (slice_get between.records.items (length between.records.items - 1)) kind fields) []
    → new.origin ≡ cond (has_kind old.part kind) between.origin old.origin
    → TakesAny old new (other_taken (force_of old.file) (other_stated owner (lead_with ttl kind fields))) (Ok tt)
other_put old new between owner ttl kind fields address h file part text origin =
    let b = force_of old.file in
    let m = other_made b owner ttl kind fields address h.0 h.1 in
    let o = other_with b owner ttl kind fields address m.0 in
    let all : between.records.items ≡ old.file.records.items ++ m.0 ∷ [] = h.2.records ∙ ap (λ (rs : List Record). old.file.records.items ++ rs) m.1 in
    let last : slice_get between.records.items (length between.records.items - 1) ≡ Some m.0 = ap (λ (rs : List Record). slice_get rs (length rs - 1)) all ∙ last_of old.file.records.items m.0 in
    let here : between.origin ≡ old.file.origin = ap (λ (f : InForce). f.origin) h.2.in_force in
    let line : origin_change old.origin between.origin ++ line_if (slice_get between.records.items (length between.records.items - 1)) kind fields ≡ origin_change old.origin o.origin ++ other_line o =
    ap (λ (n : Labels). origin_change old.origin n ++ line_if (slice_get between.records.items (length between.records.items - 1)) kind fields) here
    ∙ ap (λ (r : Option Record). origin_change old.origin old.file.origin ++ line_if r kind fields) last in (
      (behind_entry (statements.Record (record { owner = owner; ttl = ttl; rdata = A address })) b, Other o ∷ []),
      m.2,
      record {
        part = part;
        in_force = ap force_of file ∙ h.2.in_force;
        text = text ∙ ap (λ (t : List ℕ). old.text.items ++ cond (has_kind old.part kind) t []) line ∙ ap (λ (t : List ℕ). old.text.items ++ t) (sym (one_line (has_kind old.part kind) old.origin o));
        origin = origin ∙ ap (λ (n : Labels). cond (has_kind old.part kind) n old.origin) here ∙ sym (one_origin (has_kind old.part kind) old.origin o);
      },
    )

-- ---- the entry of another type

module _ (b : InForce) (owner : Option Labels) (items : List ItemText) where
  abbrev start_lead : Result OtherLead EntryFault
  start_lead = other_lead_of (record { ttl = None; has_class = false }) items

  abbrev with_lead : OtherLead → Result StatedOther EntryFault
  with_lead read = whole_lead read >>= λ lead. Ok (other_stated owner lead)

  pub lead_refuses : (e : EntryFault) → RefusesEntry e start_lead → RefusesEntry e (other_behind owner items >>= other_taken b)
  lead_refuses e h = refused_on e (other_behind owner items) (other_taken b) (refused_on e start_lead with_lead h)

  pub data_refuses : (e : EntryFault) (lead : OtherLead) → start_lead ≡ Ok lead → RefusesEntry e (whole_lead lead) → RefusesEntry e (other_behind owner items >>= other_taken b)
  data_refuses e lead is h =
      subst (λ (r : Result OtherLead EntryFault). RefusesEntry e ((r >>= with_lead) >>= other_taken b)) (sym is) (refused_on e (with_lead lead) (other_taken b) (refused_on e (whole_lead lead) (λ l. Ok (other_stated owner l)) h))

  pub data_stated : (lead : OtherLead) → start_lead ≡ Ok lead → whole_lead lead ≡ Ok lead → other_behind owner items ≡ Ok (other_stated owner lead)
  data_stated lead is whole = ap (λ (r : Result OtherLead EntryFault). r >>= with_lead) is ∙ ap (λ (r : Result OtherLead EntryFault). r >>= λ l. Ok (other_stated owner l)) whole

-- the word and the data after the lead
pub lead_cut : (items fields : List Item) (ttl : Option ℕ) (before : ℕ) (kind : List ℕ) → before < length items → first_raw (drop before (map item_of items)) ≡ kind → fields ≡ drop (before + 1) items
    → lead_at ttl (drop before (map item_of items)) ≡ lead_with ttl kind (map item_of fields)
lead_cut [] fields ttl before kind h k e = absurd (omega arith)
lead_cut (x ∷ items) fields ttl before kind h k e =
    let all = x ∷ items in
    let cut = items_from all before x h in
    let word : (get_or all before x).raw.now ≡ kind = sym (ap first_raw cut) ∙ k in
    ap (lead_at ttl) cut ∙ ap (λ (w : List ℕ). lead_with ttl w (drop (before + 1) (map item_of all))) word
    ∙ ap (lead_with ttl kind) (drop-map item_of (before + 1) all ∙ ap (map item_of) (sym e))

-- ---- any entry

module _ (old new : Parting) (white : Bool) (items : List ItemText) (result : Result (Unit {0}) EntryFault) where
  abbrev in_force : InForce
  in_force = force_of old.file

  abbrev stated_here : Result Statement EntryFault
  stated_here = statement_of in_force.origin in_force.owner white items

  pub owner_taken : (own : Option Labels) → owner_of in_force.origin in_force.owner white items ≡ Ok own → TakesAny old new (other_behind own (behind_owner white items) >>= other_taken in_force) result → TakesAny old new (other_of in_force.origin in_force.owner white items >>= other_taken in_force) result
  owner_taken own e h = subst (λ (r : Result (Option Labels) EntryFault). TakesAny old new ((r >>= λ o. other_behind o (behind_owner white items)) >>= other_taken in_force) result) (sym e) h

  pub any_kept : (s : Statement) → stated_here ≡ Ok s → TakesAny old new (kept_taken in_force s) result → TakesAny old new (any_taken in_force white items) result
  any_kept s e h = subst (λ (r : Result Statement EntryFault). TakesAny old new (any_of in_force white items r) result) (sym e) h

  not_kept_refuses : (fault : EntryFault) (r : Result Statement EntryFault) → is_not_kept fault ≡ true → RefusesEntry fault r → r ≡ Err fault
  not_kept_refuses faults.NoMemory r e h = absurd cc
  not_kept_refuses faults.NoOwner r e h = h
  not_kept_refuses faults.NoTtl r e h = h
  not_kept_refuses faults.ClassNotIn r e h = h
  not_kept_refuses faults.DirectiveNotKept r e h = h
  not_kept_refuses faults.BadTtl r e h = h
  not_kept_refuses (faults.Data f) r e h = h
  not_kept_refuses faults.EntryShort r e h = h

  pub any_other : (fault : EntryFault) → is_not_kept fault ≡ true → RefusesEntry fault stated_here → TakesAny old new (other_of in_force.origin in_force.owner white items >>= other_taken in_force) result → TakesAny old new (any_taken in_force white items) result
  any_other fault e refused h =
      let is : any_taken in_force white items ≡ (other_of in_force.origin in_force.owner white items >>= other_taken in_force) = ap (any_of in_force white items) (not_kept_refuses fault stated_here e refused) ∙ rw e refl in
      subst (λ (r : Result AnyTaken EntryFault). TakesAny old new r result) (sym is) h

refuses_too : {X Y : Type 0} (fault : EntryFault) (r : Result X EntryFault) (whole : Result Y EntryFault) → (r ≡ Err fault → whole ≡ Err fault) → RefusesEntry fault r → RefusesEntry fault whole
refuses_too faults.NoMemory r whole on h = tt
refuses_too faults.NoOwner r whole on h = on h
refuses_too faults.NoTtl r whole on h = on h
refuses_too faults.ClassNotIn r whole on h = on h
refuses_too faults.DirectiveNotKept r whole on h = on h
refuses_too faults.BadTtl r whole on h = on h
refuses_too (faults.Data f) r whole on h = on h
refuses_too faults.EntryShort r whole on h = on h

pub owner_refuses : (b : InForce) (white : Bool) (items : List ItemText) (e : EntryFault) → RefusesEntry e (owner_of b.origin b.owner white items) → RefusesEntry e (other_of b.origin b.owner white items >>= other_taken b)
owner_refuses b white items e h =
    refused_on e (other_of b.origin b.owner white items) (other_taken b) (refused_on e (owner_of b.origin b.owner white items) (λ o. other_behind o (behind_owner white items)) h)

pub any_refused : (b : InForce) (white : Bool) (items : List ItemText) (fault : EntryFault) → is_not_kept fault ≡ false → RefusesEntry fault (statement_of b.origin b.owner white items) → RefusesEntry fault (any_taken b white items)
any_refused b white items fault e h =
    refuses_too fault (statement_of b.origin b.owner white items) (any_taken b white items) (λ is. ap (any_of b white items) is ∙ rw e refl) h

-- ---- the whole

-- what is left to read makes, after these lines, the whole
abbrev pub Continues : Result (List ℕ) FileFault → InForce → List ℕ → FilePart → Labels → List ℕ → Type 0
Continues whole before text p at rest = with_lines text p at (any_file_from before (entries rest)) ≡ whole

any_text_both : (at : Labels) (a b : List AnyRecord) → any_text at (a ++ b) ≡ any_text at a ++ any_text (origin_after at a) b
any_text_both at [] b = refl
any_text_both at (r ∷ a) b = ap (λ (t : List ℕ). any_lines at r ++ t) (any_text_both (origin_behind at r) a b) ∙ sym (append_assoc (any_lines at r) (any_text (origin_behind at r) a) (any_text (origin_after (origin_behind at r) a) b))

lines_more : (text : List ℕ) (p : FilePart) (at : Labels) (new : List AnyRecord) (r : Result (List AnyRecord) FileFault)
    → with_lines text p at (with_any new r) ≡ with_lines (text ++ any_text at (records_in p new)) p (origin_after at (records_in p new)) r
lines_more text p at new (Ok others) =
    ap (λ (rs : List AnyRecord). Ok (text ++ any_text at rs)) (filter-append (is_in p) new others)
    ∙ ap (λ (t : List ℕ). Ok (text ++ t)) (any_text_both at (records_in p new) (records_in p others))
    ∙ ap (λ (t : List ℕ). Ok t) (sym (append_assoc text (any_text at (records_in p new)) (any_text (origin_after at (records_in p new)) (records_in p others))))
lines_more text p at new (Err e) = refl

pub ends : (whole : Result (List ℕ) FileFault) (before : InForce) (text : List ℕ) (p : FilePart) (at : Labels) (rest : List ℕ) → length rest ≡ 0 → Continues whole before text p at rest → whole ≡ Ok text
ends whole before text p at rest none h =
    sym h ∙ ap (λ (r : Result (List Entry) ShapeFault). with_lines text p at (any_file_from before r)) (entries_none rest none) ∙ ap (λ (t : List ℕ). Ok t) (append-nil text)

shape_refuses : (f : ShapeFault) (r : Result (List Entry) ShapeFault) (whole : Result (List ℕ) FileFault) → RefusesAt f r → (r ≡ Err f → whole ≡ Err (files.Shape f)) → RefusesFile (files.Shape f) whole
shape_refuses shapes.NoMemory r whole h on = tt
shape_refuses (shapes.ParenOpen n) r whole h on = on h
shape_refuses (shapes.ParenClose n) r whole h on = on h
shape_refuses (shapes.QuoteOpen n) r whole h on = on h

entry_refuses : (left : ℕ) (f : EntryFault) (r : Result AnyTaken EntryFault) (whole : Result (List ℕ) FileFault) → RefusesEntry f r → (r ≡ Err f → whole ≡ Err (files.Entry left f)) → RefusesFile (files.Entry left f) whole
entry_refuses left faults.NoMemory r whole h on = tt
entry_refuses left faults.NoOwner r whole h on = on h
entry_refuses left faults.NoTtl r whole h on = on h
entry_refuses left faults.ClassNotIn r whole h on = on h
entry_refuses left faults.DirectiveNotKept r whole h on = on h
entry_refuses left faults.BadTtl r whole h on = on h
entry_refuses left (faults.Data f) r whole h on = on h
entry_refuses left faults.EntryShort r whole h on = on h

pub shape_fails : (whole : Result (List ℕ) FileFault) (before : InForce) (text : List ℕ) (p : FilePart) (at : Labels) (rest : List ℕ) (f : ShapeFault) → RefusesAt f (entries rest) → Continues whole before text p at rest → RefusesFile (files.Shape f) whole
shape_fails whole before text p at rest f r h =
    shape_refuses f (entries rest) whole r (λ e. sym h ∙ ap (λ (es : Result (List Entry) ShapeFault). with_lines text p at (any_file_from before es)) e)

-- ---- one entry

abbrev with_first : Bool → List Found → Result (List Entry) ShapeFault → Result (List Entry) ShapeFault
with_first white founds r = shape.◌>>=◌ r (λ es. Ok (with_entry white founds es))

blank : (before : InForce) (white : Bool) (r : Result (List Entry) ShapeFault) → any_file_from before (with_first white [] r) ≡ any_file_from before r
blank before white (Ok es) = refl
blank before white (Err f) = refl

one_taken : (before : InForce) (white : Bool) (f : Found) (fs : List Found) (r : Result (List Entry) ShapeFault) (t : AnyTaken) → any_taken before white (map text_of (f ∷ fs)) ≡ Ok t → any_file_from before (with_first white (f ∷ fs) r) ≡ with_any t.1 (any_file_from t.0 r)
one_taken before white f fs (Ok es) t e = ap (λ (r : Result AnyTaken EntryFault). then_any f.left r (any_from es)) e
one_taken before white f fs (Err x) t e = refl

module _ (whole : Result (List ℕ) FileFault) (rest after : List ℕ) (before : InForce) (old : Parting) (items : List Item) (left : ℕ) (r : EntryRead rest items left after) (h : Continues whole before old.text.items old.part old.origin rest) where
  size : length r.founds ≡ length items
  size = sym (length-map r.founds text_of) ∙ ap length r.texts ∙ length-map items item_of

  none_found : (fs : List Found) → length fs ≡ 0 → fs ≡ []
  none_found [] e = refl
  none_found (f ∷ fs) e = absurd (omega arith)

  some_found : (fs : List Found) → 0 < length fs → (f : Found) × (gs : List Found) × (fs ≡ f ∷ gs)
  some_found [] e = absurd (omega arith)
  some_found (f ∷ gs) e = (f, gs, refl)

  abbrev lines : Result (List AnyRecord) FileFault → Result (List ℕ) FileFault
  lines = with_lines old.text.items old.part old.origin

  moves : (fs : List Found) → r.founds ≡ fs → whole ≡ lines (any_file_from before (with_first (white_first rest) fs (entries after)))
  moves fs e = sym h ∙ ap (λ (es : Result (List Entry) ShapeFault). lines (any_file_from before es)) (r.exact ∙ ap (λ (gs : List Found). with_first (white_first rest) gs (entries after)) e)

  -- a blank entry
  pub past_blank : length items ≡ 0 → Continues whole before old.text.items old.part old.origin after
  past_blank none = sym (moves [] (none_found r.founds (size ∙ none)) ∙ ap lines (blank before (white_first rest) (entries after)))

  items_are : (f : Found) (fs : List Found) → r.founds ≡ f ∷ fs → map text_of (f ∷ fs) ≡ map item_of items
  items_are f fs e = ap (map text_of) (sym e) ∙ r.texts

  -- an entry without fault
  pub past_entry : (t : AnyTaken) (new : Parting) → 0 < length items → any_taken before (white_first rest) (map item_of items) ≡ Ok t → TakesPart old new t → Continues whole (force_of new.file) new.text.items new.part new.origin after
  past_entry t new some e k =
      let f = some_found r.founds (omega (arith, size, some)) in
      let step : any_taken before (white_first rest) (map text_of (f.0 ∷ f.1)) ≡ Ok t = ap (any_taken before (white_first rest)) (items_are f.0 f.1 f.2) ∙ e in
      rw (k.in_force, k.text, k.part, k.origin) (sym (moves (f.0 ∷ f.1) f.2 ∙ ap lines (one_taken before (white_first rest) f.0 f.1 (entries after) t step) ∙ lines_more old.text.items old.part old.origin t.1 (any_file_from t.0 (entries after))))

  -- an entry at fault, where a fault of parentheses or quotes follows
  fault_behind : (x : ShapeFault) → RefusesAt x (entries after) → RefusesFile (files.Shape x) whole
  fault_behind x e =
      shape_refuses x (entries after) whole e
      (λ is. moves r.founds refl ∙ ap (λ (es : Result (List Entry) ShapeFault). lines (any_file_from before (with_first (white_first rest) r.founds es))) is)

  -- and where none follows
  fault_here : (x : EntryFault) → 0 < length items → RefusesEntry x (any_taken before (white_first rest) (map item_of items)) → (es : List Entry) × (entries after ≡ Ok es) → RefusesFile (files.Entry left x) whole
  fault_here x some e sound =
      let f = some_found r.founds (omega (arith, size, some)) in
      entry_refuses left x (any_taken before (white_first rest) (map item_of items)) whole e
      (λ is.
      let step : any_taken before (white_first rest) (map text_of (f.0 ∷ f.1)) ≡ Err x = ap (any_taken before (white_first rest)) (items_are f.0 f.1 f.2) ∙ is in
      moves (f.0 ∷ f.1) f.2
      ∙ ap (λ (es : Result (List Entry) ShapeFault). lines (any_file_from before (with_first (white_first rest) (f.0 ∷ f.1) es))) sound.1
      ∙ ap (λ (t : Result AnyTaken EntryFault). lines (then_any f.0.left t (any_from sound.0))) step
      ∙ ap (λ (n : ℕ). Err (files.Entry n x)) (r.place f.0 f.1 f.2))

  -- either
  pub fault_told : (x : EntryFault) (e : FileFault) → 0 < length items → RefusesEntry x (any_taken before (white_first rest) (map item_of items)) → IsFaultBefore left x after e → RefusesFile e whole
  fault_told x (files.Shape shape) some refused h = fault_behind shape h
  fault_told x (files.Entry here fault) some refused h =
      subst (λ (n : ℕ). RefusesFile (files.Entry n fault) whole) (sym h.0) (subst (λ (f : EntryFault). RefusesFile (files.Entry left f) whole) (sym h.1) (fault_here x some refused h.2))
