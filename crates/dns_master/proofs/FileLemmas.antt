-- A file, entry by entry.
use Rattle.std.proofs.Common.{◌≡◌, ◌==◌, ℕ, Bool, false, List, [], ◌∷◌, ◌++◌, ◌<◌, length, map, Result, Ok, Err, refl, sym, ap, subst, ◌∙◌, arith, append_assoc}
use Rattle.std.proofs.lemmas.List.{append-nil, length-map}
use Rattle.dns_data.specs.declared.item.Item.{Item}
use Rattle.dns_data.specs.declared.record.Record.{Record}
use Rattle.dns_data.specs.Items.{item_of}
use Rattle.dns_master.specs.declared.shape.ShapeFault.{ShapeFault}
use Rattle.dns_master.specs.declared.shape.ShapeFault.TheVariants as shapes
use Rattle.dns_master.specs.declared.entry_fault.EntryFault.{EntryFault}
use Rattle.dns_master.specs.declared.entry_fault.EntryFault.TheVariants as faults
use Rattle.dns_master.specs.declared.file.FileFault.{FileFault}
use Rattle.dns_master.specs.declared.file.FileFault.TheVariants as files
use Rattle.dns_master.specs.Entries.{Found, Entry, with_entry, white_first, entries}
use Rattle.dns_master.specs.Entries as shape
use Rattle.dns_master.specs.EntryFaults.{RefusesEntry}
use Rattle.dns_master.specs.Reader.{RefusesAt, EntryRead, text_of}
use Rattle.dns_master.specs.InForce.{InForce, handed_in}
use Rattle.dns_master.specs.Files.{Taken, taken, with_records, then_entries, read_from, file_from, placed_file}
use Rattle.dns_master.specs.FileViews.{RefusesFile, IsFaultBefore}
use Rattle.dns_master.proofs.ReadLemmas.{entries_none}

-- what is left to read makes, after these records, the whole
abbrev pub Continues : Result (List Record) FileFault → InForce → List Record → List ℕ → Type 0
Continues whole before records rest = with_records records (file_from before (entries rest)) ≡ whole

with_none : (r : Result (List Record) FileFault) → with_records [] r ≡ r
with_none (Ok records) = refl
with_none (Err e) = refl

with_more : (a b : List Record) (r : Result (List Record) FileFault) → with_records a (with_records b r) ≡ with_records (a ++ b) r
with_more a b (Ok records) = ap (λ (rs : List Record). Ok rs) (sym (append_assoc a b records))
with_more a b (Err e) = refl

-- where this origin is handed in, and no records are before
pub begins : (text : List ℕ) (origin : List (List ℕ)) (before : InForce) (records : List Record) → before ≡ handed_in origin → records ≡ [] → with_records records (file_from before (entries text)) ≡ placed_file text origin
begins text origin before records e none = rw (e, none) (with_none (placed_file text origin))

pub ends : (whole : Result (List Record) FileFault) (before : InForce) (records : List Record) (rest : List ℕ) → length rest ≡ 0 → Continues whole before records rest → whole ≡ Ok records
ends whole before records rest none h =
    sym h ∙ ap (λ (r : Result (List Entry) ShapeFault). with_records records (file_from before r)) (entries_none rest none) ∙ ap (λ (rs : List Record). Ok rs) (append-nil records)

pub shape_refuses : (f : ShapeFault) (r : Result (List Entry) ShapeFault) (whole : Result (List Record) FileFault) → RefusesAt f r → (r ≡ Err f → whole ≡ Err (files.Shape f)) → RefusesFile (files.Shape f) whole
shape_refuses shapes.NoMemory r whole h on = tt
shape_refuses (shapes.ParenOpen n) r whole h on = on h
shape_refuses (shapes.ParenClose n) r whole h on = on h
shape_refuses (shapes.QuoteOpen n) r whole h on = on h

entry_refuses : (left : ℕ) (f : EntryFault) (r : Result Taken EntryFault) (whole : Result (List Record) FileFault) → RefusesEntry f r → (r ≡ Err f → whole ≡ Err (files.Entry left f)) → RefusesFile (files.Entry left f) whole
entry_refuses left faults.NoMemory r whole h on = tt
entry_refuses left faults.NoOwner r whole h on = on h
entry_refuses left faults.NoTtl r whole h on = on h
entry_refuses left faults.ClassNotIn r whole h on = on h
entry_refuses left faults.DirectiveNotKept r whole h on = on h
entry_refuses left faults.BadTtl r whole h on = on h
entry_refuses left (faults.Data f) r whole h on = on h
entry_refuses left faults.EntryShort r whole h on = on h

pub shape_fails : (whole : Result (List Record) FileFault) (before : InForce) (records : List Record) (rest : List ℕ) (f : ShapeFault) → RefusesAt f (entries rest) → Continues whole before records rest → RefusesFile (files.Shape f) whole
shape_fails whole before records rest f r h =
    shape_refuses f (entries rest) whole r (λ e. sym h ∙ ap (λ (es : Result (List Entry) ShapeFault). with_records records (file_from before es)) e)

-- ---- one entry

abbrev with_first : Bool → List Found → Result (List Entry) ShapeFault → Result (List Entry) ShapeFault
with_first white founds r = shape.◌>>=◌ r (λ es. Ok (with_entry white founds es))

blank : (before : InForce) (white : Bool) (r : Result (List Entry) ShapeFault) → file_from before (with_first white [] r) ≡ file_from before r
blank before white (Ok es) = refl
blank before white (Err f) = refl

one_taken : (before : InForce) (white : Bool) (f : Found) (fs : List Found) (r : Result (List Entry) ShapeFault) (t : Taken) → taken before white (map text_of (f ∷ fs)) ≡ Ok t → file_from before (with_first white (f ∷ fs) r) ≡ with_records t.1 (file_from t.0 r)
one_taken before white f fs (Ok es) t e = ap (λ (r : Result Taken EntryFault). then_entries f.left r (read_from es)) e
one_taken before white f fs (Err x) t e = refl

module _ (whole : Result (List Record) FileFault) (rest after : List ℕ) (before : InForce) (records : List Record) (items : List Item) (left : ℕ) (r : EntryRead rest items left after) (h : Continues whole before records rest) where
  size : length r.founds ≡ length items
  size = sym (length-map r.founds text_of) ∙ ap length r.texts ∙ length-map items item_of

  none_found : (fs : List Found) → length fs ≡ 0 → fs ≡ []
  none_found [] e = refl
  none_found (f ∷ fs) e = absurd (omega arith)

  some_found : (fs : List Found) → 0 < length fs → (f : Found) × (gs : List Found) × (fs ≡ f ∷ gs)
  some_found [] e = absurd (omega arith)
  some_found (f ∷ gs) e = (f, gs, refl)

  moves : (fs : List Found) → r.founds ≡ fs → whole ≡ with_records records (file_from before (with_first (white_first rest) fs (entries after)))
  moves fs e = sym h ∙ ap (λ (es : Result (List Entry) ShapeFault). with_records records (file_from before es)) (r.exact ∙ ap (λ (gs : List Found). with_first (white_first rest) gs (entries after)) e)

  -- a blank entry
  pub past_blank : length items ≡ 0 → Continues whole before records after
  past_blank none =
      sym (moves [] (none_found r.founds (size ∙ none)) ∙ ap (with_records records) (blank before (white_first rest) (entries after)))

  items_are : (f : Found) (fs : List Found) → r.founds ≡ f ∷ fs → map text_of (f ∷ fs) ≡ map item_of items
  items_are f fs e = ap (map text_of) (sym e) ∙ r.texts

  -- an entry without fault
  pub past_entry : (t : Taken) (next : InForce) (now : List Record) → 0 < length items → taken before (white_first rest) (map item_of items) ≡ Ok t → next ≡ t.0 → now ≡ records ++ t.1 → Continues whole next now after
  past_entry t next now some e force all =
      let f = some_found r.founds (omega (arith, size, some)) in
      let step : taken before (white_first rest) (map text_of (f.0 ∷ f.1)) ≡ Ok t = ap (taken before (white_first rest)) (items_are f.0 f.1 f.2) ∙ e in
      rw (force, all) (sym (moves (f.0 ∷ f.1) f.2 ∙ ap (with_records records) (one_taken before (white_first rest) f.0 f.1 (entries after) t step) ∙ with_more records t.1 (file_from t.0 (entries after))))

  -- an entry at fault, where a fault of parentheses or quotes follows
  pub fault_behind : (x : ShapeFault) → RefusesAt x (entries after) → RefusesFile (files.Shape x) whole
  fault_behind x e =
      shape_refuses x (entries after) whole e
      (λ is. moves r.founds refl ∙ ap (λ (es : Result (List Entry) ShapeFault). with_records records (file_from before (with_first (white_first rest) r.founds es))) is)

  -- and where none follows
  pub fault_here : (x : EntryFault) → 0 < length items → RefusesEntry x (taken before (white_first rest) (map item_of items)) → (es : List Entry) × (entries after ≡ Ok es) → RefusesFile (files.Entry left x) whole
  fault_here x some e sound =
      let f = some_found r.founds (omega (arith, size, some)) in
      entry_refuses left x (taken before (white_first rest) (map item_of items)) whole e
      (λ is.
      let step : taken before (white_first rest) (map text_of (f.0 ∷ f.1)) ≡ Err x = ap (taken before (white_first rest)) (items_are f.0 f.1 f.2) ∙ is in
      moves (f.0 ∷ f.1) f.2
      ∙ ap (λ (es : Result (List Entry) ShapeFault). with_records records (file_from before (with_first (white_first rest) (f.0 ∷ f.1) es))) sound.1
      ∙ ap (λ (t : Result Taken EntryFault). with_records records (then_entries f.0.left t (read_from sound.0))) step
      ∙ ap (λ (n : ℕ). Err (files.Entry n x)) (r.place f.0 f.1 f.2))

  -- either
  pub fault_told : (x : EntryFault) (e : FileFault) → 0 < length items → RefusesEntry x (taken before (white_first rest) (map item_of items)) → IsFaultBefore left x after e → RefusesFile e whole
  fault_told x (files.Shape shape) some refused h = fault_behind shape h
  fault_told x (files.Entry here fault) some refused h =
      subst (λ (n : ℕ). RefusesFile (files.Entry n fault) whole) (sym h.0) (subst (λ (f : EntryFault). RefusesFile (files.Entry left f) whole) (sym h.1) (fault_here x some refused h.2))

-- a number that is tested not to be 0
pub not_none : (n : ℕ) (none : Bool) → none ≡ (n == 0) → none ≡ false → 0 < n
not_none n none is not = grind (arith, is, not)
