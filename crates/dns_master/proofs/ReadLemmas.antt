-- An entry, read item by item.
use Rattle.std.proofs.Common.{◌≡◌, ℕ, Bool, false, List, [], ◌∷◌, ◌++◌, ◌<◌, length, map, Some, None, Result, Ok, Err, refl, sym, ap, ◌∙◌, arith, append_assoc}
use Rattle.std.proofs.lemmas.List.{append-nil, length-map, map-append}
use Rattle.dns_master.specs.declared.shape.ShapeFault.{ShapeFault}
use Rattle.dns_master.specs.declared.shape.ShapeFault.TheVariants as faults
use Rattle.dns_data.specs.declared.item.Item.{Item}
use Rattle.dns_master.specs.declared.reader.Position.{Position}
use Rattle.dns_master.proofs.EntryLemmas.{from_end}
use Rattle.dns_data.specs.Items.{ItemText, item_of}
use Rattle.dns_master.specs.Entries.{◌>>=◌, Found, Entry, Split, with_entry, add, end_of, from, white_first, entries}
use Rattle.dns_master.specs.Reader.{RefusesAt, from_place, found, NextPart, text_of, EntryRead}

-- items before those that are left of an entry
abbrev pub prepend : List Found → Split → Split
prepend founds s = record { first = founds ++ s.first; others = s.others }

-- these items of the first entry are read, up to this place
pub record Begun (text : List ℕ) (items : List Item) (left : ℕ) (place : Position) : Type 0 where
  pub founds : List Found
  pub texts : map text_of founds ≡ map item_of items
  pub first : (f : Found) (fs : List Found) → founds ≡ f ∷ fs → f.left ≡ left
  pub so_far : from 0 0 text ≡ (from_place place >>= λ s. Ok (prepend founds s))

none_before : (r : Result Split ShapeFault) → r ≡ (r >>= λ s. Ok (prepend [] s))
none_before (Ok s) = refl
none_before (Err e) = refl

pub begun_none : (text : List ℕ) (left : ℕ) (place : Position) → place.rest.now ≡ text → place.depth ≡ 0 → place.outermost ≡ 0 → Begun text [] left place
begun_none text left place e d u = record {
  founds = [];
  texts = refl;
  first = λ f fs none. absurd cc;
  so_far = rw (e, d, u) (none_before (from 0 0 text));
}

one_more : (founds : List Found) (f : Found) (r : Result Split ShapeFault) → ((r >>= λ s. Ok (add f s)) >>= λ s. Ok (prepend founds s)) ≡ (r >>= λ s. Ok (prepend (founds ++ f ∷ []) s))
one_more founds f (Ok s) = ap (λ (fs : List Found). Ok (record { first = fs; others = s.others })) (sym (append_assoc founds (f ∷ []) s.first))
one_more founds f (Err e) = refl

-- where the first item is, after one more
first_kept : (fs : List Found) (x : Found) (left now : ℕ) → (length fs ≡ 0 → now ≡ x.left) → (0 < length fs → now ≡ left) → ((f : Found) (gs : List Found) → fs ≡ f ∷ gs → f.left ≡ left)
    → (f : Found) (gs : List Found) → fs ++ x ∷ [] ≡ f ∷ gs → f.left ≡ now
first_kept [] x left now none some at f gs e = let same : f ≡ x = cc in ap (λ (y : Found). y.left) same ∙ sym (none refl)
first_kept (g ∷ fs) x left now none some at f gs e =
    let same : f ≡ g = cc in ap (λ (y : Found). y.left) same ∙ at g fs refl ∙ sym (some (omega arith))

pub begun_more : (text : List ℕ) (items : List Item) (left : ℕ) (place : Position) (item : Item) (after : Position) (now : ℕ) → (length items ≡ 0 → now ≡ (found item after).left) → (0 < length items → now ≡ left)
    → Begun text items left place → NextPart place (Some item) after → Begun text (items ++ item ∷ []) now after
begun_more text items left place item after now none some b next =
    let size : length b.founds ≡ length items = sym (length-map b.founds text_of) ∙ ap length b.texts ∙ length-map items item_of in
    record {
      founds = b.founds ++ found item after ∷ [];
      texts = map-append text_of b.founds (found item after ∷ []) ∙ ap (λ (ts : List ItemText). ts ++ item_of item ∷ []) b.texts ∙ sym (map-append item_of items (item ∷ []));
      first = first_kept b.founds (found item after) left now (λ h. none (sym size ∙ h)) (λ h. some (omega (arith, size, h))) b.first;
      so_far = b.so_far ∙ ap (λ (r : Result Split ShapeFault). r >>= λ s. Ok (prepend b.founds s)) next ∙ one_more b.founds (found item after) (from_place after);
    }

whole_entry : (white next_white : Bool) (founds : List Found) (r : Result Split ShapeFault) →
    (((r >>= λ s. Ok (end_of next_white s)) >>= λ s. Ok (prepend founds s)) >>= λ s. Ok (with_entry white s.first s.others))
    ≡ ((r >>= λ s. Ok (with_entry next_white s.first s.others)) >>= λ es. Ok (with_entry white founds es))
whole_entry white next_white founds (Ok s) = ap (λ (fs : List Found). Ok (with_entry white fs (with_entry next_white s.first s.others))) (append-nil founds)
whole_entry white next_white founds (Err e) = refl

pub entry_ends : (text : List ℕ) (items : List Item) (left : ℕ) (place after : Position) → Begun text items left place → NextPart place None after → EntryRead text items left after.rest.now
entry_ends text items left place after b next = record {
  founds = b.founds;
  texts = b.texts;
  place = b.first;
  exact =
      ap (λ (r : Result Split ShapeFault). r >>= λ s. Ok (with_entry (white_first text) s.first s.others))
      (b.so_far ∙ ap (λ (r : Result Split ShapeFault). r >>= λ s. Ok (prepend b.founds s)) next.1)
      ∙ whole_entry (white_first text) (white_first after.rest.now) b.founds (from 0 0 after.rest.now);
}

pub refuses_on : {A B : Type 0} (e : ShapeFault) (r : Result A ShapeFault) (total : Result B ShapeFault) → RefusesAt e r → ((f : ShapeFault) → r ≡ Err f → total ≡ Err f) → RefusesAt e total
refuses_on faults.NoMemory r total h on = tt
refuses_on fault r total h on = on fault h

pub entry_fails : (text : List ℕ) (items : List Item) (left : ℕ) (place : Position) (e : ShapeFault) → Begun text items left place → RefusesAt e (from_place place) → RefusesAt e (entries text)
entry_fails text items left place e b h =
    refuses_on e (from_place place) (entries text) h
    (λ f is.
    ap (λ (r : Result Split ShapeFault). r >>= λ s. Ok (with_entry (white_first text) s.first s.others))
    (b.so_far ∙ ap (λ (r : Result Split ShapeFault). r >>= λ s. Ok (prepend b.founds s)) is))

-- ---- entry after entry

-- what is known of a text whose first entries are read up to a rest
pub record Follows (text rest : List ℕ) : Type 0 where
  pub fault : (f : ShapeFault) → entries rest ≡ Err f → entries text ≡ Err f
  pub sound : (es : List Entry) → entries rest ≡ Ok es → (all : List Entry) × (entries text ≡ Ok all)

pub follows_self : (text : List ℕ) → Follows text text
follows_self text = record { fault = λ f e. e; sound = λ es e. (es, e) }

pub follows_entry : (text rest after : List ℕ) (items : List Item) (left : ℕ) → Follows text rest → EntryRead rest items left after → Follows text after
follows_entry text rest after items left h r = record {
  fault = λ f e. h.fault f (r.exact ∙ ap (λ (es : Result (List Entry) ShapeFault). es >>= λ all. Ok (with_entry (white_first rest) r.founds all)) e);
  sound = λ es e. h.sound (with_entry (white_first rest) r.founds es) (r.exact ∙ ap (λ (all : Result (List Entry) ShapeFault). all >>= λ x. Ok (with_entry (white_first rest) r.founds x)) e);
}

pub entries_none : (text : List ℕ) → length text ≡ 0 → entries text ≡ Ok []
entries_none [] e = ap (λ (r : Result Split ShapeFault). r >>= λ s. Ok (with_entry false s.first s.others)) (from_end 0 0)
entries_none (o ∷ rest) e = absurd (omega arith)
