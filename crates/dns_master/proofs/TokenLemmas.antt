-- Tokens, item by item.
use Rattle.std.proofs.Common.{◌≡◌, ℕ, suc, ◌+◌, Bool, true, false, List, [], ◌∷◌, ◌++◌, length, map, Some, None, Result, Ok, Err, refl, sym, ap, ◌∙◌, arith, append_assoc, length-append}
use Rattle.std.proofs.lemmas.List.{append-nil, map-append}
use Rattle.dns_master.specs.declared.shape.ShapeFault.{ShapeFault}
use Rattle.dns_data.specs.declared.item.Item.{Item}
use Rattle.dns_master.specs.declared.reader.Position.{Position}
use Rattle.dns_master.specs.Entries.{◌>>=◌, Found, Entry, Split, with_entry, add, end_of, from, white_first, entries}
use Rattle.dns_master.specs.Reader.{RefusesAt, from_place, found, NextPart}
use Rattle.dns_master.specs.Tokens.{TokenText, token_at, tokens_from, placed_tokens}
use Rattle.dns_master.proofs.EntryLemmas.{from_end}
use Rattle.dns_master.proofs.StepLemmas.{zero_outer}
use Rattle.dns_master.proofs.ReadLemmas.{refuses_on}

abbrev pub is_filled : List Found → Bool
is_filled [] = false
is_filled (f ∷ fs) = true

-- what is read up to a place: whole entries, and the items of one
pub record SoFar (text : List ℕ) (tokens : List TokenText) (entry : ℕ) (filled : Bool) (place : Position) : Type 0 where
  pub done : List Entry
  pub items : List Found
  pub white : Bool
  pub views : tokens ≡ tokens_from text 0 done ++ map (token_at text entry) items
  pub count : entry ≡ length done
  pub fills : filled ≡ is_filled items
  pub read : entries text ≡ (from_place place >>= λ s. Ok (done ++ with_entry white (items ++ s.first) s.others))

pub begins : (text : List ℕ) (place : Position) → place.rest.now ≡ text → place.depth ≡ 0 → place.outermost ≡ 0 → SoFar text [] 0 false place
begins text place e d u = record {
  done = [];
  items = [];
  white = white_first text;
  views = refl;
  count = refl;
  fills = refl;
  read = rw (e, d, u) refl;
}

-- ---- one more item

item_read : (done : List Entry) (items : List Found) (white : Bool) (f : Found) (r : Result Split ShapeFault) →
    ((r >>= λ s. Ok (add f s)) >>= λ s. Ok (done ++ with_entry white (items ++ s.first) s.others)) ≡ (r >>= λ s. Ok (done ++ with_entry white ((items ++ f ∷ []) ++ s.first) s.others))
item_read done items white f (Ok s) = ap (λ (fs : List Found). Ok (done ++ with_entry white fs s.others)) (sym (append_assoc items (f ∷ []) s.first))
item_read done items white f (Err e) = refl

filled_more : (items : List Found) (f : Found) → true ≡ is_filled (items ++ f ∷ [])
filled_more [] f = refl
filled_more (g ∷ items) f = refl

pub one_item : (text : List ℕ) (tokens : List TokenText) (entry : ℕ) (filled : Bool) (place : Position) (item : Item) (after : Position) (token : TokenText) → token ≡ token_at text entry (found item after)
    → SoFar text tokens entry filled place → NextPart place (Some item) after → SoFar text (tokens ++ token ∷ []) entry true after
one_item text tokens entry filled place item after token is h next =
    let f = found item after in
    record {
      done = h.done;
      items = h.items ++ f ∷ [];
      white = h.white;
      views =
          ap (λ (t : TokenText). tokens ++ t ∷ []) is ∙ ap (λ (ts : List TokenText). ts ++ token_at text entry f ∷ []) h.views
          ∙ append_assoc (tokens_from text 0 h.done) (map (token_at text entry) h.items) (token_at text entry f ∷ [])
          ∙ ap (λ (ts : List TokenText). tokens_from text 0 h.done ++ ts) (sym (map-append (token_at text entry) h.items (f ∷ [])));
      count = h.count;
      fills = filled_more h.items f;
      read = h.read ∙ ap (λ (r : Result Split ShapeFault). r >>= λ s. Ok (h.done ++ with_entry h.white (h.items ++ s.first) s.others)) next ∙ item_read h.done h.items h.white f (from_place after);
    }

-- ---- an entry's end

after_place : (after : Position) → after.depth ≡ 0 → from 0 0 after.rest.now ≡ from_place after
after_place after d = sym (ap (λ (n : ℕ). from n after.outermost after.rest.now) d ∙ zero_outer after.outermost after.rest.now)

blank_read : (done : List Entry) (white next : Bool) (r : Result Split ShapeFault) →
    ((r >>= λ s. Ok (end_of next s)) >>= λ s. Ok (done ++ with_entry white ([] ++ s.first) s.others)) ≡ (r >>= λ s. Ok (done ++ with_entry next ([] ++ s.first) s.others))
blank_read done white next (Ok s) = refl
blank_read done white next (Err e) = refl

entry_read : (done : List Entry) (f : Found) (fs : List Found) (white next : Bool) (r : Result Split ShapeFault) →
    ((r >>= λ s. Ok (end_of next s)) >>= λ s. Ok (done ++ with_entry white ((f ∷ fs) ++ s.first) s.others)) ≡ (r >>= λ s. Ok ((done ++ (record { white = white; items = f ∷ fs }) ∷ []) ++ with_entry next ([] ++ s.first) s.others))
entry_read done f fs white next (Ok s) =
    ap (λ (items : List Found). Ok (done ++ (record { white = white; items = f ∷ items }) ∷ with_entry next s.first s.others)) (append-nil fs)
    ∙ ap (λ (es : List Entry). Ok es) (sym (append_assoc done ((record { white = white; items = f ∷ fs }) ∷ []) (with_entry next s.first s.others)))
entry_read done f fs white next (Err e) = refl

tokens_more : (text : List ℕ) (k : ℕ) (done : List Entry) (e : Entry) → tokens_from text k (done ++ e ∷ []) ≡ tokens_from text k done ++ map (token_at text (k + length done)) e.items
tokens_more text k [] e = let same : k ≡ k + 0 = omega arith in append-nil (map (token_at text k) e.items) ∙ ap (λ (n : ℕ). map (token_at text n) e.items) same
tokens_more text k (d ∷ done) e =
    let same : suc k + length done ≡ k + suc (length done) = omega arith in
    ap (λ (ts : List TokenText). map (token_at text k) d.items ++ ts) (tokens_more text (suc k) done e ∙ ap (λ (n : ℕ). tokens_from text (suc k) done ++ map (token_at text n) e.items) same)
    ∙ sym (append_assoc (map (token_at text k) d.items) (tokens_from text (suc k) done) (map (token_at text (k + suc (length done))) e.items))

-- the whole entries, once an entry has ended
closed : (text : List ℕ) (tokens : List TokenText) (entry : ℕ) (done : List Entry) (items : List Found) (white : Bool) → tokens ≡ tokens_from text 0 done ++ map (token_at text entry) items → entry ≡ length done → tokens_from text 0 (done ++ with_entry white items []) ≡ tokens
closed text tokens entry done [] white views count = ap (tokens_from text 0) (append-nil done) ∙ sym (views ∙ append-nil (tokens_from text 0 done))
closed text tokens entry done (f ∷ fs) white views count =
    let same : 0 + length done ≡ entry = omega (arith, count) in
    tokens_more text 0 done (record { white = white; items = f ∷ fs }) ∙ ap (λ (n : ℕ). tokens_from text 0 done ++ map (token_at text n) (f ∷ fs)) same ∙ sym views

module _ (text : List ℕ) (tokens : List TokenText) (entry : ℕ) (place after : Position) where
  past : {B : Type 0} (k : Split → Result B ShapeFault) → NextPart place None after → (from_place place >>= k) ≡ ((from 0 0 after.rest.now >>= λ s. Ok (end_of (white_first after.rest.now) s)) >>= k)
  past k next = ap (λ (r : Result Split ShapeFault). r >>= k) next.1

  blank_from : (h : SoFar text tokens entry false place) (items : List Found) → h.items ≡ items → NextPart place None after → SoFar text tokens entry false after
  blank_from h [] none next = record {
    done = h.done;
    items = [];
    white = white_first after.rest.now;
    views = h.views ∙ ap (λ (fs : List Found). tokens_from text 0 h.done ++ map (token_at text entry) fs) none;
    count = h.count;
    fills = refl;
    read =
        h.read ∙ ap (λ (fs : List Found). from_place place >>= λ s. Ok (h.done ++ with_entry h.white (fs ++ s.first) s.others)) none
        ∙ past (λ s. Ok (h.done ++ with_entry h.white ([] ++ s.first) s.others)) next
        ∙ blank_read h.done h.white (white_first after.rest.now) (from 0 0 after.rest.now)
        ∙ ap (λ (r : Result Split ShapeFault). r >>= λ s. Ok (h.done ++ with_entry (white_first after.rest.now) ([] ++ s.first) s.others)) (after_place after next.0);
  }
  blank_from h (f ∷ fs) none next = absurd (let a = h.fills ∙ ap is_filled none in cc)

  pub blank_entry : SoFar text tokens entry false place → NextPart place None after → SoFar text tokens entry false after
  blank_entry h next = blank_from h h.items refl next

  filled_from : (h : SoFar text tokens entry true place) (items : List Found) → h.items ≡ items → NextPart place None after → SoFar text tokens (entry + 1) false after
  filled_from h [] none next = absurd (let a = h.fills ∙ ap is_filled none in cc)
  filled_from h (f ∷ fs) none next =
      let views = h.views ∙ ap (λ (gs : List Found). tokens_from text 0 h.done ++ map (token_at text entry) gs) none in
      record {
        done = h.done ++ (record { white = h.white; items = f ∷ fs }) ∷ [];
        items = [];
        white = white_first after.rest.now;
        views = sym (append-nil (tokens_from text 0 (h.done ++ (record { white = h.white; items = f ∷ fs }) ∷ [])) ∙ closed text tokens entry h.done (f ∷ fs) h.white views h.count);
        count = omega (arith, h.count, length-append h.done ((record { white = h.white; items = f ∷ fs }) ∷ []));
        fills = refl;
        read =
            h.read ∙ ap (λ (gs : List Found). from_place place >>= λ s. Ok (h.done ++ with_entry h.white (gs ++ s.first) s.others)) none
            ∙ past (λ s. Ok (h.done ++ with_entry h.white ((f ∷ fs) ++ s.first) s.others)) next
            ∙ entry_read h.done f fs h.white (white_first after.rest.now) (from 0 0 after.rest.now)
            ∙ ap (λ (r : Result Split ShapeFault). r >>= λ s. Ok ((h.done ++ (record { white = h.white; items = f ∷ fs }) ∷ []) ++ with_entry (white_first after.rest.now) ([] ++ s.first) s.others)) (after_place after next.0);
      }

  pub filled_entry : SoFar text tokens entry true place → NextPart place None after → SoFar text tokens (entry + 1) false after
  filled_entry h next = filled_from h h.items refl next

  pub all_read : (filled : Bool) → SoFar text tokens entry filled place → NextPart place None after → after.rest.now ≡ [] → placed_tokens text ≡ Ok tokens
  all_read filled h next none =
      let end : (from 0 0 after.rest.now >>= λ s. Ok (end_of (white_first after.rest.now) s)) ≡ Ok (record { first = []; others = [] }) = rw none (ap (λ (r : Result Split ShapeFault). r >>= λ s. Ok (end_of false s)) (from_end 0 0)) in
      let read : entries text ≡ Ok (h.done ++ with_entry h.white h.items []) =
      h.read ∙ past (λ s. Ok (h.done ++ with_entry h.white (h.items ++ s.first) s.others)) next
      ∙ ap (λ (r : Result Split ShapeFault). r >>= λ s. Ok (h.done ++ with_entry h.white (h.items ++ s.first) s.others)) end
      ∙ ap (λ (fs : List Found). Ok (h.done ++ with_entry h.white fs [])) (append-nil h.items) in
      ap (λ (r : Result (List Entry) ShapeFault). r >>= λ es. Ok (tokens_from text 0 es)) read
      ∙ ap (λ (ts : List TokenText). Ok ts) (closed text tokens entry h.done h.items h.white h.views h.count)

pub tokens_fail : (text : List ℕ) (tokens : List TokenText) (entry : ℕ) (filled : Bool) (place : Position) (e : ShapeFault) → SoFar text tokens entry filled place → RefusesAt e (from_place place) → RefusesAt e (placed_tokens text)
tokens_fail text tokens entry filled place e h r =
    refuses_on e (from_place place) (placed_tokens text) r
    (λ f is. ap (λ (es : Result (List Entry) ShapeFault). es >>= λ all. Ok (tokens_from text 0 all))
    (h.read ∙ ap (λ (s : Result Split ShapeFault). s >>= λ x. Ok (h.done ++ with_entry h.white (h.items ++ x.first) x.others)) is))

pub no_octets : (text : List ℕ) → length text ≡ 0 → text ≡ []
no_octets [] e = refl
no_octets (o ∷ text) e = absurd (omega arith)
