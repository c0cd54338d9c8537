-- A record of another type, item by item, and its line.
use Rattle.std.proofs.Common.{◌≡◌, ℕ, suc, ◌+◌, ◌<◌, Bool, true, false, not, ◌&&◌, ◌||◌, eqb, List, [], ◌∷◌, ◌++◌, length, map, drop, get_or, Option, Result, Ok, Err, refl, sym, ap, ◌∙◌, arith, append_assoc}
use Rattle.std.proofs.Math.Seq.{drop-cons}
use Rattle.std.specs.Prelude.{codes}
use Rattle.std.specs.List.{list_any}
use Rattle.dns_names.specs.declared.name_fault.NameFault.TheVariants.{BadEscape}
use Rattle.dns_data.specs.declared.data_fault.DataFault.TheVariants.{TypeNotKept, Name}
use Rattle.dns_data.specs.declared.item.Item.{Item}
use Rattle.dns_data.specs.Items.{ItemText, item_of, item_text}
use Rattle.dns_master.specs.declared.entry_fault.EntryFault.{EntryFault}
use Rattle.dns_master.specs.declared.entry_fault.EntryFault.TheVariants as faults
use Rattle.dns_master.specs.declared.field.TtlAndClass.{TtlAndClass}
use Rattle.dns_master.specs.declared.other.OtherPart.{OtherPart}
use Rattle.dns_master.specs.declared.other.OtherPart.TheVariants as others
use Rattle.dns_master.specs.Grammar.{taken_behind}
use Rattle.dns_master.specs.EntryFaults.{◌>>=◌, RefusesEntry}
use Rattle.dns_master.specs.Fields.{part_of}
use Rattle.dns_master.specs.OtherTypes.{is_other_type}
use Rattle.dns_master.specs.Joined.{gap, is_key, flagged, flagged_text}
use Rattle.dns_master.specs.AnyRecords.{OtherLead, other_part, with_next, other_lead_of, ends_open, whole_lead}
use Rattle.dns_master.specs.PartViews.{lead_with, lead_at}
use Rattle.dns_master.proofs.FieldLemmas.{items_from}
use Rattle.dns_master.proofs.JoinedLaws.{gap_both}

-- ---- TTL and class

module _ (items : List Item) (i : ℕ) (d : Item) (read first : TtlAndClass) (h : i < length items) (so_far : other_lead_of first (map item_of items) ≡ other_lead_of read (drop i (map item_of items))) where
  abbrev after : Result (OtherPart) EntryFault → Result OtherLead EntryFault
  after r = r >>= λ next. with_next (item_of (get_or items i d)) (drop (i + 1) (map item_of items)) next (λ n. other_lead_of n (drop (i + 1) (map item_of items)))

  step : other_lead_of first (map item_of items) ≡ after (other_part read.ttl (part_of read (item_of (get_or items i d))))
  step = so_far ∙ ap (other_lead_of read) (items_from items i d h)

  pub other_more : (found : OtherPart) (next : TtlAndClass) → other_part read.ttl (part_of read (item_of (get_or items i d))) ≡ Ok found → found ≡ others.More next → other_lead_of first (map item_of items) ≡ other_lead_of next (drop (i + 1) (map item_of items))
  other_more found next e m = step ∙ ap after (e ∙ ap (λ (x : OtherPart). Ok x) m)

  pub other_ends : (found : OtherPart) (ttl : Option ℕ) → other_part read.ttl (part_of read (item_of (get_or items i d))) ≡ Ok found → found ≡ others.Kind ttl → other_lead_of first (map item_of items) ≡ Ok (lead_at ttl (drop i (map item_of items)))
  other_ends found ttl e m =
      step ∙ ap after (e ∙ ap (λ (x : OtherPart). Ok x) m) ∙ ap (λ (l : List ItemText). Ok (lead_at ttl l)) (sym (items_from items i d h))

  pub other_refused : (fault : EntryFault) → RefusesEntry fault (other_part read.ttl (part_of read (item_of (get_or items i d)))) → RefusesEntry fault (other_lead_of first (map item_of items))
  other_refused faults.NoMemory r = tt
  other_refused fault r = step ∙ ap after r

-- ---- a backslash at the end

taken_step : (taken : Bool) (o : ℕ) (rest : List ℕ) → taken_behind taken (o ∷ rest) ≡ taken_behind (not taken && eqb o 92) rest
taken_step true o rest = refl
taken_step false o rest = refl

-- one octet more
pub taken_more : (raw : List ℕ) (i o : ℕ) (taken next : Bool) → i < length raw → o ≡ get_or raw i o → next ≡ (not taken && eqb o 92) → taken_behind false raw ≡ taken_behind taken (drop i raw) → taken_behind false raw ≡ taken_behind next (drop (i + 1) raw)
taken_more raw i o taken next h is n so_far =
    let more : drop i raw ≡ o ∷ drop (i + 1) raw = sub (drop-cons raw i o h) in
    so_far ∙ ap (taken_behind taken) more ∙ taken_step taken o (drop (i + 1) raw) ∙ ap (λ (t : Bool). taken_behind t (drop (i + 1) raw)) (sym n)
  where
    sub : drop i raw ≡ get_or raw i o ∷ drop (suc i) raw → drop i raw ≡ o ∷ drop (i + 1) raw
    sub e = e ∙ ap (λ (x : ℕ). x ∷ drop (suc i) raw) (sym is) ∙ ap (λ (n : ℕ). o ∷ drop n raw) (let same : suc i ≡ i + 1 = omega arith in same)

pub any_open : (items : List Item) → list_any (λ item. taken_behind false item.raw.now) items ≡ list_any ends_open (map item_of items)
any_open [] = refl
any_open (item ∷ items) = ap (λ (b : Bool). taken_behind false item.raw.now || b) (any_open items)

-- the check of a word and its data
module _ (ttl : Option ℕ) (kind : List ℕ) (items : List Item) (h : is_other_type kind ≡ true) where
  pub whole_open : list_any (λ item. taken_behind false item.raw.now) items ≡ true → whole_lead (lead_with ttl kind (map item_of items)) ≡ Err (faults.Data (Name BadEscape))
  whole_open e = rw (h, sym (any_open items) ∙ e) refl

  pub whole_given : list_any (λ item. taken_behind false item.raw.now) items ≡ false → whole_lead (lead_with ttl kind (map item_of items)) ≡ Ok (lead_with ttl kind (map item_of items))
  whole_given e = rw (h, sym (any_open items) ∙ e) refl

pub whole_other : (ttl : Option ℕ) (kind : List ℕ) (items : List ItemText) → is_other_type kind ≡ false → whole_lead (lead_with ttl kind items) ≡ Err (faults.Data TypeNotKept)
whole_other ttl kind items h = rw h refl

-- ---- lines

-- one item more
pub flagged_more : (items : List Item) (i : ℕ) (d : Item) (keys after next : Bool) (old now whole : List ℕ) → i < length items
    → now ≡ old ++ gap ((get_or items i d).quoted && after) (item_text (item_of (get_or items i d))) → next ≡ is_key keys (item_of (get_or items i d))
    → old ++ flagged_text (flagged keys after (drop i (map item_of items))) ≡ whole → now ++ flagged_text (flagged keys next (drop (i + 1) (map item_of items))) ≡ whole
flagged_more items i d keys after next old now whole h is key so_far =
    let item = item_of (get_or items i d) in
    let behind = drop (i + 1) (map item_of items) in
    let rest = flagged_text (flagged keys (is_key keys item) behind) in
    ap (λ (b : Bool). now ++ flagged_text (flagged keys b behind)) key
    ∙ ap (λ (t : List ℕ). t ++ rest) is ∙ append_assoc old (gap (item.quoted && after) (item_text item)) rest
    ∙ ap (λ (t : List ℕ). old ++ t) (gap_both (item.quoted && after) (item_text item) rest)
    ∙ ap (λ (l : List ItemText). old ++ flagged_text (flagged keys after l)) (sym (items_from items i d h)) ∙ so_far

-- the parts of a line
pub line_made : (old owner ttl kind tail : List ℕ) → ((old ++ (owner ++ 32 ∷ (ttl ++ codes " IN "))) ++ kind) ++ tail ≡ old ++ (owner ++ 32 ∷ (ttl ++ 32 ∷ 73 ∷ 78 ∷ 32 ∷ (kind ++ tail)))
line_made old owner ttl kind tail =
    append_assoc (old ++ (owner ++ 32 ∷ (ttl ++ codes " IN "))) kind tail ∙ append_assoc old (owner ++ 32 ∷ (ttl ++ codes " IN ")) (kind ++ tail)
    ∙ ap (λ (t : List ℕ). old ++ t) (append_assoc owner (32 ∷ (ttl ++ codes " IN ")) (kind ++ tail) ∙ ap (λ (t : List ℕ). owner ++ 32 ∷ t) (append_assoc ttl (codes " IN ") (kind ++ tail)))
