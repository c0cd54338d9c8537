-- What stands between the owner and the data, item by item.
use Rattle.std.proofs.Common.{◌≡◌, ℕ, suc, ◌+◌, ◌<◌, List, ◌∷◌, length, map, drop, get_or, Option, Result, Ok, sym, ap, ◌∙◌, arith}
use Rattle.std.proofs.lemmas.List.{drop-map}
use Rattle.std.proofs.Math.Seq.{drop-cons}
use Rattle.dns_data.specs.declared.item.Item.{Item}
use Rattle.dns_data.specs.declared.record_type.RecordType.{RecordType}
use Rattle.dns_data.specs.Items.{ItemText, item_of}
use Rattle.dns_master.specs.declared.entry_fault.EntryFault.{EntryFault}
use Rattle.dns_master.specs.declared.entry_fault.EntryFault.TheVariants as faults
use Rattle.dns_master.specs.declared.field.Part.{Part}
use Rattle.dns_master.specs.declared.field.Part.TheVariants as parts
use Rattle.dns_master.specs.declared.field.TtlAndClass.{TtlAndClass}
use Rattle.dns_master.specs.EntryFaults.{◌>>=◌, RefusesEntry}
use Rattle.dns_master.specs.Fields.{LeadText, part_of, with_part, lead_of}

-- the items from one on
pub items_from : (items : List Item) (i : ℕ) (d : Item) → i < length items → drop i (map item_of items) ≡ item_of (get_or items i d) ∷ drop (i + 1) (map item_of items)
items_from items i d h =
    let next : suc i ≡ i + 1 = omega arith in
    drop-map item_of i items ∙ ap (map item_of) (drop-cons items i d h) ∙ ap (λ (xs : List ItemText). item_of (get_or items i d) ∷ xs) (sym (drop-map item_of (suc i) items) ∙ ap (λ (n : ℕ). drop n (map item_of items)) next)

module _ (items : List Item) (i : ℕ) (d : Item) (read first : TtlAndClass) (h : i < length items) (so_far : lead_of first (map item_of items) ≡ lead_of read (drop i (map item_of items))) where
  behind : List ItemText
  behind = drop (i + 1) (map item_of items)

  step : lead_of first (map item_of items) ≡ (part_of read (item_of (get_or items i d)) >>= λ part. with_part part (drop (i + 1) (map item_of items)) (λ next. lead_of next (drop (i + 1) (map item_of items))))
  step = so_far ∙ ap (lead_of read) (items_from items i d h)

  abbrev after : Result Part EntryFault → Result LeadText EntryFault
  after r = r >>= λ part. with_part part (drop (i + 1) (map item_of items)) (λ next. lead_of next (drop (i + 1) (map item_of items)))

  pub lead_more : (part : Part) (next : TtlAndClass) → part_of read (item_of (get_or items i d)) ≡ Ok part → part ≡ parts.More next → lead_of first (map item_of items) ≡ lead_of next (drop (i + 1) (map item_of items))
  lead_more part next e m = step ∙ ap after (e ∙ ap (λ (p : Part). Ok p) m)

  pub lead_ends : (part : Part) (ttl : Option ℕ) (t : RecordType) → part_of read (item_of (get_or items i d)) ≡ Ok part → part ≡ parts.«Type» ttl t → lead_of first (map item_of items) ≡ Ok (ttl, t, drop (i + 1) (map item_of items))
  lead_ends part ttl t e m = step ∙ ap after (e ∙ ap (λ (p : Part). Ok p) m)

  pub lead_refused : (fault : EntryFault) → RefusesEntry fault (part_of read (item_of (get_or items i d))) → RefusesEntry fault (lead_of first (map item_of items))
  lead_refused faults.NoMemory r = tt
  lead_refused fault r = step ∙ ap after r
