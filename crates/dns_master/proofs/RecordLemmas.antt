-- A record, from its owner and what stands after it.
use Rattle.std.proofs.Common.{◌≡◌, ℕ, ◌-◌, ◌≤◌, Bool, false, List, [], ◌∷◌, length, map, take, drop, get_or, Option, Some, None, Result, Ok, Err, refl, sym, ap, ◌∙◌, arith}
use Rattle.std.proofs.lemmas.List.{drop-map, take_all}
use Rattle.dns_data.specs.declared.rdata.Data.{Data}
use Rattle.dns_data.specs.declared.data_fault.DataFault.{DataFault}
use Rattle.dns_data.specs.declared.data_fault.DataFault.TheVariants as data_faults
use Rattle.dns_data.specs.declared.item.Item.{Item}
use Rattle.dns_data.specs.Faults.{Refuses}
use Rattle.dns_data.specs.Items.{ItemText, item_of}
use Rattle.dns_data.specs.Reading.{data_of}
use Rattle.dns_master.specs.declared.entry_fault.EntryFault.{EntryFault}
use Rattle.dns_master.specs.declared.entry_fault.EntryFault.TheVariants as faults
use Rattle.dns_master.specs.declared.field.Lead.{Lead}
use Rattle.dns_master.specs.declared.statement.Statement.{Statement}
use Rattle.dns_master.specs.declared.statement.Statement.TheVariants as statements
use Rattle.dns_master.specs.EntryFaults.{◌>>=◌, of_data, of_datas, RefusesEntry}
use Rattle.dns_master.specs.Fields.{LeadText, unquoted, name_at, ttl_of, lead_of, lead_before}
use Rattle.dns_master.specs.Statements.{no_more, origin_of, ttl_at, default_ttl_of, behind_of, owner_of, behind_owner, record_of}

-- what refuses a step refuses what goes on with it
pub refused_on : {A B : Type 0} (e : EntryFault) (r : Result A EntryFault) (f : A → Result B EntryFault) → RefusesEntry e r → RefusesEntry e (r >>= f)
refused_on faults.NoMemory r f h = tt
refused_on e r f h = ap (λ x. x >>= f) h

abbrev pub Behind : Type 0
Behind = Option ℕ × Data

-- the record with this owner
abbrev pub with_owner : Option (List (List ℕ)) → Behind → Result Statement EntryFault
with_owner own x = Ok (statements.Record (record { owner = own; ttl = x.0; rdata = x.1 }))

data_read : (own : Option (List (List ℕ))) (ttl : Option ℕ) (rdata : Result Data EntryFault) → (rdata >>= λ d. with_owner own (ttl, d)) ≡ ((rdata >>= λ d. let x : Result Behind EntryFault = Ok (ttl, d) in x) >>= with_owner own)
data_read own ttl (Ok d) = refl
data_read own ttl (Err e) = refl

lead_read : (origin : List (List ℕ)) (own : Option (List (List ℕ))) (lead : Result LeadText EntryFault)
    → (lead >>= λ l. of_datas (data_of l.1 (Some origin) l.2) >>= λ d. with_owner own (l.0, d)) ≡ ((lead >>= λ l. of_datas (data_of l.1 (Some origin) l.2) >>= λ d. let x : Result Behind EntryFault = Ok (l.0, d) in x) >>= with_owner own)
lead_read origin own (Ok l) = data_read own l.0 (of_datas (data_of l.1 (Some origin) l.2))
lead_read origin own (Err e) = refl

module _ (origin : List (List ℕ)) (owner : Option (List (List ℕ))) (white : Bool) (items : List ItemText) (own : Option (List (List ℕ))) (h : owner_of origin owner white items ≡ Ok own) where
  record_is : record_of origin owner white items ≡ (behind_of origin (behind_owner white items) >>= with_owner own)
  record_is = rw h (lead_read origin own (lead_of (record { ttl = None; has_class = false }) (behind_owner white items)))

  pub record_read : (x : Behind) → behind_of origin (behind_owner white items) ≡ Ok x → record_of origin owner white items ≡ with_owner own x
  record_read x e = record_is ∙ ap (λ r. r >>= with_owner own) e

  pub record_refused : (e : EntryFault) → RefusesEntry e (behind_of origin (behind_owner white items)) → RefusesEntry e (record_of origin owner white items)
  record_refused e r = rw record_is (refused_on e (behind_of origin (behind_owner white items)) (with_owner own) r)

-- ---- what stands after the owner

-- what refuses data refuses the entry
data_refused : (e : DataFault) (r : Result Data DataFault) → Refuses e r → RefusesEntry (of_data e) (of_datas r)
data_refused data_faults.NoMemory r h = tt
data_refused e r h = ap of_datas h

-- the data of items after these
abbrev data_at : List (List ℕ) → Lead → List Item → Result Data DataFault
data_at origin lead items = data_of lead.record_type (Some origin) (map item_of items)

module _ (origin : List (List ℕ)) (items rest : List Item) (lead : Lead) (h : lead_of (record { ttl = None; has_class = false }) (map item_of items) ≡ Ok (lead_before (map item_of items) lead)) (back : rest ≡ drop lead.len items) where
  behind_is : behind_of origin (map item_of items) ≡ (of_datas (data_at origin lead rest) >>= λ d. let x : Result Behind EntryFault = Ok (lead.ttl, d) in x)
  behind_is =
      ap (λ (l : Result LeadText EntryFault). l >>= λ x. of_datas (data_of x.1 (Some origin) x.2) >>= λ d. let y : Result Behind EntryFault = Ok (x.0, d) in y) h
      ∙ ap (λ (is : List ItemText). of_datas (data_of lead.record_type (Some origin) is) >>= λ d. let y : Result Behind EntryFault = Ok (lead.ttl, d) in y) (drop-map item_of lead.len items ∙ ap (map item_of) (sym back))

  pub behind_read : (d : Data) → data_at origin lead rest ≡ Ok d → behind_of origin (map item_of items) ≡ Ok (lead.ttl, d)
  behind_read d e = behind_is ∙ ap (λ (r : Result Data DataFault). of_datas r >>= λ x. let y : Result Behind EntryFault = Ok (lead.ttl, x) in y) e

  pub behind_refused : (e : DataFault) → Refuses e (data_at origin lead rest) → RefusesEntry (of_data e) (behind_of origin (map item_of items))
  behind_refused e r = rw behind_is (refused_on (of_data e) (of_datas (data_at origin lead rest)) _ (data_refused e (data_at origin lead rest) r))

-- ---- the first item

-- the items of a list that is not empty, as a pattern cuts them
rest_is : (x : Item) (items : List Item) → take (length (x ∷ items) - 1) (drop 1 (x ∷ items)) ≡ items
rest_is x items = take_all (length (x ∷ items) - 1) items (omega arith)

module _ (origin : List (List ℕ)) (owner : Option (List (List ℕ))) where
  pub owner_read : (white : Bool) (items : List Item) (d : Item) (name : List (List ℕ)) → white ≡ false → 1 ≤ length items → name_at origin (item_of (get_or items 0 d)) ≡ Ok name → owner_of origin owner white (map item_of items) ≡ Ok (Some name)
  owner_read white [] d name w h e = absurd (omega arith)
  owner_read white (x ∷ items) d name w h e = rw w (ap (λ (r : Result (List (List ℕ)) EntryFault). r >>= λ n. let own : Result (Option (List (List ℕ))) EntryFault = Ok (Some n) in own) e)

  pub owner_refused : (white : Bool) (items : List Item) (d : Item) (e : EntryFault) → white ≡ false → 1 ≤ length items → RefusesEntry e (name_at origin (item_of (get_or items 0 d))) → RefusesEntry e (owner_of origin owner white (map item_of items))
  owner_refused white [] d e w h r = absurd (omega arith)
  owner_refused white (x ∷ items) d e w h r = rw w (refused_on e (name_at origin (item_of x)) _ r)

-- a directive whose item is read so, and that states this
module _ {A : Type 0} (at : ItemText → Result A EntryFault) (say : A → Statement) where
  abbrev pub directive : List ItemText → Result Statement EntryFault
  directive [] = Err faults.EntryShort
  directive (item ∷ items) = at item >>= λ x. no_more items >>= λ done. Ok (say x)

  pub item_refused : (items : List Item) (d : Item) (e : EntryFault) → 1 ≤ length items → RefusesEntry e (at (item_of (get_or items 0 d))) → RefusesEntry e (directive (map item_of items))
  item_refused [] d e h r = absurd (omega arith)
  item_refused (x ∷ items) d e h r = refused_on e (at (item_of x)) _ r

  pub more_refused : (items : List Item) (d : Item) (x : A) (e : EntryFault) → 1 ≤ length items → at (item_of (get_or items 0 d)) ≡ Ok x → RefusesEntry e (no_more (map item_of (take (length items - 1) (drop 1 items)))) → RefusesEntry e (directive (map item_of items))
  more_refused [] d x e h is r = absurd (omega arith)
  more_refused (i ∷ items) d x e h is r =
      let more : RefusesEntry e (no_more (map item_of items)) = rw rest_is at r in
      rw is (refused_on e (no_more (map item_of items)) (λ done. let s : Result Statement EntryFault = Ok (say x) in s) more)

  pub directive_read : (items : List Item) (d : Item) (x : A) → 1 ≤ length items → at (item_of (get_or items 0 d)) ≡ Ok x → no_more (map item_of (take (length items - 1) (drop 1 items))) ≡ Ok tt → directive (map item_of items) ≡ Ok (say x)
  directive_read [] d x h is none = absurd (omega arith)
  directive_read (i ∷ items) d x h is none =
      let more : no_more (map item_of items) ≡ Ok tt = rw rest_is at none in
      rw is (ap (λ (r : Result (Unit {0}) EntryFault). r >>= λ done. let s : Result Statement EntryFault = Ok (say x) in s) more)

pub origin_is : (origin : List (List ℕ)) (items : List ItemText) → directive (name_at origin) statements.Origin items ≡ origin_of origin items
origin_is origin [] = refl
origin_is origin (item ∷ items) = refl

default_then : (raw : Result (List ℕ) EntryFault) (items : List ItemText)
    → ((raw >>= ttl_of) >>= λ x. no_more items >>= λ done. let s : Result Statement EntryFault = Ok (statements.DefaultTtl x) in s) ≡ (raw >>= λ octets. ttl_of octets >>= λ ttl. no_more items >>= λ done. let s : Result Statement EntryFault = Ok (statements.DefaultTtl ttl) in s)
default_then (Ok octets) items = refl
default_then (Err e) items = refl

pub default_is : (items : List ItemText) → directive ttl_at statements.DefaultTtl items ≡ default_ttl_of items
default_is [] = refl
default_is (item ∷ items) = default_then (unquoted item) items
