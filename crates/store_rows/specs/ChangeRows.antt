-- The rows of `changes`.
use Rattle.std.specs.Prelude.{◌≡◌, ◌<◌, ℕ, ℤ, pos, suc, List, [], ◌∷◌, ◌++◌, length, map, Bool, true, false, ◌&&◌, ◌||◌, ◌==◌, nat_lt, if◌then◌else◌}
use Rattle.std.specs.List.{AllByRecursion, fold, list_all}
use Rattle.std.specs.Ordering.{nat_cmp, on, then_cmp, is_lt}
use Rattle.std.specs.declared.cmp.Ordering.{Ordering}
use Rattle.std.specs.Cmp.{IsTotalOrder, on_total, then_total, nat_cmp_total}
use Rattle.dns_names.specs.Order.{canonical_cmp, canonical_total, same_name}
use Rattle.dns_data.specs.RecordOrder.{record_order, record_order_total}
use Rattle.dns_names.specs.Labels.{IsName}
use Rattle.dns_names.specs.Spelling.{name_text}
use Rattle.dns_data.specs.declared.record.Record.{Record}
use Rattle.dns_data.specs.Rdata.{type_of, IsRecord}
use Rattle.dns_data.specs.Types.{type_number}
use Rattle.dns_data.specs.Text.{data_text}
use Rattle.zone_core.specs.Sets.{InOrder}
use Rattle.zone_core.specs.Changes.{ChangeOf, is_empty}
use Rattle.store_sql.specs.Rows.{ChangeRowOf, RecordRowOf}
use Rattle.store_rows.specs.declared.changes.ChangedRecord.{ChangedRecord}
use Rattle.store_rows.specs.declared.side.Side.{Side}
use Rattle.store_rows.specs.declared.side.Side.TheVariants.{Removed, Added}

-- the place of a side among the two
abbrev pub side_rank : Side → ℕ
side_rank Removed = 0
side_rank Added = 1

abbrev pub side_cmp : Side → Side → Ordering
side_cmp = on side_rank nat_cmp

pub side_total : IsTotalOrder side_cmp
side_total = on_total side_rank nat_cmp_total

-- the number of a side
abbrev pub side_number : Side → ℤ
side_number side = pos (side_rank side)

-- a record on a side of the change of this number, of the zone of an origin
abbrev pub change_row : List (List ℕ) → ℕ → Side → Record → ChangeRowOf
change_row origin number side r = record {
  origin = name_text origin;
  number = pos number;
  side = side_number side;
  owner = name_text r.owner;
  record_type = pos (type_number (type_of r.rdata));
  rdata = data_text r.rdata;
  ttl = pos r.ttl;
}

-- the same by the row of the record among those of its zone
abbrev pub row_on_side : ℕ → Side → RecordRowOf → ChangeRowOf
row_on_side number side row = record {
  origin = row.origin;
  number = pos number;
  side = side_number side;
  owner = row.owner;
  record_type = row.record_type;
  rdata = row.rdata;
  ttl = row.ttl;
}

-- the row of such a record
abbrev pub row_of : ChangedRecord → ChangeRowOf
row_of c = change_row c.origin c.number c.side c.changed

-- what every such record is: of an origin, a number from 1 on and a record
pub record IsChanged (c : ChangedRecord) : Type 0 where
  pub origin : IsName c.origin
  pub number : 0 < c.number
  pub changed : IsRecord c.changed

-- a row of such a record
abbrev pub IsChangeRow : ChangeRowOf → Type 0
IsChangeRow row = (c : ChangedRecord) × IsChanged c × (row ≡ row_of c)

-- a change: the records that went, and then those that came
abbrev pub change_rows : List (List ℕ) → ℕ → ChangeOf → List ChangeRowOf
change_rows origin number c = map (change_row origin number Removed) c.removed ++ map (change_row origin number Added) c.added

-- changes, numbered from n on
abbrev pub changes_rows : List (List ℕ) → ℕ → List ChangeOf → List ChangeRowOf
changes_rows origin n [] = []
changes_rows origin n (c ∷ cs) = change_rows origin n c ++ changes_rows origin (suc n) cs

-- what every change is: it has some record, and each side is of records in record order
pub record IsChange (c : ChangeOf) : Type 0 where
  pub something : is_empty c ≡ false
  pub removed : AllByRecursion IsRecord c.removed
  pub removed_order : InOrder c.removed
  pub added : AllByRecursion IsRecord c.added
  pub added_order : InOrder c.added

-- a row is of one origin, one number, one side and one record
abbrev pub ChangeRowsAreApart : Type 0
ChangeRowsAreApart = (a b : ChangedRecord) → IsChanged a → IsChanged b → row_of a ≡ row_of b → a ≡ b

-- ---- changes gathered from what rows have

-- the order of sides of changes: by origin, then by the number of the change, and then by side
abbrev pub side_order : ChangedRecord → ChangedRecord → Ordering
side_order = then_cmp (then_cmp (on (λ c. c.origin) canonical_cmp) (on (λ c. c.number) nat_cmp)) (on (λ c. c.side) side_cmp)

-- the order of what rows have: that of sides, and on one side record order
abbrev pub changed_order : ChangedRecord → ChangedRecord → Ordering
changed_order = then_cmp side_order (on (λ c. c.changed) record_order)

pub changed_order_total : IsTotalOrder changed_order
changed_order_total =
    then_total (then_total (then_total (on_total (λ c. c.origin) canonical_total) (on_total (λ c. c.number) nat_cmp_total)) (on_total (λ c. c.side) side_total))
    (on_total (λ c. c.changed) record_order_total)

-- of the same change of a zone as another or of the next one, or of the first change of another zone
abbrev pub follows_in_number : ChangedRecord → ChangedRecord → Bool
follows_in_number a b = if same_name a.origin b.origin then (b.number == a.number) || (b.number == suc a.number) else b.number == 1

-- right after another: after it in that order, and so in its number
abbrev pub follows : ChangedRecord → ChangedRecord → Bool
follows a b = is_lt (changed_order a b) && follows_in_number a b

abbrev pub follow_in_turn : ChangedRecord → List ChangedRecord → Bool
follow_in_turn a [] = true
follow_in_turn a (b ∷ bs) = follows a b && follow_in_turn b bs

-- in order, each once, and numbered from 1 in each zone without a gap
abbrev pub are_numbered : List ChangedRecord → Bool
are_numbered [] = true
are_numbered (c ∷ cs) = (c.number == 1) && follow_in_turn c cs

-- all of one zone
abbrev pub are_of_one : List ChangedRecord → Bool
are_of_one [] = true
are_of_one (c ∷ cs) = list_all (λ d. same_name d.origin c.origin) cs

-- a change without a record
abbrev pub nothing : ChangeOf
nothing = record { removed = []; added = [] }

-- a change with one more record on a side
abbrev pub with_record : ChangeOf → Side → Record → ChangeOf
with_record c Removed r = record c { removed = c.removed ++ r ∷ [] }
with_record c Added r = record c { added = c.added ++ r ∷ [] }

-- the last of some changes with one more record
abbrev pub with_last : List ChangeOf → Side → Record → List ChangeOf
with_last [] side r = []
with_last (c ∷ []) side r = with_record c side r ∷ []
with_last (c ∷ d ∷ cs) side r = c ∷ with_last (d ∷ cs) side r

-- changes among which there is one of this number, where the one before it is the last
abbrev pub opened : List ChangeOf → ℕ → List ChangeOf
opened cs number = if nat_lt (length cs) number then cs ++ nothing ∷ [] else cs

-- changes with what one more row has
abbrev pub placed : List ChangeOf → ChangedRecord → List ChangeOf
placed cs c = with_last (opened cs c.number) c.side c.changed

-- the changes of what rows of one zone have, in order
abbrev pub gathered : List ChangedRecord → List ChangeOf
gathered cs = fold placed [] cs
