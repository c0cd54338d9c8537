-- Rows of records that go by their keys.
use Rattle.std.proofs.Common.{◌≡◌, ◌≢◌, ℕ, true, false, not, ◌||◌, List, [], ◌∷◌, ◌++◌, map, IsPermutation, refl, sym, ap, subst, ◌∙◌}
use Rattle.std.specs.Cmp.{both_ways}
use Rattle.std.specs.List.{AllByRecursion, list_any}
use Rattle.std.proofs.lemmas.Bool.{false_from_ne_true}
use Rattle.std.proofs.lemmas.List.{map-append}
use Rattle.std.proofs.lemmas.List.Sorted.{IsPermutation-map}
use Rattle.dns_names.specs.Labels.{IsName}
use Rattle.dns_data.specs.declared.record.Record.{Record}
use Rattle.dns_data.specs.Rdata.{type_of, IsRecord, SameRecord}
use Rattle.dns_data.specs.RecordOrder.{rank_of}
use Rattle.dns_data.specs.Text.{data_text}
use Rattle.dns_data.proofs.ApartLaws.{one_text}
use Rattle.dns_data.proofs.RecordOrderLemmas.{one_rank}
use Rattle.zone_core.specs.Sets.{Key, key_of, set_of, listing, InOrder, same_key as same_record_key}
use Rattle.zone_core.specs.Changes.{changed, FitsIn}
use Rattle.zone_core.proofs.SetLemmas.{key_is, key_self}
use Rattle.sqlite_trees.proofs.ListLemmas.{filter-map, filter_all, filter_same, all_weaker}
use Rattle.store_sql.specs.Rows.{RecordRowOf, same_key, without}
use Rattle.store_rows.specs.RecordRows.{record_row}
use Rattle.store_rows.proofs.RecordRowLaws.{keys_are_of_records}
use Rattle.store_rows.proofs.ListingLemmas.{named, left, listing_changed}

abbrev Labels : Type 0
Labels = List (List ℕ)

-- ---- keys

same_is : (r s : Record) → SameRecord r s → same_record_key (key_of r) (key_of s) ≡ true
same_is r s same =
    let e : key_of r ≡ key_of s = λ i. (same.0 i, rank_of (type_of (same.1 i)), data_text (same.1 i)) in
    ap (same_record_key (key_of r)) (sym e) ∙ key_self (key_of r)

is_same : (r s : Record) → IsRecord r → IsRecord s → same_record_key (key_of r) (key_of s) ≡ true → SameRecord r s
is_same r s rec other t =
    let e = key_is (key_of r) (key_of s) t in
    (ap (λ (k : Key). k.0) e, one_text r.rdata s.rdata rec.rdata other.rdata (one_rank (type_of r.rdata) (type_of s.rdata) (ap (λ (k : Key). k.1) e)) (ap (λ (k : Key). k.2) e))

-- rows of one zone have one key where their records have
one_key : (o : Labels) (r s : Record) → IsName o → IsRecord r → IsRecord s → same_key (record_row o r) (record_row o s) ≡ same_record_key (key_of r) (key_of s)
one_key o r s is rec other =
    let keys = keys_are_of_records o o r s is is rec other in
    both_ways (same_key (record_row o r) (record_row o s)) (same_record_key (key_of r) (key_of s))
    (λ t. same_is r s ((keys.0 t).1)) (λ t. keys.1 (refl, is_same r s rec other t))

one_of : (o : Labels) (s : Record) (gone : List Record) → IsName o → IsRecord s → AllByRecursion IsRecord gone
    → list_any (λ g. same_key g (record_row o s)) (map (record_row o) gone) ≡ named gone (key_of s)
one_of o s [] is rec all = refl
one_of o s (g ∷ gone) is rec all = λ i. one_key o g s is all.0 rec i || one_of o s gone is rec all.1 i

-- ---- the rows of a zone without some

pub without_own : (o : Labels) (gone rs : List Record) → IsName o → AllByRecursion IsRecord gone → AllByRecursion IsRecord rs
    → without (map (record_row o) gone) (map (record_row o) rs) ≡ map (record_row o) (left rs gone)
without_own o gone rs is went all =
    filter-map (λ r. not (list_any (λ g. same_key g r) (map (record_row o) gone))) (record_row o) rs
    ∙ ap (map (record_row o)) (filter_same (λ r. not (list_any (λ g. same_key g (record_row o r)) (map (record_row o) gone))) (λ r. not (named gone (key_of r))) rs
    (all_weaker IsRecord (λ r. not (list_any (λ g. same_key g (record_row o r)) (map (record_row o) gone)) ≡ not (named gone (key_of r))) (λ r rec. ap not (one_of o r gone is rec went)) rs all))

-- ---- the rows of other zones

none_of : (o p : Labels) (s : Record) (gone : List Record) → IsName o → IsName p → IsRecord s → AllByRecursion IsRecord gone → o ≢ p
    → list_any (λ g. same_key g (record_row p s)) (map (record_row o) gone) ≡ false
none_of o p s [] is also rec all differ = refl
none_of o p s (g ∷ gone) is also rec all differ =
    let first = false_from_ne_true (same_key (record_row o g) (record_row p s)) (λ t. differ ((keys_are_of_records o p g s is also all.0 rec).0 t).0) in
    λ i. first i || none_of o p s gone is also rec all.1 differ i

-- no row among those that go has the key of one of these
abbrev pub Stay : List RecordRowOf → List RecordRowOf → Type 0
Stay gone rows = AllByRecursion (λ r. list_any (λ g. same_key g r) gone ≡ false) rows

pub others_stay : (o p : Labels) (gone rs : List Record) → IsName o → IsName p → AllByRecursion IsRecord gone → AllByRecursion IsRecord rs → o ≢ p → Stay (map (record_row o) gone) (map (record_row p) rs)
others_stay o p gone [] is also went all differ = tt
others_stay o p gone (r ∷ rs) is also went all differ = (none_of o p r gone is also all.0 went differ, others_stay o p gone rs is also went all.1 differ)

pub without_others : (gone rows : List RecordRowOf) → Stay gone rows → without gone rows ≡ rows
without_others gone rows stay =
    filter_all (λ r. not (list_any (λ g. same_key g r) gone)) rows
    (all_weaker (λ r. list_any (λ g. same_key g r) gone ≡ false) (λ r. not (list_any (λ g. same_key g r) gone) ≡ true) (λ r e. ap not e) rows stay)

-- where nothing goes
pub without_none : (rows : List RecordRowOf) → without [] rows ≡ rows
without_none [] = refl
without_none (r ∷ rows) = ap (λ rs. r ∷ rs) (without_none rows)

-- ---- the rows of a zone after a change

pub rows_changed : (o : Labels) (rs removed added : List Record) → IsName o → InOrder rs → AllByRecursion IsRecord rs → AllByRecursion IsRecord removed → FitsIn (set_of rs) removed added
    → IsPermutation (map (record_row o) (listing (changed (set_of rs) removed added))) (without (map (record_row o) removed) (map (record_row o) rs) ++ map (record_row o) added)
rows_changed o rs removed added is order all went fits =
    subst (IsPermutation (map (record_row o) (listing (changed (set_of rs) removed added))))
    (map-append (record_row o) (left rs removed) added ∙ ap (λ rows. rows ++ map (record_row o) added) (sym (without_own o removed rs is went all)))
    (IsPermutation-map (record_row o) (listing (changed (set_of rs) removed added)) (left rs removed ++ added) (listing_changed rs removed added order fits))
