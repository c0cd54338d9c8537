-- Rows of records at names, gathered name by name.
use Rattle.std.proofs.Common.{◌≡◌, ℕ, ◌+◌, ◌<◌, List, [], ◌++◌, length, take, get_or, Bool, true, false, cond, ◌||◌, Option, Some, None, refl, sym, ap, subst, ◌∙◌}
use Rattle.std.specs.List.{list_any}
use Rattle.std.specs.FinMap.{get, find}
use Rattle.std.proofs.lemmas.List.Folds.{list_any_more}
use Rattle.dns_data.specs.declared.record.Record.{Record}
use Rattle.zone_core.specs.Sets.{Records, Key, key_cmp, keyed, set_of, listing, part, at_name, InOrder}
use Rattle.zone_core.specs.Zones.{ZoneOf, IsZone}
use Rattle.zone_core.specs.Views.{zone_in, AreOfZone}
use Rattle.zone_core.specs.Parts.{part_of, at_names}
use Rattle.zone_core.proofs.SetLemmas.{name_self, get-part, same_sets}
use Rattle.std.specs.Option.{option_or}
use Rattle.zone_core.proofs.RowLemmas.{get-set_of, listing-part, set_of-filter}
use Rattle.zone_core.proofs.MergeLemmas.{found_append}
use Rattle.zone_core.proofs.NeedLemmas.{part_is_zone}

-- the records of a row are those of a part
abbrev pub ArePart : List Record → Records → (Key → Bool) → Type 0
ArePart rows set test = set_of rows ≡ part set test

-- what a test leaves of a set whose row is known, listed
pub listed_set : (rs : List Record) (set : Records) → InOrder rs → set_of rs ≡ set → (p : Key → Bool) (xs : List Record) → xs ≡ listing (part set p) → ArePart xs set p
listed_set rs set order is p xs e =
    ap set_of (e ∙ ap (λ (s : Records). listing (part s p)) (sym is) ∙ listing-part p rs order) ∙ set_of-filter p rs ∙ ap (λ (s : Records). part s p) is

either : (a b : Bool) (m : Option Record) → option_or (cond a m None) (cond b m None) ≡ cond (a || b) m None
either true b None = nothing b
  where
    nothing : (c : Bool) → ◌≡◌ {A = Option Record} (cond c None None) None
    nothing true = refl
    nothing false = refl
either true b (Some r) = refl
either false b m = refl

-- one part more
more : (set : Records) (p q r : Key → Bool) → ((k : Key) → r k ≡ (p k || q k)) → (xs ys : List Record) → ArePart xs set p → ArePart ys set q → ArePart (xs ++ ys) set r
more set p q r both xs ys front back =
    same_sets (set_of (xs ++ ys)) (part set r) (λ k.
    get-set_of (xs ++ ys) k ∙ found_append k xs ys
    ∙ (λ i. option_or (found xs p front k i) (found ys q back k i))
    ∙ either (p k) (q k) (get set k) ∙ ap (λ b. cond b (get set k) None) (sym (both k)) ∙ sym (get-part set r k))
  where
    found : (zs : List Record) (t : Key → Bool) → set_of zs ≡ part set t → (k : Key) → find key_cmp k (keyed zs) ≡ cond (t k) (get set k) None
    found zs t e k = sym (get-set_of zs k) ∙ ap (λ (s : Records). get s k) e ∙ get-part set t k

or_nothing : (b : Bool) → (b || false) ≡ b
or_nothing true = refl
or_nothing false = refl

or_assoc : (a b c : Bool) → (a || (b || c)) ≡ ((a || b) || c)
or_assoc true b c = refl
or_assoc false b c = refl

-- at first the records at the origin
pub gather_none : (set : Records) (origin : List (List ℕ)) (xs : List Record) → ArePart xs set (at_name origin) → ArePart xs set (at_names origin [])
gather_none set origin xs are = are ∙ ap (part set) (λ i k. sym (or_nothing (at_name origin k)) i)

-- and then those at one name more
pub gather_more : (set : Records) (origin : List (List ℕ)) (names : List (List (List ℕ))) (i : ℕ) (name : List (List ℕ)) → i < length names → name ≡ get_or names i name
    → (xs ys : List Record) → ArePart xs set (at_names origin (take i names)) → ArePart ys set (at_name name) → ArePart (xs ++ ys) set (at_names origin (take (i + 1) names))
gather_more set origin names i name below is xs ys front back =
    more set (at_names origin (take i names)) (at_name name) (at_names origin (take (i + 1) names)) (λ k.
    ap (λ b. at_name origin k || b) (list_any_more (λ n. at_name n k) names i name below ∙ ap (λ n. list_any (λ m. at_name m k) (take i names) || at_name n k) (sym is))
    ∙ or_assoc (at_name origin k) (list_any (λ n. at_name n k) (take i names)) (at_name name k)) xs ys front back

-- the zone of such rows
pub gathered : (zone : ZoneOf) → IsZone zone → (names : List (List (List ℕ))) (origin : List (List ℕ)) (rows : List Record) → origin ≡ zone.origin → InOrder rows → ArePart rows zone.records (at_names zone.origin names)
    → AreOfZone origin rows × (zone_in origin rows ≡ part_of zone (at_names zone.origin names))
gathered zone z names origin rows own order are =
    let same : zone_in origin rows ≡ part_of zone (at_names zone.origin names) = λ i. record { origin = own i; records = are i } in
    let whole = part_is_zone zone (at_names zone.origin names) z (λ k name. ap (λ b. b || list_any (λ n. at_name n k) names) (here k name)) in
    (record { order = order; zone = subst IsZone (sym same) whole }, same)
  where
    here : (k : Key) → k.0 ≡ zone.origin → at_name zone.origin k ≡ true
    here k name = rw name (name_self zone.origin)
