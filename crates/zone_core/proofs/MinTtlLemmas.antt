-- The least TTLs of the sets of a row.
use Rattle.std.proofs.Common.{◌≡◌, ℕ, zero, suc, ◌+◌, ◌-◌, ◌<◌, List, [], ◌∷◌, ◌++◌, length, take, map, get_or, set, true, ◌==◌, refl, sym, ap, ◌∙◌, arith}
use Rattle.std.specs.List.{AllByRecursion, filter}
use Rattle.std.specs.List.Sorted.{IsStrictlySortedBy}
use Rattle.std.specs.FinMap.{entries, from_entries}
use Rattle.std.specs.declared.cmp.Ordering.TheVariants.{Less}
use Rattle.std.proofs.lemmas.Bool.{and_parts, eqb-true}
use Rattle.std.proofs.lemmas.Bool.Decides.{nat_tests}
use Rattle.std.proofs.lemmas.List.{get_or-map, get_or-take, length-take, take_more, map-append}
use Rattle.std.proofs.lemmas.List.Elements.{filter_agree}
use Rattle.dns_names.specs.Order.{same_name}
use Rattle.dns_data.specs.declared.record.Record.{Record}
use Rattle.zone_core.specs.Sets.{Records, Key, key_of, key_cmp, record_order, keyed, set_of, listing, part, InOrder}
use Rattle.zone_core.specs.Zones.{beside, least_ttl, min_rrset_ttl, min_rrset_ttls}
use Rattle.zone_core.specs.Views.{set_ttl, given_ttls, min_ttl_rows}
use Rattle.zone_core.proofs.SetLemmas.{name_is, name_self}
use Rattle.zone_core.proofs.RowLemmas.{entries_of, listing-part}

-- ---- TTLs in their places

pub given_none : (rs : List Record) → rs ≡ given_ttls rs []
given_none [] = refl
given_none (r ∷ rs) = refl

given_step : (rs : List Record) (ttls : List ℕ) (i : ℕ) (d : Record) (ttl : ℕ) → i < length rs → i < length ttls → ttl ≡ get_or ttls i ttl
    → set (given_ttls rs (take i ttls)) i (record (get_or (given_ttls rs (take i ttls)) i d) { ttl = ttl }) ≡ given_ttls rs (take (suc i) ttls)
given_step [] ttls i d ttl below also e = absurd (omega arith)
given_step (r ∷ rs) [] i d ttl below also e = absurd (omega arith)
given_step (r ∷ []) (t ∷ ttls) zero d ttl below also e = ap (λ (n : ℕ). record r { ttl = n } ∷ []) e
given_step (r ∷ s ∷ rs) (t ∷ ttls) zero d ttl below also e = ap (λ (n : ℕ). record r { ttl = n } ∷ s ∷ rs) e
given_step (r ∷ rs) (t ∷ ttls) (suc i) d ttl below also e = ap (λ xs. record r { ttl = t } ∷ xs) (given_step rs ttls i d ttl (omega arith) (omega arith) e)

pub given_more : (rs : List Record) (ttls : List ℕ) (i : ℕ) (now : List Record) (r : Record) (ttl : ℕ) → now ≡ given_ttls rs (take i ttls) → i < length rs → length ttls ≡ length rs
    → r ≡ get_or now i r → ttl ≡ get_or ttls i ttl → set now i (record r { ttl = ttl }) ≡ given_ttls rs (take (i + 1) ttls)
given_more rs ttls i now r ttl is below same read e =
    ap (λ (x : Record). set now i (record x { ttl = ttl })) read
    ∙ ap (λ (xs : List Record). set xs i (record (get_or xs i r) { ttl = ttl })) is
    ∙ given_step rs ttls i r ttl below (omega arith) e ∙ ap (λ (n : ℕ). given_ttls rs (take n ttls)) (one_more i)
  where
    one_more : (n : ℕ) → suc n ≡ n + 1
    one_more n = omega arith

-- ---- TTLs that are known

pub known_before : (f : Record → ℕ) (rs : List Record) (known : List ℕ) (i : ℕ) (ttl : ℕ) (r : Record) → known ≡ map f (take i rs) → 0 < i → i < length rs → ttl ≡ get_or known (i - 1) ttl → r ≡ get_or rs (i - 1) r
    → ttl ≡ f r
known_before f rs known i ttl r is some below e read =
    e ∙ ap (λ (xs : List ℕ). get_or xs (i - 1) ttl) is ∙ get_or-map f (take i rs) (i - 1) r ttl (omega (arith, length-take i rs)) ∙ ap f (get_or-take i rs (i - 1) r (omega arith) ∙ sym read)

pub known_more : (f : Record → ℕ) (rs : List Record) (i : ℕ) (known : List ℕ) (ttl : ℕ) (d : Record) → known ≡ map f (take i rs) → i < length rs → ttl ≡ f (get_or rs i d) → known ++ ttl ∷ [] ≡ map f (take (i + 1) rs)
known_more f rs i known ttl d is below e =
    (λ j. is j ++ e j ∷ []) ∙ sym (ap (map f) (take_more rs i d below) ∙ map-append f (take i rs) (get_or rs i d ∷ []))

-- ---- records of one set

pub beside_self : (k : Key) → beside k k ≡ true
beside_self k = rw (name_self k.0) (self k.1)
  where
    self : (n : ℕ) → (n == n) ≡ true
    self n = grind (arith, nat_tests)

beside_same : (j k : Key) → beside j k ≡ true → (x : Key) → beside j x ≡ beside k x
beside_same j k e x =
    let both = and_parts (same_name k.0 j.0) (k.1 == j.1) e in
    rw (name_is k.0 j.0 both.0, eqb-true k.1 j.1 both.1) refl

pub ttl_beside : (rs : List Record) (r s : Record) → beside (key_of r) (key_of s) ≡ true → set_ttl rs r ≡ set_ttl rs s
ttl_beside rs r s e = ap least_ttl (filter_agree (λ x. beside (key_of r) (key_of x)) (λ x. beside (key_of s) (key_of x)) (λ x. beside_same (key_of r) (key_of s) e (key_of x)) rs)

-- some record of a row that has one
pub one_of : (rs : List Record) (i : ℕ) → i < length rs → Record
one_of [] i below = absurd (omega arith)
one_of (r ∷ rs) i below = r

-- ---- rows that are evened

module _ (f : Record → ℕ) where
  given_keys : (xs : List Record) → keyed (given_ttls xs (map f xs)) ≡ map (λ r. (key_of r, record r { ttl = f r })) xs
  given_keys [] = refl
  given_keys (r ∷ xs) = ap (λ es. (key_of r, record r { ttl = f r }) ∷ es) (given_keys xs)

  -- where a TTL depends on the key only, each record has the TTL of its key
  pub given_all : ((r : Record) (ttl : ℕ) → f (record r { ttl = ttl }) ≡ f r) → (xs : List Record) → AllByRecursion (λ r. r.ttl ≡ f r) (given_ttls xs (map f xs))
  given_all same [] = tt
  given_all same (r ∷ xs) = (sym (same r (f r)), given_all same xs)

pub min_ttl_all : (rs : List Record) → AllByRecursion (λ r. r.ttl ≡ set_ttl rs r) (min_ttl_rows rs)
min_ttl_all rs = given_all (set_ttl rs) (λ r ttl. refl) rs

mapped : (set : Records) (rs : List Record) → ((r : Record) → listing (part set (beside (key_of r))) ≡ filter (λ s. beside (key_of r) (key_of s)) rs) → (xs : List Record)
    → map (min_rrset_ttl set) (keyed xs) ≡ map (λ r. (key_of r, record r { ttl = set_ttl rs r })) xs
mapped set rs same [] = refl
mapped set rs same (r ∷ xs) = λ i. (key_of r, record r { ttl = least_ttl (same r i) }) ∷ mapped set rs same xs i

module _ (rs : List Record) (order : InOrder rs) where
  min_ttl_entries : map (min_rrset_ttl (set_of rs)) (entries (set_of rs)) ≡ keyed (min_ttl_rows rs)
  min_ttl_entries =
      ap (map (min_rrset_ttl (set_of rs))) (entries_of rs order)
      ∙ mapped (set_of rs) rs (λ r. listing-part (beside (key_of r)) rs order) rs ∙ sym (given_keys (set_ttl rs) rs)

  pub min_ttl_set : set_of (min_ttl_rows rs) ≡ min_rrset_ttls (set_of rs)
  min_ttl_set = ap (from_entries {R = key_cmp}) (sym min_ttl_entries)

-- ---- keys in order

keys_order : (r : Record) (xs : List Record) (f : Record → ℕ) → AllByRecursion (λ s. record_order r s ≡ Less) xs → AllByRecursion (λ s. record_order r s ≡ Less) (given_ttls xs (map f xs))
keys_order r [] f all = tt
keys_order r (x ∷ xs) f all = (all.0, keys_order r xs f all.1)

given_order : (xs : List Record) (f : Record → ℕ) → InOrder xs → InOrder (given_ttls xs (map f xs))
unfolding IsStrictlySortedBy
given_order [] f order = tt
given_order (x ∷ xs) f order = (keys_order x xs f order.0, given_order xs f order.1)

pub min_ttl_order : (rs : List Record) → InOrder rs → InOrder (min_ttl_rows rs)
min_ttl_order rs order = given_order rs (set_ttl rs) order
