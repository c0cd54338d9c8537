-- Operations whose SOA has a serial further on: they act at the same names, and those that add no SOA are the same.
use Rattle.std.proofs.Common.{◌≡◌, ◌∙◌, ℕ, ◌+◌, ◌*◌, ◌/◌, ◌<◌, ◌^◌, List, [], ◌∷◌, ◌++◌, map, Bool, true, false, cond, not, ◌||◌, ◌==◌, nat_lt, ltb-true, ltb-false, inl, inr, arith, refl, sym, ap, ap₂, subst}
use Rattle.std.specs.List.{AllByRecursion, filter, list_any}
use Rattle.dns_names.specs.Labels.{IsWithin}
use Rattle.dns_data.specs.declared.record_type.RecordType.TheVariants as types
use Rattle.dns_data.specs.declared.rdata.Data.{Data}
use Rattle.dns_data.specs.declared.rdata.Data.TheVariants as variants
use Rattle.dns_data.specs.Rdata.{type_of}
use Rattle.zone_core.specs.declared.update.Operation.{Operation}
use Rattle.zone_core.specs.declared.update.Operation.TheVariants.{Add, DeleteRrset, DeleteName, DeleteRecord}
use Rattle.zone_core.specs.Serials.{IsLess, is_less, serial_sum}
use Rattle.zone_core.specs.Sets.{rank_of}
use Rattle.zone_core.specs.Zones.{serial_in}
use Rattle.zone_core.specs.Updates.{UpdateOf, IsOperation, acted_name, adds_soa}
use Rattle.zone_core.proofs.SetLemmas.{by_cases}
use Rattle.zone_core.proofs.ZoneLemmas.{kind, no}
use Rattle.zone_core.proofs.VersionLemmas.{is_less-Decides}
use Rattle.zone_tools.specs.Differences.{data_at}
use Rattle.zone_tools.specs.DifferencePromises.{AreWithin}
use Rattle.zone_tools.specs.UpdatesInTurn.{operations_of, adds_no_soa, further, further_in_turn}
use Rattle.zone_tools.proofs.DiffSoaLemmas.{at_fits, data_type}
use Rattle.zone_tools.proofs.InTurnLemmas.{all_front, all_back, all_join}

-- ---- serials that go further (RFC 1982 section 3.1)

-- two numbers that wrap, by how often each does
pub wrapped : (s t n q r a b : ℕ) → s + n ≡ q * 4294967296 + a → t + n ≡ r * 4294967296 + b → a < 4294967296 → b < 4294967296 → s < 4294967296 → t < 4294967296
    → IsLess s t → IsLess a b
wrapped s t n q r a b at bt la lb ls lt (inl less) =
    by_cases (nat_lt a b) (IsLess a b) (λ y. let under = ltb-true a b y in inl (under, omega (arith, at, bt, la, lb, less.0, less.1, under)))
    (λ f. let over = ltb-false a b f in inr (omega (arith, at, bt, la, lb, less.0, less.1, over), omega (arith, at, bt, la, lb, less.0, less.1, over)))
wrapped s t n q r a b at bt la lb ls lt (inr less) =
    by_cases (nat_lt b a) (IsLess a b) (λ y. let under = ltb-true b a y in inr (under, omega (arith, at, bt, la, lb, ls, lt, less.0, less.1, under)))
    (λ f. let over = ltb-false b a f in inl (omega (arith, at, bt, la, lb, ls, lt, less.0, less.1, over), omega (arith, at, bt, la, lb, ls, lt, less.0, less.1, over)))

unwrapped : (s t n q r a b : ℕ) → s + n ≡ q * 4294967296 + a → t + n ≡ r * 4294967296 + b → a < 4294967296 → b < 4294967296 → s < 4294967296 → t < 4294967296
    → IsLess a b → IsLess s t
unwrapped s t n q r a b at bt la lb ls lt (inl less) =
    by_cases (nat_lt s t) (IsLess s t) (λ y. let under = ltb-true s t y in inl (under, omega (arith, at, bt, la, lb, ls, lt, less.0, less.1, under)))
    (λ f. let over = ltb-false s t f in inr (omega (arith, at, bt, la, lb, ls, lt, less.0, less.1, over), omega (arith, at, bt, la, lb, ls, lt, less.0, less.1, over)))
unwrapped s t n q r a b at bt la lb ls lt (inr less) =
    by_cases (nat_lt t s) (IsLess s t) (λ y. let under = ltb-true t s y in inr (under, omega (arith, at, bt, la, lb, ls, lt, less.0, less.1, under)))
    (λ f. let over = ltb-false t s f in inl (omega (arith, at, bt, la, lb, ls, lt, less.0, less.1, over), omega (arith, at, bt, la, lb, ls, lt, less.0, less.1, over)))

module _ (s t n : ℕ) (ls : s < 2 ^ 32) (lt : t < 2 ^ 32) where
  pub less_further : IsLess s t → IsLess (serial_sum s n) (serial_sum t n)
  less_further less =
      wrapped s t n ((s + n) / 4294967296) ((t + n) / 4294967296) (serial_sum s n) (serial_sum t n) (grind arith) (grind arith) (grind arith) (grind arith) ls lt less

  less_before : IsLess (serial_sum s n) (serial_sum t n) → IsLess s t
  less_before less =
      unwrapped s t n ((s + n) / 4294967296) ((t + n) / 4294967296) (serial_sum s n) (serial_sum t n) (grind arith) (grind arith) (grind arith) (grind arith) ls lt less

  pub same_less : is_less (serial_sum s n) (serial_sum t n) ≡ is_less s t
  same_less =
      by_cases (is_less s t) (is_less (serial_sum s n) (serial_sum t n) ≡ is_less s t)
      (λ e. (is_less-Decides (serial_sum s n) (serial_sum t n)).1 (less_further ((is_less-Decides s t).0 e)) ∙ sym e)
      (λ e. by_cases (is_less (serial_sum s n) (serial_sum t n)) (is_less (serial_sum s n) (serial_sum t n) ≡ is_less s t)
      (λ f. absurd (no (is_less s t) ((is_less-Decides s t).1 (less_before ((is_less-Decides (serial_sum s n) (serial_sum t n)).0 f))) e)) (λ f. f ∙ sym e))

pub sum_fits : (s n : ℕ) → serial_sum s n < 2 ^ 32
sum_fits s n = grind arith

pub sum_none : (s : ℕ) → s < 2 ^ 32 → serial_sum s 0 ≡ s
sum_none s fits = grind arith

-- a number that wraps, and then goes further
one_on : (m k q a p b : ℕ) → m ≡ q * 4294967296 + a → a < 4294967296 → a + k ≡ p * 4294967296 + b → b < 4294967296 → (c d : ℕ) → m + k ≡ d * 4294967296 + c → c < 4294967296 → b ≡ c
one_on m k q a p b e la f lb c d g lc = omega (arith, e, la, f, lb, g, lc)

pub sum_twice : (s n m : ℕ) → serial_sum (serial_sum s n) m ≡ serial_sum s (n + m)
sum_twice s n m =
    one_on (s + n) m ((s + n) / 4294967296) (serial_sum s n) ((serial_sum s n + m) / 4294967296) (serial_sum (serial_sum s n) m) (grind arith) (grind arith) (grind arith) (grind arith)
    (serial_sum s (n + m)) ((s + (n + m)) / 4294967296) (grind arith) (grind arith)

pub sum_more : (s n : ℕ) → serial_sum (serial_sum s n) 1 ≡ serial_sum s (n + 1)
sum_more s n = sum_twice s n 1

-- ---- operations

data_other : (q : ℕ) (d : Data) → (rank_of (type_of d) ≡ rank_of types.Soa → ⊥) → data_at q d ≡ d
data_other q (variants.Soa soa) other = absurd (other refl)
data_other q d other = refl

module _ (n : ℕ) where
  name_stays : (op : Operation) → acted_name (further n op) ≡ acted_name op
  name_stays (Add r) = refl
  name_stays (DeleteRrset name t) = refl
  name_stays (DeleteName name) = refl
  name_stays (DeleteRecord name rdata) = refl

  is_operation : (op : Operation) → IsOperation op → IsOperation (further n op)
  is_operation (Add r) is = at_fits (serial_sum (serial_in r) n) r (sum_fits (serial_in r) n) is
  is_operation (DeleteRrset name t) is = is
  is_operation (DeleteName name) is = is
  is_operation (DeleteRecord name rdata) is = is

  pub soa_stays : (op : Operation) → adds_soa (further n op) ≡ adds_soa op
  soa_stays (Add r) = ap (λ t. rank_of t == rank_of types.Soa) (data_type (serial_sum (serial_in r) n) r.rdata)
  soa_stays (DeleteRrset name t) = refl
  soa_stays (DeleteName name) = refl
  soa_stays (DeleteRecord name rdata) = refl

  -- one that adds no SOA is as it was
  pub other_stays : (op : Operation) → adds_soa op ≡ false → further n op ≡ op
  other_stays (Add r) plain =
      ap (λ d. Add (record r { rdata = d }))
      (data_other (serial_sum (serial_in r) n) r.rdata (λ e. no (rank_of (type_of r.rdata) == rank_of types.Soa) (kind ([], rank_of (type_of r.rdata), []) types.Soa e) plain))
  other_stays (DeleteRrset name t) plain = refl
  other_stays (DeleteName name) plain = refl
  other_stays (DeleteRecord name rdata) plain = refl

  pub names_stay : (ops : List Operation) → map acted_name (map (further n) ops) ≡ map acted_name ops
  names_stay [] = refl
  names_stay (op ∷ ops) = ap₂ (λ x xs. x ∷ xs) (name_stays op) (names_stay ops)

  pub within_stays : (origin : List (List ℕ)) (ops : List Operation) → AreWithin origin ops → AreWithin origin (map (further n) ops)
  within_stays origin [] within = tt
  within_stays origin (op ∷ ops) within =
      ((is_operation op within.0.0, subst (λ name. IsWithin name origin) (sym (name_stays op)) within.0.1), within_stays origin ops within.1)

  pub others_stay : (ops : List Operation) → filter adds_no_soa (map (further n) ops) ≡ filter adds_no_soa ops
  others_stay [] = refl
  others_stay (op ∷ ops) =
      ap (λ b. cond (not b) (further n op ∷ filter adds_no_soa (map (further n) ops)) (filter adds_no_soa (map (further n) ops))) (soa_stays op)
      ∙ by_cases (adds_soa op) (cond (not (adds_soa op)) (further n op ∷ filter adds_no_soa (map (further n) ops)) (filter adds_no_soa (map (further n) ops)) ≡ filter adds_no_soa (op ∷ ops))
      (λ t. rw t (others_stay ops)) (λ f. rw f (ap₂ (λ x xs. x ∷ xs) (other_stays op f) (others_stay ops)))

  pub all_stay : (ops : List Operation) → AllByRecursion (λ op. adds_soa op ≡ false) ops → map (further n) ops ≡ ops
  all_stay [] plain = refl
  all_stay (op ∷ ops) plain = ap₂ (λ x xs. x ∷ xs) (other_stays op plain.0) (all_stay ops plain.1)

  any_stay : (ops more other : List Operation) → list_any adds_soa more ≡ list_any adds_soa other → list_any adds_soa (map (further n) ops ++ more) ≡ list_any adds_soa (ops ++ other)
  any_stay [] more other same = same
  any_stay (op ∷ ops) more other same = ap₂ (λ a b. a || b) (soa_stays op) (any_stay ops more other same)

-- ---- updates in turn

pub filter-append : {X : Type 0} (f : X → Bool) (xs ys : List X) → filter f (xs ++ ys) ≡ filter f xs ++ filter f ys
filter-append f [] ys = refl
filter-append f (x ∷ xs) ys = by_test (f x) (filter-append f xs ys)
  where
    by_test : (b : Bool) → filter f (xs ++ ys) ≡ filter f xs ++ filter f ys → cond b (x ∷ filter f (xs ++ ys)) (filter f (xs ++ ys)) ≡ cond b (x ∷ filter f xs) (filter f xs) ++ filter f ys
    by_test true e = ap (λ l. x ∷ l) e
    by_test false e = e

pub turn_others : (n : ℕ) (us : List UpdateOf) → filter adds_no_soa (operations_of (further_in_turn n us)) ≡ filter adds_no_soa (operations_of us)
turn_others n [] = refl
turn_others n (u ∷ us) =
    filter-append adds_no_soa (map (further n) u.operations) (operations_of (further_in_turn (n + 1) us))
    ∙ ap₂ (λ xs ys. xs ++ ys) (others_stay n u.operations) (turn_others (n + 1) us) ∙ sym (filter-append adds_no_soa u.operations (operations_of us))

pub turn_any : (n : ℕ) (us : List UpdateOf) → list_any adds_soa (operations_of (further_in_turn n us)) ≡ list_any adds_soa (operations_of us)
turn_any n [] = refl
turn_any n (u ∷ us) = any_stay n u.operations (operations_of (further_in_turn (n + 1) us)) (operations_of us) (turn_any (n + 1) us)

pub turn_plain : (n : ℕ) (us : List UpdateOf) → AllByRecursion (λ op. adds_soa op ≡ false) (operations_of us) → operations_of (further_in_turn n us) ≡ operations_of us
turn_plain n [] plain = refl
turn_plain n (u ∷ us) plain =
    ap₂ (λ xs ys. xs ++ ys) (all_stay n u.operations (all_front (λ op. adds_soa op ≡ false) u.operations (operations_of us) plain))
    (turn_plain (n + 1) us (all_back (λ op. adds_soa op ≡ false) u.operations (operations_of us) plain))

pub turn_within : (origin : List (List ℕ)) (n : ℕ) (us : List UpdateOf) → AreWithin origin (operations_of us) → AreWithin origin (operations_of (further_in_turn n us))
turn_within origin n [] within = tt
turn_within origin n (u ∷ us) within =
    all_join (λ op. IsOperation op × IsWithin (acted_name op) origin) (map (further n) u.operations) (operations_of (further_in_turn (n + 1) us))
    (within_stays n origin u.operations (all_front (λ op. IsOperation op × IsWithin (acted_name op) origin) u.operations (operations_of us) within))
    (turn_within origin (n + 1) us (all_back (λ op. IsOperation op × IsWithin (acted_name op) origin) u.operations (operations_of us) within))
