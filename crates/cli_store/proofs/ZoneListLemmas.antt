-- How many receipts there are of updates of each zone, counted by its origin.
use Rattle.std.proofs.Common.{◌≡◌, ℕ, ◌+◌, ◌<◌, ◌≤◌, ◌^◌, Bool, true, false, cond, not, List, [], ◌∷◌, ◌++◌, length, take, Option, Some, None, is_none, option_map, IfSome, refl, sym, ap, ◌∙◌, subst, arith, add-zero}
use Rattle.std.specs.Prelude.{unwrap_or}
use Rattle.std.specs.List.{filter, flat_map}
use Rattle.std.proofs.lemmas.Bool.{or_left, or_right}
use Rattle.std.proofs.lemmas.List.{length-take}
use Rattle.std.proofs.lemmas.List.Sums.{length-filter, count_by-le-length}
use Rattle.dns_names.specs.Order.{same_name}
use Rattle.zone_core.proofs.SetLemmas.{by_cases, name_is, name_self}
use Rattle.store_rows.specs.declared.ordered.KeptReceipt.{KeptReceipt}
use Rattle.cli_store.specs.declared.zone_list.ZoneSummary.{ZoneSummary}
use Rattle.cli_store.specs.ZoneList.{is_listed, receipts_of, zone_line}

abbrev pub Labels : Type 0
Labels = List (List ℕ)

-- ---- origins that are there

-- nothing is counted of an origin that is there yet
abbrev pub zero_if : Bool → Option ℕ
zero_if b = cond b (Some 0) None

abbrev pub none_yet : List ZoneSummary → Labels → Option ℕ
none_yet zones origin = zero_if (is_listed zones origin)

pub is_zero : (found : Option ℕ) (zones : List ZoneSummary) (origin : Labels) → found ≡ none_yet zones origin → IfSome found (λ n. n ≡ 0)
is_zero found zones origin is = subst (λ (o : Option ℕ). IfSome o (λ n. n ≡ 0)) (sym is) (by_test (is_listed zones origin))
  where
    by_test : (b : Bool) → IfSome (zero_if b) (λ n. n ≡ 0)
    by_test true = refl
    by_test false = tt

-- ---- one receipt

-- what is found of an origin that no receipt is of stays
same_found : (found : Option ℕ) → found ≡ option_map (λ m. m + 0) found
same_found None = refl
same_found (Some m) = ap (λ (k : ℕ). Some k) (sym (add-zero m))

-- what is found after one more of an origin
pub one_counted : (found : Labels → Option ℕ) (origin other : Labels) (n : ℕ) → Some n ≡ found origin
    → cond (same_name origin other) (Some (n + 1)) (found other) ≡ option_map (λ m. m + cond (same_name origin other) 1 0) (found other)
one_counted found origin other n there =
    by_cases (same_name origin other) (cond (same_name origin other) (Some (n + 1)) (found other) ≡ option_map (λ m. m + cond (same_name origin other) 1 0) (found other))
    (λ t. let here : found other ≡ Some n = ap found (sym (name_is origin other t)) ∙ sym there in rw (t, here) refl) (λ f. rw f (same_found (found other)))

-- and after one of an origin that is not there
pub none_counted : (found : Labels → Option ℕ) (origin other : Labels) → None ≡ found origin → found other ≡ option_map (λ m. m + cond (same_name origin other) 1 0) (found other)
none_counted found origin other there =
    by_cases (same_name origin other) (found other ≡ option_map (λ m. m + cond (same_name origin other) 1 0) (found other))
    (λ t. let here : found other ≡ None = ap found (sym (name_is origin other t)) ∙ sym there in rw here refl) (λ f. rw f (same_found (found other)))

-- of so many elements no more pass a test
pub few : {X : Type 0} (p : X → Bool) (xs : List X) (i : ℕ) → length (filter p (take i xs)) ≤ i
few p xs i = omega (arith, length-filter p (take i xs), count_by-le-length p (take i xs), length-take i xs)

pub fits : (found before : Option ℕ) (n i : ℕ) → found ≡ option_map (λ m. n) before → n ≤ i → i + 1 < 2 ^ 64 → IfSome found (λ m. m + 1 < 2 ^ 64)
fits found before n i is most below = subst (λ (o : Option ℕ). IfSome o (λ m. m + 1 < 2 ^ 64)) (sym is) (by_before before)
  where
    by_before : (o : Option ℕ) → IfSome (option_map (λ m. n) o) (λ m. m + 1 < 2 ^ 64)
    by_before None = tt
    by_before (Some m) = omega (arith, most, below)

-- ---- all lines

pub lines_counted : (found : Labels → Option ℕ) (kept : List KeptReceipt) (zones : List ZoneSummary)
    → ((origin : Labels) → is_listed zones origin ≡ true → found origin ≡ Some (receipts_of kept origin))
    → flat_map (λ z. zone_line z (unwrap_or (found z.origin) 0)) zones ≡ flat_map (λ z. zone_line z (receipts_of kept z.origin)) zones
lines_counted found kept [] each = refl
lines_counted found kept (z ∷ zs) each =
    let here : found z.origin ≡ Some (receipts_of kept z.origin) = each z.origin (or_left (same_name z.origin z.origin) (is_listed zs z.origin) (name_self z.origin)) in
    let rest = lines_counted found kept zs (λ origin listed. each origin (or_right (same_name z.origin origin) (is_listed zs origin) listed)) in
    λ i. zone_line z (unwrap_or (here i) 0) ++ rest i

-- what was found of an origin before and after the count
pub listed_counted : (zones : List ZoneSummary) (kept : List KeptReceipt) (origin : Labels) (before found : Option ℕ) → before ≡ none_yet zones origin
    → found ≡ option_map (λ n. receipts_of kept origin) before → is_listed zones origin ≡ true → found ≡ Some (receipts_of kept origin)
listed_counted zones kept origin before found is counted listed = counted ∙ ap (option_map (λ n. receipts_of kept origin)) (is ∙ ap zero_if listed)

pub none_listed : (zones : List ZoneSummary) (origin : Labels) (before : Option ℕ) → before ≡ none_yet zones origin → is_none before ≡ not (is_listed zones origin)
none_listed zones origin before is = ap is_none is ∙ by_test (is_listed zones origin)
  where
    by_test : (b : Bool) → is_none (zero_if b) ≡ not b
    by_test true = refl
    by_test false = refl
