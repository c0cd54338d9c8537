-- Lists that loops make, and names that are searched.
use Rattle.std.proofs.Common.{◌≡◌, ℕ, ◌+◌, ◌<◌, List, [], ◌∷◌, ◌++◌, length, get_or, take, Bool, true, false, cond, ◌||◌, ◌==◌, Some, None, Result, Ok, Err, is_ok, refl, sym, ap, subst, ◌∙◌, arith, append-nil, inl, inr}
use Rattle.std.specs.declared.cmp.Ordering.TheVariants.{Less, Equal, Greater}
use Rattle.std.specs.Ordering.{is_eq}
use Rattle.std.specs.Cmp.{tied_itself}
use Rattle.std.specs.List.{list_any, filter}
use Rattle.std.specs.List.Sorted.{IsSorted, IsStrictlySortedBy, IsBinarySearchResult, IsSearchInRange}
use Rattle.std.specs.Bool.{Decides}
use Rattle.std.proofs.lemmas.Bool.{false_from_ne_true, cases_lt, eqb-true}
use Rattle.std.proofs.lemmas.Bool.Decides.{same_from_decides, Decides-eqb}
use Rattle.dns_data.specs.declared.record_type.RecordType.{RecordType}
use Rattle.dns_data.specs.Types.{type_number}
use Rattle.dns_data.proofs.RecordOrderLemmas.{one_rank}
use Rattle.grant_policy.proofs.WordLemmas.{same_type-Decides}
use Rattle.zone_core.specs.Sets.{rank_of}
use Rattle.std.proofs.lemmas.List.{take_more}
use Rattle.std.proofs.lemmas.List.Folds.{list_any_at, list_any_none}
use Rattle.std.proofs.lemmas.List.Sorted.{searchable_from_sorted}
use Rattle.std.proofs.lemmas.List.Kept.{IsStrictlySortedBy-filter}
use Rattle.dns_data.specs.declared.record.Record.{Record}
use Rattle.grant_policy.specs.declared.rule.Rule.{Rule}
use Rattle.answer_reach.specs.declared.reach_map.ReachMap.{ReachMap}
use Rattle.dns_names.specs.Reading.{relative_name, symbols_within, fitting}
use Rattle.dns_names.specs.declared.name_fault.NameFault.TheVariants.{NameTooLong}
use Rattle.dns_names.specs.Order.{canonical_cmp, canonical_total, same_name}
use Rattle.zone_core.specs.Delegations.{AreNamesOf}
use Rattle.zone_core.proofs.SetLemmas.{name_is, name_self, by_cases}
use Rattle.zone_core.proofs.BehindLemmas.{filter_push, filter_skip}
use Rattle.zone_answers.specs.Answers.{Name, asterisk}
use Rattle.zone_answers.proofs.CutLemmas.{sorted_names}
use Rattle.zone_answers.specs.AnswerTests.{is_there}
use Rattle.zone_answers.specs.declared.query_type.QueryType.{QueryType}
use Rattle.answer_reach.specs.declared.reached.ReachedNames.{ReachedNames}
use Rattle.answer_reach.specs.ReachTests.{has_name, within_any, is_long, alias_by, alias_under, if_types, AreSorted, IsMap, comes_under, stays_cut, opens}

-- ---- lists that grow

pub filter_more : {A : Type 0} (p : A → Bool) (x : A) (xs : List A) → filter p (xs ++ x ∷ []) ≡ filter p xs ++ cond (p x) (x ∷ []) []
filter_more p x xs = by_cases (p x) (filter p (xs ++ x ∷ []) ≡ filter p xs ++ cond (p x) (x ∷ []) [])
    (λ e. filter_push p x e xs ∙ ap (λ b. filter p xs ++ cond b (x ∷ []) []) (sym e))
    (λ e. filter_skip p x e xs ∙ sym (append-nil (filter p xs)) ∙ ap (λ b. filter p xs ++ cond b (x ∷ []) []) (sym e))

one_more_any : {A : Type 0} (p : A → Bool) (x : A) (ys : List A) → list_any p (ys ++ x ∷ []) ≡ (list_any p ys || p x)
one_more_any p x [] = or_false (p x)
  where
    or_false : (b : Bool) → (b || false) ≡ b
    or_false true = refl
    or_false false = refl
one_more_any p x (y ∷ ys) = ap (λ b. p y || b) (one_more_any p x ys) ∙ or_assoc (p y) (list_any p ys) (p x)
  where
    or_assoc : (a b c : Bool) → (a || (b || c)) ≡ ((a || b) || c)
    or_assoc true b c = refl
    or_assoc false b c = refl

pub any_more : {A : Type 0} (p : A → Bool) (xs : List A) (i : ℕ) (x : A) {now next : Bool} → i < length xs → x ≡ get_or xs i x → now ≡ list_any p (take i xs) → next ≡ (now || p x) → next ≡ list_any p (take (i + 1) xs)
any_more {A} p xs i x lt is so then =
    let e : take (i + 1) xs ≡ take i xs ++ x ∷ [] = take_more xs i x lt ∙ ap (λ (y : A). take i xs ++ y ∷ []) (sym is) in
    then ∙ ap (λ b. b || p x) so ∙ sym (ap (list_any p) e ∙ one_more_any p x (take i xs))

-- ---- names that are searched

pub sorted_names_of : (names all : List Name) → AreNamesOf names all → IsSorted canonical_cmp names
sorted_names_of names all are = sorted_names names are.order

pub searched : (names : List Name) (name : Name) (r : Result ℕ ℕ) → IsSorted canonical_cmp names → IsSearchInRange r (length names) → IsBinarySearchResult (λ y. canonical_cmp y name) names r
    → is_ok r ≡ has_name names name
searched names name (Ok i) sorted bound found =
    sym (list_any_at (same_name name) names i name bound (ap (same_name name) (name_is (get_or names i name) name (ap is_eq (found name))) ∙ name_self name))
searched names name (Err i) sorted bound found =
    let parts = found (searchable_from_sorted canonical_total (λ (x : Name). x) names name sorted) in
    sym (list_any_none (same_name name) names (λ k d below. false_from_ne_true (same_name name (get_or names k d)) (λ same.
    let tie : canonical_cmp (get_or names k d) name ≡ Equal = ap (canonical_cmp (get_or names k d)) (name_is name (get_or names k d) same) ∙ tied_itself canonical_total (get_or names k d) in
    (elim (cases_lt k i) [
      | inl before ↦ (let less = parts.0 k d (omega arith) before in let c : Less ≡ Equal = sym less ∙ tie in cc)
      | inr behind ↦ (let more = parts.1 k d behind below in let c : Greater ≡ Equal = sym more ∙ tie in cc)
    ]))))

-- ---- a wildcard that is read

wildcard_text : (above : Name) → relative_name above (42 ∷ []) ≡ fitting (asterisk ∷ above)
unfolding symbols_within
wildcard_text above = refl

pub read_short : (above name : Name) → relative_name above (42 ∷ []) ≡ Ok name → Some name ≡ cond (is_long above) None (Some (asterisk ∷ above))
read_short above name e = by_test (is_long above) refl (sym (wildcard_text above) ∙ e)
  where
    by_test : (b : Bool) → is_long above ≡ b → cond b (Err NameTooLong) (Ok (asterisk ∷ above)) ≡ Ok name → Some name ≡ cond (is_long above) None (Some (asterisk ∷ above))
    by_test true t f = absurd cc
    by_test false t f = (let same : asterisk ∷ above ≡ name = cc in ap Some (sym same) ∙ sym (ap (λ b. cond b None (Some (asterisk ∷ above))) t))

pub read_long : (above : Name) → relative_name above (42 ∷ []) ≡ Err NameTooLong → None ≡ cond (is_long above) None (Some (asterisk ∷ above))
read_long above e = by_test (is_long above) refl (sym (wildcard_text above) ∙ e)
  where
    by_test : (b : Bool) → is_long above ≡ b → cond b (Err NameTooLong) (Ok (asterisk ∷ above)) ≡ Err NameTooLong → None ≡ cond (is_long above) None (Some (asterisk ∷ above))
    by_test true t f = sym (ap (λ b. cond b None (Some (asterisk ∷ above))) t)
    by_test false t f = absurd cc

-- ---- rows

pub row_none : (g : ReachedNames) (ts : List QueryType) → length ts ≡ 0 → if_types g ts ≡ []
row_none g [] e = refl
row_none g (t ∷ ts) e = absurd (omega (arith, e))

pub row_some : (g : ReachedNames) (ts : List QueryType) → ¬ (length ts ≡ 0) → if_types g ts ≡ record { names = g; types = ts } ∷ []
row_some g [] some = absurd (some refl)
row_some g (t ∷ ts) some = refl

-- ---- lists of a map

pub map_sorted : (rules : List Rule) (caller : List ℕ) (origin : Name) (rs : List Record) (names : List Name) (m : ReachMap) → IsStrictlySortedBy canonical_cmp names → IsMap rules caller origin rs names m → AreSorted m
map_sorted rules caller origin rs names m order is =
    let chosen : (p : Name → Bool) (l : List Name) → l ≡ filter p names → IsSorted canonical_cmp l =
    λ p l e. subst (λ (x : List Name). IsSorted canonical_cmp x) (sym e) (sorted_names (filter p names) (IsStrictlySortedBy-filter canonical_cmp p names order)) in
    record {
      arising = sorted_names m.arising.items is.arising.order;
      staying = sorted_names m.staying.items is.staying.order;
      under = chosen (comes_under rules caller origin rs) m.under.items is.under;
      cuts = chosen (stays_cut rules caller origin rs) m.cuts.items is.cuts;
      openers = chosen (opens rules caller origin rs m.cuts.items) m.openers.items is.openers;
    }

-- ---- types

-- types are one by their numbers exactly where they are by their ranks
pub type_same : (a b : RecordType) → (type_number a == type_number b) ≡ (rank_of a == rank_of b)
type_same a b = same_from_decides (type_number a == type_number b) (rank_of a == rank_of b) (same_type-Decides a b) (ranks a b)
  where
    ranks : (a b : RecordType) → Decides (rank_of a == rank_of b) (a ≡ b)
    ranks a b = (λ e. one_rank a b (eqb-true (rank_of a) (rank_of b) e), λ e. ap (λ (t : RecordType). rank_of a == rank_of t) (sym e) ∙ (Decides-eqb (rank_of a) (rank_of a)).1 refl)

-- a name that is one of some names is at or below one
pub within_has : (names : List Name) (name : Name) → has_name names name ≡ true → within_any names name ≡ true
within_has names [] e = e
within_has names (label ∷ labels) e = ap (λ b. b || within_any names labels) e

-- a name is within none of no names
pub within_none : (names : List Name) (name : Name) → length names ≡ 0 → false ≡ within_any names name
within_none [] [] e = refl
within_none [] (label ∷ labels) e = within_none [] labels e
within_none (n ∷ names) name e = absurd (omega (arith, e))

-- the alias below a name that exists
pub alias_there : (rs : List Record) (above : Name) → is_there rs above ≡ true → alias_by rs above ≡ alias_under rs above
alias_there rs [] e = sym (ap (λ b. cond b (alias_by rs []) None) e)
alias_there rs (label ∷ labels) e = sym (ap (λ b. cond b (alias_by rs (label ∷ labels)) (alias_under rs labels)) e)
