-- The outermost of names in canonical order are gathered from the first name on.
use Rattle.std.proofs.Common.{◌≡◌, ℕ, ◌+◌, ◌<◌, ◌≤◌, List, [], ◌∷◌, ◌++◌, length, take, get_or, Bool, true, false, ◌||◌, refl, sym, ap, ◌∙◌, arith}
use Rattle.std.specs.declared.cmp.Ordering.TheVariants.{Less}
use Rattle.std.specs.Cmp.{tied_itself}
use Rattle.std.specs.Ordering.{is_le}
use Rattle.std.specs.List.{All, Contains, list_any}
use Rattle.std.specs.List.Sorted.{IsSorted}
use Rattle.std.proofs.lemmas.Bool.{false_from_ne_true}
use Rattle.std.proofs.lemmas.List.{get_or_default}
use Rattle.std.proofs.lemmas.List.Elements.{All-push}
use Rattle.std.proofs.lemmas.List.Folds.{list_any-append, list_any_more, list_any_at}
use Rattle.std.proofs.lemmas.List.Quantifiers.{all_pairs_push}
use Rattle.std.proofs.lemmas.List.Sorted.{searchable_from_sorted}
use Rattle.dns_names.specs.Labels.{is_within}
use Rattle.dns_names.specs.Order.{canonical_cmp, canonical_total}
use Rattle.zone_core.specs.Outermost.{AreApart}
use Rattle.zone_core.proofs.MetLemmas.{any_is, is_any}
use Rattle.zone_core.proofs.BelowLemmas.{Name, no_test, before_other, is_within_itself, is_within_within, not_above}

or_false : (a : Bool) → (a || false) ≡ a
or_false true = refl
or_false false = refl

or_kept : (a b : Bool) → (b ≡ true → a ≡ true) → (a || b) ≡ a
or_kept true b f = refl
or_kept false true f = absurd (let e = f refl in cc)
or_kept false false f = refl

module _ (names : List Name) where
  -- the outermost of the first names, none of them after a later name
  pub record AreUnderway (i : ℕ) (tops : List Name) : Type 0 where
    pub each : All (λ top. Contains names top) tops
    pub covers : (name : Name) → list_any (λ top. is_within name top) tops ≡ list_any (λ top. is_within name top) (take i names)
    pub apart : AreApart tops
    pub before : (k : ℕ) (d : Name) → i ≤ k → k < length names → All (λ (top : Name). is_le (canonical_cmp top (get_or names k d)) ≡ true) tops

  pub underway_none : AreUnderway 0 []
  underway_none = record {
    each = λ j e none. absurd (omega arith);
    covers = λ name. refl;
    apart = λ i j d up below. absurd (omega arith);
    before = λ k d up below j e none. absurd (omega arith);
  }

  module _ (order : IsSorted canonical_cmp names) (i : ℕ) (name : Name) (below : i < length names) (is : name ≡ get_or names i name) where
    -- a name is not after the later ones
    rises : (k : ℕ) (d : Name) → i + 1 ≤ k → k < length names → is_le (canonical_cmp name (get_or names k d)) ≡ true
    rises k d up lt =
        let there : get_or names i d ≡ name = get_or_default names i d name below ∙ sym is in
        let other = get_or names k d in
        ap (λ (x : Name). is_le (canonical_cmp x other)) (sym there)
        ∙ not_above (canonical_cmp (get_or names i d) other) (canonical_cmp other other) (tied_itself canonical_total other)
        (searchable_from_sorted canonical_total (λ (x : Name). x) names other order i k d (omega arith) lt)

    covered_more : (x : Name) → list_any (λ top. is_within x top) (take (i + 1) names) ≡ (list_any (λ top. is_within x top) (take i names) || is_within x name)
    covered_more x =
        list_any_more (λ top. is_within x top) names i name below ∙ ap (λ (top : Name). list_any (λ t. is_within x t) (take i names) || is_within x top) (sym is)

    later : (tops : List Name) → AreUnderway i tops → (k : ℕ) (d : Name) → i + 1 ≤ k → k < length names → All (λ (top : Name). is_le (canonical_cmp top (get_or names k d)) ≡ true) tops
    later tops so k d up lt = so.before k d (omega arith) lt

    -- a name within one of them is left out
    pub underway_left : (tops : List Name) → AreUnderway i tops → list_any (λ top. is_within name top) tops ≡ true → AreUnderway (i + 1) tops
    underway_left tops so inside = record {
      each = so.each;
      covers = λ x.
          let above = any_is (λ top. is_within name top) tops inside in
          sym (covered_more x
          ∙ or_kept (list_any (λ top. is_within x top) (take i names)) (is_within x name)
          (λ under. sym (so.covers x) ∙ is_any (λ top. is_within x top) tops above.0 above.1 (is_within_within x name above.0 under above.2))
          ∙ sym (so.covers x));
      apart = so.apart;
      before = later tops so;
    }

    -- and else it is one more
    pub underway_more : (tops : List Name) → AreUnderway i tops → list_any (λ top. is_within name top) tops ≡ false → AreUnderway (i + 1) (tops ++ name ∷ [])
    underway_more tops so outside = record {
      each = All-push (λ (top : Name). Contains names top) tops name so.each (i, below, sym is);
      covers = λ x.
          list_any-append (λ top. is_within x top) tops (name ∷ []) ∙ (λ j. so.covers x j || or_false (is_within x name) j) ∙ sym (covered_more x);
      apart = all_pairs_push (λ (a b : Name). (canonical_cmp a b ≡ Less) × (is_within b a ≡ false)) tops name so.apart (λ k d lt.
          let top = get_or tops k d in
          let apart_from : is_within name top ≡ false = false_from_ne_true (is_within name top) (λ under. no_test (list_any (λ t. is_within name t) tops) (list_any_at (λ t. is_within name t) tops k d lt under) outside) in
          let le : is_le (canonical_cmp top name) ≡ true = ap (λ (x : Name). is_le (canonical_cmp top x)) is ∙ so.before i name (omega arith) below k d lt in
          (before_other top name le (λ same. no_test (is_within name top) (ap (is_within name) same ∙ is_within_itself name) apart_from), apart_from));
      before = λ k d up lt. All-push (λ (top : Name). is_le (canonical_cmp top (get_or names k d)) ≡ true) tops name (later tops so k d up lt) (rises k d up lt);
    }
