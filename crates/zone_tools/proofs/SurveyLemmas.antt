-- What a survey has of its zone.
use Rattle.std.proofs.Common.{◌≡◌, ℕ, ◌+◌, ◌<◌, ◌≤◌, List, [], ◌∷◌, ◌++◌, length, get_or, Bool, true, false, cond, not, ◌&&◌, Option, Some, None, Bor, Result, Ok, Err, is_some, is_ok, refl, sym, ap, subst, ◌∙◌, arith, length-append, inl, inr}
use Rattle.std.specs.declared.cmp.Ordering.TheVariants.{Less, Equal, Greater}
use Rattle.std.specs.Ordering.{is_lt, is_eq}
use Rattle.std.specs.Cmp.{both_ways, tied_itself}
use Rattle.std.specs.Option.{option_copied}
use Rattle.std.specs.List.{find, list_any}
use Rattle.std.specs.List.Sorted.{IsSorted, IsStrictlySortedBy, IsBinarySearchResult, IsSearchInRange}
use Rattle.std.proofs.lemmas.Bool.{and_parts, false_from_ne_true, cases_lt}
use Rattle.std.proofs.lemmas.Bool.Decides.{same_from_decides}
use Rattle.std.proofs.lemmas.List.{get_or_default}
use Rattle.std.proofs.lemmas.List.Folds.{list_any_at, list_any_none}
use Rattle.std.proofs.lemmas.List.Sorted.{searchable_from_sorted}
use Rattle.std.proofs.lemmas.Map.Keys.{Less-from_sorted}
use Rattle.dns_names.specs.Labels.{IsWithin, IsBelow, is_within}
use Rattle.dns_names.specs.Order.{canonical_cmp, canonical_total, same_name}
use Rattle.dns_names.proofs.NameLemmas.{is_within-Decides}
use Rattle.dns_data.specs.declared.record.Record.{Record}
use Rattle.zone_core.specs.Outermost.{AreApart}
use Rattle.zone_core.specs.Delegations.{AreNamesOf, cut_owners, servers_in, is_below}
use Rattle.zone_core.proofs.SetLemmas.{name_is, name_self}
use Rattle.zone_core.proofs.WithinLemmas.{not_before}
use Rattle.zone_core.proofs.MetLemmas.{Among, among_of, of_among, any_is, is_any}
use Rattle.zone_core.proofs.BelowLemmas.{Name, no_test, below-Decides, within_within, is_within_itself, is_within_within, not_behind}
use Rattle.zone_core.proofs.CoverLemmas.{found_any}
use Rattle.zone_core.proofs.NameListLemmas.{same_test}
use Rattle.zone_core.proofs.ReportLemmas.{cut_is}
use Rattle.zone_tools.specs.ZoneTests.{is_cut, is_delegated, is_below_cut, AreTopCuts, AreServers}
use Rattle.zone_tools.proofs.AtFaultLemmas.{delegated-Decides}

both_true : (a b : Bool) → a ≡ true → b ≡ true → (a && b) ≡ true
both_true a b e f = (λ i. e i && f i)

-- ---- names within names

-- names within each other are one
pub within_both : (a b : Name) → IsWithin a b → IsWithin b a → a ≡ b
within_both a b p q = by_front p.0 p.1
  where
    longer : length a ≤ length b
    longer = omega (arith, ap length q.1, length-append q.0 a)

    by_front : (front : Name) → a ≡ front ++ b → a ≡ b
    by_front [] e = e
    by_front (l ∷ front) e = absurd (omega (arith, longer, ap length e, length-append front b))

pub below_within : (a b c : Name) → IsBelow a b → IsWithin b c → IsBelow a c
below_within a b c p q = (within_within a b c p.0 q, λ e. p.1 (within_both a b p.0 (subst (λ (x : Name). IsWithin b x) (sym e) q)))

pub below_is_within : (a b : Name) → is_below a b ≡ true → is_within a b ≡ true
below_is_within a b e = (and_parts (is_within a b) (not (same_name a b)) e).0

-- ---- the first that passes

pub found_is : {X : Type 0} (p : X → Bool) (xs : List X) (x : X) → find p xs ≡ Some x → Among x xs × (p x ≡ true)
found_is p [] x e = absurd cc
found_is {X} p (y ∷ ys) x e = by_test (p y) refl e (found_is p ys x)
  where
    by_test : (b : Bool) → p y ≡ b → cond b (Some y) (find p ys) ≡ Some x → (find p ys ≡ Some x → Among x ys × (p x ≡ true)) → Among x (y ∷ ys) × (p x ≡ true)
    by_test true t f later = let same : y ≡ x = cc in (inl (sym same), ap p (sym same) ∙ t)
    by_test false t f later = let found = later f in (inr found.0, found.1)

pub copied_some : {T : Type 0} (o : Option (Bor T)) → is_some o ≡ is_some (option_copied o)
copied_some None = refl
copied_some (Some x) = refl

-- ---- names apart

module _ (names : List Name) (apart : AreApart names) where
  -- two of them of which one is within the other are one
  pub one_of : (a b : Name) → Among a names → Among b names → is_within a b ≡ true → a ≡ b
  one_of a b p q inside =
      let i = of_among names a p in
      let j = of_among names b q in
      by_places i.0 j.0 i.1 j.1 i.2 j.2
    where
      by_places : (i j : ℕ) → i < length names → j < length names → get_or names i a ≡ a → get_or names j b ≡ b → a ≡ b
      by_places i j p q e f = (elim (cases_lt i j) [
        | inl before ↦
            (let there : get_or names j a ≡ b = get_or_default names j a b q ∙ f in
            let lt : canonical_cmp a b ≡ Less = sym (λ k. canonical_cmp (e k) (there k)) ∙ (apart i j a before q).0 in
            no_test (is_within a b) inside (not_before b a (ap is_lt lt)))
        | inr after ↦ (elim (cases_lt j i) [
          | inl behind ↦
              (let there : get_or names i b ≡ a = get_or_default names i b a p ∙ e in
              no_test (is_within a b) inside (sym (λ k. is_within (there k) (f k)) ∙ (apart j i b behind p).1))
          | inr same ↦
              (let there : get_or names j a ≡ b = get_or_default names j a b q ∙ f in
              let eq : i ≡ j = omega arith in
              sym e ∙ ap (λ k. get_or names k a) eq ∙ there)
        ])
      ])

-- ---- the cuts that are below no other

-- names that each come before the next are sorted
pub sorted_names : (names : List Name) → IsStrictlySortedBy canonical_cmp names → IsSorted canonical_cmp names
sorted_names names order k d p q =
    not_behind (get_or names k d) (get_or names (k + 1) d) (Less-from_sorted canonical_cmp names k (k + 1) d order (omega arith) (omega arith))

-- within one of all cuts are the names that are delegated
pub covers_delegated : (origin : Name) (rs : List Record) (names : List Name) → AreNamesOf names (cut_owners origin rs) → (name : Name) → list_any (λ cut. is_within name cut) names ≡ is_delegated origin rs name
covers_delegated origin rs names are name =
    same_from_decides (list_any (λ cut. is_within name cut) names) (is_delegated origin rs name) (
      λ e.
          let found = any_is (λ cut. is_within name cut) names e in
          (found.0, (cut_is origin found.0 rs).0 ((are.members found.0).0 (of_among names found.0 found.1)), (is_within-Decides name found.0).0 found.2),
      λ has.
          let child = has.0 in
          is_any (λ cut. is_within name cut) names child (among_of names child ((are.members child).1 ((cut_is origin child rs).1 has.1))) ((is_within-Decides name child).1 has.2),
    )
    (delegated-Decides origin rs name)

-- ---- below a cut

module _ (origin : Name) (rs : List Record) (cuts : List Name) (top : AreTopCuts origin rs cuts) (name : Name) where
  -- a record that cuts the zone above the name
  below_one : is_below_cut origin rs name ≡ true → (r : Record) × Among r rs × (is_cut origin r ≡ true) × (is_below name r.owner ≡ true)
  below_one e =
      let found = any_is (λ r. is_cut origin r && is_below name r.owner) rs e in
      let both = and_parts (is_cut origin found.0) (is_below name found.0.owner) found.2 in
      (found.0, found.1, both.0, both.1)

  -- one of the cuts is at or above it
  cut_above : (r : Record) → Among r rs → is_cut origin r ≡ true → (cut : Name) × Among cut cuts × (is_within r.owner cut ≡ true)
  cut_above r here cuts_it =
      any_is (λ cut. is_within r.owner cut) cuts
      (top.covers r.owner ∙ is_any (λ s. is_cut origin s && is_within r.owner s.owner) rs r here (both_true (is_cut origin r) (is_within r.owner r.owner) cuts_it (is_within_itself r.owner)))

  pub not_covered_below : find (λ cut. is_within name cut) cuts ≡ None → is_below_cut origin rs name ≡ false
  not_covered_below e =
      false_from_ne_true (is_below_cut origin rs name) (λ below.
      let r = below_one below in
      let above = cut_above r.0 r.1 r.2 in
      let inside = is_within_within name r.0.owner above.0 (below_is_within name r.0.owner r.3) above.2 in
      let some : is_some (find (λ cut. is_within name cut) cuts) ≡ true = found_any (λ cut. is_within name cut) cuts ∙ is_any (λ cut. is_within name cut) cuts above.0 above.1 inside in
      let gone : is_some (find (λ cut. is_within name cut) cuts) ≡ false = ap is_some e in
      no_test (is_some (find (λ cut. is_within name cut) cuts)) some gone)

  pub covered_below : (cut : Name) → find (λ cut. is_within name cut) cuts ≡ Some cut → not (same_name name cut) ≡ is_below_cut origin rs name
  covered_below cut e =
      let found = found_is (λ cut. is_within name cut) cuts cut e in
      both_ways (not (same_name name cut)) (is_below_cut origin rs name)
      (λ other.
      let there = any_is (λ r. is_cut origin r && is_within cut r.owner) rs (sym (top.covers cut) ∙ is_any (λ c. is_within cut c) cuts cut found.0 (is_within_itself cut)) in
      let both = and_parts (is_cut origin there.0) (is_within cut there.0.owner) there.2 in
      let below = below_within name cut there.0.owner ((below-Decides name cut).0 (both_true (is_within name cut) (not (same_name name cut)) found.1 other)) ((is_within-Decides cut there.0.owner).0 both.1) in
      is_any (λ r. is_cut origin r && is_below name r.owner) rs there.0 there.1 (both_true (is_cut origin there.0) (is_below name there.0.owner) both.0 ((below-Decides name there.0.owner).1 below)))
      (λ below. by_test (same_name name cut) refl found.0 below)
    where
      by_test : (b : Bool) → same_name name cut ≡ b → Among cut cuts → is_below_cut origin rs name ≡ true → not b ≡ true
      by_test false t among below = refl
      by_test true t among below =
          let same : name ≡ cut = name_is name cut t in
          let r = below_one below in
          let above = cut_above r.0 r.1 r.2 in
          let inside = is_within_within name r.0.owner above.0 (below_is_within name r.0.owner r.3) above.2 in
          let one : cut ≡ above.0 = one_of cuts top.apart cut above.0 among above.1 (sym (ap (λ (x : Name). is_within x above.0) same) ∙ inside) in
          let back : is_within r.0.owner name ≡ true = ap (is_within r.0.owner) (same ∙ one) ∙ above.2 in
          let strict = (below-Decides name r.0.owner).0 r.3 in
          absurd (strict.1 (within_both name r.0.owner strict.0 ((is_within-Decides r.0.owner name).0 back)))

-- ---- servers that are searched

pub are_servers : (rs : List Record) (names : List Name) → AreNamesOf names (servers_in rs) → AreServers rs names
are_servers rs names are = record { order = sorted_names names are.order; members = λ name. sym (same_test names (servers_in rs) are name) }

pub searched : (names : List Name) (name : Name) (r : Result ℕ ℕ) → IsSorted canonical_cmp names → IsSearchInRange r (length names) → IsBinarySearchResult (λ y. canonical_cmp y name) names r
    → is_ok r ≡ list_any (same_name name) names
searched names name (Ok i) sorted bound found =
    sym (list_any_at (same_name name) names i name bound (ap (same_name name) (name_is (get_or names i name) name (ap is_eq (found name))) ∙ name_self name))
searched names name (Err i) sorted bound found =
    let parts = found (searchable_from_sorted canonical_total (λ (x : Name). x) names name sorted) in
    sym (list_any_none (same_name name) names (λ k d below. false_from_ne_true (same_name name (get_or names k d)) (λ same.
    let tie : canonical_cmp (get_or names k d) name ≡ Equal = ap (canonical_cmp (get_or names k d)) (name_is name (get_or names k d) same) ∙ tied_itself canonical_total (get_or names k d) in
    (elim (cases_lt k i) [
      | inl before ↦ (let less = parts.0 k d (omega arith) before in let c : Less ≡ Equal = sym less ∙ tie in cc)
      | inr behind ↦ (let more = parts.1 k d behind below in let c : Greater ≡ Equal = sym more ∙ tie in cc)
    ]))))
