-- The names of a list in canonical order, each once.
use Rattle.std.proofs.Common.{◌≡◌, ℕ, List, [], ◌∷◌, map, Bool, true, false, ◌&&◌, is_some, Option, Some, None, refl, sym, ap, subst, ◌∙◌}
use lib.Dec.{T}
use Rattle.std.specs.declared.cmp.Ordering.TheVariants.{Less}
use Rattle.std.specs.Ordering.{is_eq, is_lt}
use Rattle.std.specs.Cmp.{both_ways}
use Rattle.std.specs.FinMap.{FinMap, IsAntisymmetric, keys, from_entries, from_sorted, find, is_sorted, get-from_entries, get-from_sorted, entries-from_sorted, same_map}
use Rattle.std.specs.FinMap.Entries.{below_all, is_some-find}
use Rattle.std.specs.List.{AllByRecursion, dedup, list_any}
use Rattle.std.specs.List.Sorted.{IsSorted, IsStrictlySortedBy, IsPermutation}
use Rattle.std.proofs.lemmas.Map.Views.{list_any-from_Contains, Contains-from_any}
use Rattle.std.proofs.lemmas.List.Sorted.{Contains-permutation}
use Rattle.std.proofs.lemmas.List.Kept.{Contains-dedup, Contains-from_dedup, IsStrictlySortedBy-dedup}
use Rattle.dns_names.specs.Order.{canonical_cmp, canonical_total, same_name, same_name_equiv}
use Rattle.dns_data.specs.declared.record.Record.{Record}
use Rattle.zone_core.specs.declared.report.Delegation.{Delegation}
use Rattle.zone_core.specs.Delegations.{AreNamesOf, names_in_order, IsDelegation, AreDelegations, cut_owners, server_of, server_names, child_report, report_of, report}
use Rattle.zone_core.proofs.SetLemmas.{name_is}

-- ---- names that are sorted, and of which repeats are dropped

pub ordered_are : (all sorted names : List (List (List ℕ))) → IsPermutation all sorted → IsPermutation sorted all → IsSorted canonical_cmp sorted → names ≡ dedup same_name sorted → AreNamesOf names all
ordered_are all sorted names there back order is =
    subst (λ ns. AreNamesOf ns all) (sym is)
    (record {
      order = IsStrictlySortedBy-dedup canonical_total (λ x y. refl) sorted order;
      members = λ name. (
        λ c. Contains-permutation sorted all name back (Contains-from_dedup same_name sorted name c),
        λ c. Contains-dedup same_name_equiv (λ x y e. name_is x y e) sorted name (Contains-permutation all sorted name there c),
      );
    })

-- ---- they are the keys of a map

abbrev pub Name : Type 0
Name = List (List ℕ)

abbrev pub Names : Type 0
Names = FinMap canonical_cmp (Unit {0})

abbrev pub paired : List Name → List (Name × Unit {0})
paired names = map (λ name. (name, tt {0})) names

unpaired : (names : List Name) → map (λ (e : Name × Unit {0}). e.0) (paired names) ≡ names
unpaired [] = refl
unpaired (name ∷ names) = ap (λ xs. name ∷ xs) (unpaired names)

one_name : IsAntisymmetric canonical_cmp
one_name x y e = name_is x y (ap is_eq e)

same_units : (o p : Option (Unit {0})) → is_some o ≡ is_some p → o ≡ p
same_units None None e = refl
same_units None (Some y) e = absurd cc
same_units (Some x) None e = absurd cc
same_units (Some x) (Some y) e = refl

pub is_found : (name : Name) (names : List Name) → is_some (find canonical_cmp name (paired names)) ≡ list_any (same_name name) names
is_found name names = is_some-find canonical_cmp name (paired names) ∙ ap (list_any (same_name name)) (unpaired names)

both_true : (a b : Bool) → T a → T b → T (a && b)
both_true true b p q = q
both_true false b p q = p

below_is : (name : Name) (names : List Name) → AllByRecursion (λ y. canonical_cmp name y ≡ Less) names → T (below_all canonical_cmp name (paired names))
below_is name [] all = tt
below_is name (y ∷ names) all =
    both_true (is_lt (canonical_cmp name y)) (below_all canonical_cmp name (paired names)) (subst (λ o. T (is_lt o)) (sym all.0) tt) (below_is name names all.1)

sorted_is : (names : List Name) → IsStrictlySortedBy canonical_cmp names → T (is_sorted canonical_cmp (paired names))
unfolding IsStrictlySortedBy
sorted_is [] order = tt
sorted_is (name ∷ names) order = both_true (below_all canonical_cmp name (paired names)) (is_sorted canonical_cmp (paired names)) (below_is name names order.0) (sorted_is names order.1)

module _ (names all : List Name) (are : AreNamesOf names all) where
  pub same_test : (name : Name) → list_any (same_name name) all ≡ list_any (same_name name) names
  same_test name =
      both_ways (list_any (same_name name) all) (list_any (same_name name) names)
      (λ e. list_any-from_Contains same_name_equiv name names ((are.members name).1 (Contains-from_any name_is name all e)))
      (λ e. list_any-from_Contains same_name_equiv name all ((are.members name).0 (Contains-from_any name_is name names e)))

  same_found : (name : Name) → find canonical_cmp name (paired all) ≡ find canonical_cmp name (paired names)
  same_found name =
      same_units (find canonical_cmp name (paired all)) (find canonical_cmp name (paired names)) (is_found name all ∙ same_test name ∙ sym (is_found name names))

  same_names : from_entries {R = canonical_cmp} (paired all) ≡ from_sorted {R = canonical_cmp} (paired names)
  same_names =
      same_map canonical_total one_name (from_entries {R = canonical_cmp} (paired all)) (from_sorted {R = canonical_cmp} (paired names))
      (λ name. get-from_entries canonical_total (paired all) name ∙ same_found name ∙ sym (get-from_sorted canonical_cmp (paired names) name (sorted_is names are.order)))

  -- there is one such list of names
  pub in_order : names ≡ names_in_order all
  in_order =
      sym (ap (λ (m : Names). keys m) same_names
      ∙ ap (map (λ (e : Name × Unit {0}). e.0)) (entries-from_sorted canonical_cmp (paired names) (sorted_is names are.order))
      ∙ unpaired names)

-- ---- reports

reported : (rs : List Record) (ds : List Delegation) → AllByRecursion (IsDelegation rs) ds → map report_of ds ≡ map (child_report rs) (map (λ (d : Delegation). d.child) ds)
reported rs [] all = refl
reported rs (d ∷ ds) all =
    let servers = all.0.2 ∙ ap (map (server_of rs d.child)) (in_order all.0.0 (server_names d.child rs) all.0.1) in
    λ i. record { child = d.child; servers = servers i } ∷ reported rs ds all.1 i

pub report_is : (origin : List (List ℕ)) (rs : List Record) (ds : List Delegation) → AreDelegations origin rs ds → map report_of ds ≡ report origin rs
report_is origin rs ds are = reported rs ds are.each ∙ ap (map (child_report rs)) (in_order (map (λ (d : Delegation). d.child) ds) (cut_owners origin rs) are.children)
