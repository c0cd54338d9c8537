-- Rows of groups of names, one group after the other, whatever the rows list.
use Rattle.std.proofs.Common.{◌≡◌, ◌⊎◌, inl, inr, ℕ, zero, suc, ◌+◌, ◌<◌, ◌≤◌, List, [], ◌∷◌, ◌++◌, length, get_or, take, refl, sym, ap, ◌∙◌, subst, ⊎_elim, arith, length-take, append_assoc}
use Rattle.std.specs.List.{Contains}
use Rattle.std.specs.declared.cmp.Ordering.TheVariants.{Less}
use Rattle.std.proofs.lemmas.List.{take_more, take_all, get_or-take, get_or_default}
use Rattle.std.proofs.lemmas.List.Concat.{flat_map-append}
use Rattle.std.proofs.lemmas.List.Elements.{All-nil, All-push, All-weaker, Contains-push, Contains-push_cases, Contains-append_left}
use Rattle.std.proofs.lemmas.List.Quantifiers.{all_pairs_push}
use Rattle.dns_names.specs.Labels.{IsName}
use Rattle.dns_names.specs.Order.{canonical_cmp}
use Rattle.policy_tools.specs.declared.name_groups.NameGroup.{NameGroup}
use Rattle.policy_tools.specs.declared.name_groups.NameGroup.TheVariants.{Exactly, Below}
use Rattle.grant_policy.specs.declared.rule.Rule.{Rule}
use Rattle.policy_tools.specs.NameGroups.{IsTop, top_of, IsInGroup, IsBefore, HasRowOf, AreTops, groups_of, AddsRowOf, AreRowsOf}
use Rattle.policy_tools.proofs.NameGroupLemmas.{one_group, group_near}

-- ---- the groups of tops

group_top : (tops : List (List (List ℕ))) (g : NameGroup) → Contains (groups_of tops) g → Contains tops (top_of g)
group_top [] g (k, lt, is) = absurd (omega (arith, lt))
group_top (top ∷ tops) g (zero, lt, is) = (0, omega arith, ap top_of is)
group_top (top ∷ tops) g (suc zero, lt, is) = (0, omega arith, ap top_of is)
group_top (top ∷ tops) g (suc (suc k), lt, is) = let r = group_top tops g (k, omega (arith, lt), is) in (suc r.0, omega (arith, r.1), r.2)

top_group : (tops : List (List (List ℕ))) (g : NameGroup) → Contains tops (top_of g) → Contains (groups_of tops) g
top_group [] g (k, lt, is) = absurd (omega (arith, lt))
top_group (top ∷ tops) (Exactly t) (zero, lt, is) = (0, omega arith, ap Exactly is)
top_group (top ∷ tops) (Below t) (zero, lt, is) = (1, omega arith, ap Below is)
top_group (top ∷ tops) g (suc k, lt, is) = let r = top_group tops g (k, omega (arith, lt), is) in (suc (suc r.0), omega (arith, r.1), r.2)

before_both : (g : NameGroup) (top : List (List ℕ)) → canonical_cmp (top_of g) top ≡ Less → IsBefore g (Exactly top) × IsBefore g (Below top)
before_both (Exactly a) top e = (e, inr e)
before_both (Below a) top e = (e, e)

module _ (rules : List Rule) (tops : List (List (List ℕ))) (are : AreTops rules tops) (n : ℕ) (top : List (List ℕ)) (lt : n < length tops) (is : top ≡ get_or tops n top) where
  earlier_less : (g : NameGroup) → Contains (groups_of (take n tops)) g → canonical_cmp (top_of g) top ≡ Less
  earlier_less g in' =
      let t = group_top (take n tops) g in' in
      let k = t.0 in
      let near : k < n = omega (arith, t.1, length-take n tops) in
      let at : get_or tops k (top_of g) ≡ top_of g = sym (get_or-take n tops k (top_of g) near) ∙ t.2 in
      let here : get_or tops n (top_of g) ≡ top = sym (is ∙ get_or_default tops n top (top_of g) lt) in
      subst (λ (x : List (List ℕ)). canonical_cmp (top_of g) x ≡ Less) here
      (subst (λ (x : List (List ℕ)). canonical_cmp x (get_or tops n (top_of g)) ≡ Less) at (are.ordered k n (top_of g) near lt))

  groups_more : groups_of (take (n + 1) tops) ≡ (groups_of (take n tops) ++ Exactly top ∷ []) ++ Below top ∷ []
  groups_more =
      ap groups_of (take_more tops n top lt ∙ ap (λ (t : List (List ℕ)). take n tops ++ t ∷ []) (sym is))
      ∙ flat_map-append (λ (t : List (List ℕ)). Exactly t ∷ Below t ∷ []) (take n tops) (top ∷ [])
      ∙ sym (append_assoc (groups_of (take n tops)) (Exactly top ∷ []) (Below top ∷ []))

  pub top_there : IsTop rules top × IsName top
  top_there = ((are.each top).0 (n, lt, sym is), subst IsName (sym is) (are.valid n top lt))

-- ---- rows

module _ {R : Type 0} (group_of : R → NameGroup) (IsRow : R → Type 0) (Lists : NameGroup → Type 0) (IsBare : List (List ℕ) → Type 0) (rules : List Rule) where
  abbrev Adds : NameGroup → List R → List R → Type 0
  Adds group old new = AddsRowOf group_of IsRow Lists IsBare rules group old new

  abbrev AreRows : List NameGroup → List R → Type 0
  AreRows groups rows = AreRowsOf group_of IsRow Lists IsBare rules groups rows

  row_later : (rows : List R) (row : R) (name : List (List ℕ)) → HasRowOf group_of rules rows name ⊎ IsBare name → HasRowOf group_of rules (rows ++ row ∷ []) name ⊎ IsBare name
  row_later rows row name (inl has) = inl (record { row = has.row; among = Contains-append_left rows (row ∷ []) has.row has.among; group = has.group })
  row_later rows row name (inr none) = inr none

  pub rows_none : AreRows [] []
  rows_none = record {
    rights = All-nil IsRow;
    lists = All-nil (λ (row : R). Lists (group_of row));
    done = λ group in'. absurd (omega (arith, in'.1));
    among = All-nil (λ (row : R). Contains [] (group_of row));
    ordered = λ i j d less lt. absurd (omega arith);
  }

  group_added : (groups : List NameGroup) (group : NameGroup) (old new : List R) → ((g : NameGroup) → Contains groups g → IsBefore g group) → Adds group old new → AreRows groups old → AreRows (groups ++ group ∷ []) new
  group_added groups group old new before (inl (same, none)) are = subst (AreRows (groups ++ group ∷ [])) (sym same) (record {
    rights = are.rights;
    lists = are.lists;
    done = λ g in'.
        ⊎_elim
        (λ (earlier : Contains groups g). are.done g earlier)
        (λ (here : group ≡ g). λ name is among. inr (none name is (subst (IsInGroup rules name) (sym here) among)))
        (Contains-push_cases groups group g in');
    among = All-weaker (λ (row : R). Contains groups (group_of row)) (λ (row : R). Contains (groups ++ group ∷ []) (group_of row)) (λ row in'. Contains-append_left groups (group ∷ []) (group_of row) in') old are.among;
    ordered = are.ordered;
  })
  group_added groups group old new before (inr (row, added, is, rights, some)) are = subst (AreRows (groups ++ group ∷ [])) (sym added) (record {
    rights = All-push IsRow old row are.rights rights;
    lists = All-push (λ (r : R). Lists (group_of r)) old row are.lists (subst Lists (sym is) some);
    done = λ g in'.
        ⊎_elim
        (λ (earlier : Contains groups g). λ name valid among. row_later old row name (are.done g earlier name valid among))
        (λ (here : group ≡ g). λ name valid among. inl (record { row = row; among = Contains-push old row; group = subst (IsInGroup rules name) (sym here ∙ sym is) among }))
        (Contains-push_cases groups group g in');
    among = All-push (λ (r : R). Contains (groups ++ group ∷ []) (group_of r)) old row
        (All-weaker (λ (r : R). Contains groups (group_of r)) (λ (r : R). Contains (groups ++ group ∷ []) (group_of r)) (λ r in'. Contains-append_left groups (group ∷ []) (group_of r) in') old are.among)
        (subst (Contains (groups ++ group ∷ [])) (sym is) (Contains-push groups group));
    ordered = all_pairs_push (λ (x y : R). IsBefore (group_of x) (group_of y)) old row are.ordered
        (λ k d lt. subst (IsBefore (group_of (get_or old k d))) (sym is) (before (group_of (get_or old k d)) (are.among k d lt)));
  })

  -- the rows of a top and of what is below it
  pub top_added : (tops : List (List (List ℕ))) (n : ℕ) (top : List (List ℕ)) (old middle new : List R) → AreTops rules tops → n < length tops → top ≡ get_or tops n top
      → Adds (Exactly top) old middle → Adds (Below top) middle new → AreRows (groups_of (take n tops)) old → AreRows (groups_of (take (n + 1) tops)) new
  top_added tops n top old middle new are lt is one other rows =
      subst (λ (l : List NameGroup). AreRows l new) (sym (groups_more rules tops are n top lt is))
      (group_added (groups_of (take n tops) ++ Exactly top ∷ []) (Below top) middle new below other
      (group_added (groups_of (take n tops)) (Exactly top) old middle (λ g in'. (before_both g top (earlier_less rules tops are n top lt is g in')).0) one rows))
    where
      below : (g : NameGroup) → Contains (groups_of (take n tops) ++ Exactly top ∷ []) g → IsBefore g (Below top)
      below g in' =
          ⊎_elim
          (λ (earlier : Contains (groups_of (take n tops)) g). (before_both g top (earlier_less rules tops are n top lt is g earlier)).1)
          (λ (here : Exactly top ≡ g). subst (λ (h : NameGroup). IsBefore h (Below top)) here (inl refl))
          (Contains-push_cases (groups_of (take n tops)) (Exactly top) g in')

  -- where all tops are done, each name has a row or none is wanted
  pub rows_complete : (tops : List (List (List ℕ))) (n : ℕ) (rows : List R) → AreTops rules tops → length tops ≤ n → AreRows (groups_of (take n tops)) rows → (name : List (List ℕ)) → IsName name → HasRowOf group_of rules rows name ⊎ IsBare name
  rows_complete tops n rows are all rows' name is =
      let one = one_group rules name in
      rows'.done one.group (subst (λ (l : List (List (List ℕ))). Contains (groups_of l) one.group) (sym (take_all n tops all)) (top_group tops one.group ((are.each (top_of one.group)).1 (group_near rules name one.group one.among).at))) name is one.among
