-- The outermost cut at or above a name.
use Rattle.std.proofs.Common.{◌≡◌, ◌⊎◌, ℕ, ◌+◌, ◌<◌, ◌≤◌, List, [], ◌∷◌, ◌++◌, length, get_or, Bool, true, false, cond, Option, Some, None, is_some, refl, sym, ap, subst, ◌∙◌, arith, length-append, inl, inr}
use Rattle.std.specs.declared.cmp.Ordering.TheVariants.{Less}
use Rattle.std.specs.Ordering.{is_lt}
use Rattle.std.specs.Bool.{Decides}
use Rattle.std.specs.Option.{option_or}
use Rattle.std.specs.List.{Contains, find}
use Rattle.std.specs.List.Sorted.{IsSorted, IsStrictlySortedBy}
use Rattle.std.proofs.lemmas.Bool.{cases_lt}
use Rattle.std.proofs.lemmas.List.{get_or_default, nil_from_length}
use Rattle.std.proofs.lemmas.Map.Keys.{Less-from_sorted}
use Rattle.dns_names.specs.Labels.{IsWithin, is_within}
use Rattle.dns_names.specs.Order.{canonical_cmp, same_name}
use Rattle.dns_names.proofs.NameLemmas.{is_within-Decides}
use Rattle.dns_data.specs.declared.record.Record.{Record}
use Rattle.zone_core.specs.Outermost.{AreApart}
use Rattle.zone_core.specs.Delegations.{cut_owners, IsCutAt}
use Rattle.zone_core.proofs.SetLemmas.{name_is, name_self}
use Rattle.zone_core.proofs.WithinLemmas.{not_before}
use Rattle.zone_core.proofs.MetLemmas.{Among, among_of, of_among, any_is, is_any}
use Rattle.zone_core.proofs.BelowLemmas.{no_test, within_itself, within_within, is_within_itself, not_behind}
use Rattle.zone_core.proofs.CoverLemmas.{found_any}
use Rattle.zone_core.proofs.ReportLemmas.{cut_is}
use Rattle.zone_answers.specs.Answers.{Name, IsCutOver}
use Rattle.zone_answers.specs.AnswerTests.{is_cut_at, cut_over, AreTopCuts}

-- ---- names within names

-- names within each other are one
pub within_both : (a b : Name) → IsWithin a b → IsWithin b a → a ≡ b
within_both a b p q = by_front p.0 p.1
  where
    longer : length a ≤ length b
    longer = omega (arith, ap length q.1, length-append q.0 a)

    by_front : (front : Name) → a ≡ front ++ b → a ≡ b
    by_front [] e = e
    by_front (l ∷ front) e = absurd (omega (arith, longer, ap length e, length-append front b))

-- of two names that a name is within one is within the other
pub in_turn : (name a b : Name) → IsWithin name a → IsWithin name b → IsWithin a b ⊎ IsWithin b a
in_turn name a b p q = by_fronts name p.0 q.0 p.1 q.1
  where
    by_fronts : (name f g : Name) → name ≡ f ++ a → name ≡ g ++ b → IsWithin a b ⊎ IsWithin b a
    by_fronts name [] g d e = inl (g, sym d ∙ e)
    by_fronts name (x ∷ f) [] d e = inr (x ∷ f, sym e ∙ d)
    by_fronts [] (x ∷ f) (y ∷ g) d e = absurd cc
    by_fronts (n ∷ name) (x ∷ f) (y ∷ g) d e =
        let first : name ≡ f ++ a = cc in
        let second : name ≡ g ++ b = cc in
        by_fronts name f g first second

-- the root is within itself only
pub within_root : (top : Name) → IsWithin [] top → top ≡ []
within_root top p = nil_from_length top (omega (arith, ap (length {A = List ℕ}) p.1, length-append p.0 top))

-- a name with one label more is within that name, or it is the other
pub within_or_is : (label : List ℕ) (labels top : Name) → IsWithin (label ∷ labels) top → (top ≡ label ∷ labels) ⊎ IsWithin labels top
within_or_is label labels top p = by_front p.0 p.1
  where
    by_front : (front : Name) → label ∷ labels ≡ front ++ top → (top ≡ label ∷ labels) ⊎ IsWithin labels top
    by_front [] e = inl (sym e)
    by_front (f ∷ front) e = let rest : labels ≡ front ++ top = cc in inr (front, rest)

pub one_more : (label : List ℕ) (labels top : Name) → IsWithin labels top → IsWithin (label ∷ labels) top
one_more label labels top p = (label ∷ p.0, ap (λ (n : Name). label ∷ n) p.1)

-- names that each come before the next are sorted
pub sorted_names : (names : List Name) → IsStrictlySortedBy canonical_cmp names → IsSorted canonical_cmp names
sorted_names names order k d p q =
    not_behind (get_or names k d) (get_or names (k + 1) d) (Less-from_sorted canonical_cmp names k (k + 1) d order (omega arith) (omega arith))

-- ---- the first that passes

pub found_is : {X : Type 0} (p : X → Bool) (xs : List X) (x : X) → find p xs ≡ Some x → Among x xs × (p x ≡ true)
found_is p [] x e = absurd cc
found_is {X} p (y ∷ ys) x e = by_test (p y) refl e (found_is p ys x)
  where
    by_test : (b : Bool) → p y ≡ b → cond b (Some y) (find p ys) ≡ Some x → (find p ys ≡ Some x → Among x ys × (p x ≡ true)) → Among x (y ∷ ys) × (p x ≡ true)
    by_test true t f later = let same : y ≡ x = cc in (inl (sym same), ap p (sym same) ∙ t)
    by_test false t f later = let found = later f in (inr found.0, found.1)

-- ---- names apart

module _ (names : List Name) (apart : AreApart names) where
  -- two of them of which one is within the other are one
  one_of : (a b : Name) → Among a names → Among b names → is_within a b ≡ true → a ≡ b
  one_of a b p q inside =
      let i = of_among names a p in
      let j = of_among names b q in
      by_places i.0 j.0 i.1 j.1 i.2 j.2
    where
      by_places : (i j : ℕ) → i < length names → j < length names → get_or names i a ≡ a → get_or names j b ≡ b → a ≡ b
      by_places i j p q e f = (elim (cases_lt i j) [
        | inl before ↦
            (let there : get_or names j a ≡ b = get_or_default names j a b q ∙ f in
            let lt : canonical_cmp a b ≡ Less = sym (λ k. canonical_cmp (e k) (there k)) ∙ (apart i j a before q).0 in
            no_test (is_within a b) inside (not_before b a (ap is_lt lt)))
        | inr after ↦ (elim (cases_lt j i) [
          | inl behind ↦
              (let there : get_or names i b ≡ a = get_or_default names i b a p ∙ e in
              no_test (is_within a b) inside (sym (λ k. is_within (there k) (f k)) ∙ (apart j i b behind p).1))
          | inr same ↦
              (let there : get_or names j a ≡ b = get_or_default names j a b q ∙ f in
              let eq : i ≡ j = omega arith in
              sym e ∙ ap (λ k. get_or names k a) eq ∙ there)
        ])
      ])

-- ---- the cut over a name

module _ (origin : Name) (rs : List Record) where
  pub cut-Decides : (name : Name) → Decides (is_cut_at origin rs name) (IsCutAt origin rs name)
  cut-Decides name = (
    λ e.
        let found = any_is (same_name name) (cut_owners origin rs) e in
        let same : name ≡ found.0 = name_is name found.0 found.2 in
        subst (IsCutAt origin rs) (sym same) ((cut_is origin found.0 rs).0 (of_among (cut_owners origin rs) found.0 found.1)),
    λ cut. is_any (same_name name) (cut_owners origin rs) name (among_of (cut_owners origin rs) name ((cut_is origin name rs).1 cut)) (name_self name),
  )

  -- two outermost cuts over a name are one
  pub one_over : (name a b : Name) → IsCutOver origin rs name a → IsCutOver origin rs name b → a ≡ b
  one_over name a b p q = within_both a b (q.outermost a p.here p.over) (p.outermost b q.here q.over)

  -- what is said of a cut over a name: it is that, or there is none
  abbrev pub IsOver : Name → Option Name → Type 0
  IsOver name None = (cut : Name) → IsCutAt origin rs cut → ¬ IsWithin name cut
  IsOver name (Some cut) = IsCutOver origin rs name cut

  pub over_is : (name : Name) → IsOver name (cut_over origin rs name)
  over_is [] = λ cut is over.
      let below = is.0 in
      let root : cut ≡ [] = within_root cut over in
      let top : origin ≡ [] = within_root origin (subst (λ (n : Name). IsWithin n origin) root below.0) in
      below.1 (root ∙ sym top)
  over_is (label ∷ labels) = by_upper (cut_over origin rs labels) (over_is labels)
    where
      here : Option Name
      here = cond (is_cut_at origin rs (label ∷ labels)) (Some (label ∷ labels)) None

      by_upper : (upper : Option Name) → IsOver labels upper → IsOver (label ∷ labels) (option_or upper here)
      by_upper (Some cut) is = record {
        here = is.here;
        over = one_more label labels cut is.over;
        outermost = λ other cuts over. (elim (within_or_is label labels other over) [
          | inl same ↦ subst (λ (n : Name). IsWithin n cut) (sym same) (one_more label labels cut is.over)
          | inr above ↦ is.outermost other cuts above
        ]);
      }
      by_upper None none = by_test (is_cut_at origin rs (label ∷ labels)) refl
        where
          by_test : (b : Bool) → is_cut_at origin rs (label ∷ labels) ≡ b → IsOver (label ∷ labels) (cond b (Some (label ∷ labels)) None)
          by_test true t = record {
            here = (cut-Decides (label ∷ labels)).0 t;
            over = within_itself (label ∷ labels);
            outermost = λ other cuts over. (elim (within_or_is label labels other over) [
              | inl same ↦ subst (λ (n : Name). IsWithin n (label ∷ labels)) (sym same) (within_itself (label ∷ labels))
              | inr above ↦ absurd (none other cuts above)
            ]);
          }
          by_test false t = λ cut cuts over. (elim (within_or_is label labels cut over) [
            | inl same ↦ no_test (is_cut_at origin rs (label ∷ labels)) (ap (is_cut_at origin rs) (sym same) ∙ (cut-Decides cut).1 cuts) t
            | inr above ↦ none cut cuts above
          ])

  pub is_over : (name : Name) (o : Option Name) → IsOver name o → o ≡ cut_over origin rs name
  is_over name o p = by_other o (cut_over origin rs name) p (over_is name)
    where
      by_other : (a b : Option Name) → IsOver name a → IsOver name b → a ≡ b
      by_other None None p q = refl
      by_other None (Some b) p q = absurd (p b q.here q.over)
      by_other (Some a) None p q = absurd (q a p.here p.over)
      by_other (Some a) (Some b) p q = ap Some (one_over name a b p q)

  -- ---- among the cuts that are within no other

  module _ (cuts : List Name) (top : AreTopCuts origin rs cuts) (name : Name) where
    top_is : (cut : Name) → Among cut cuts → IsCutAt origin rs cut
    top_is cut a =
        let place = of_among cuts cut a in
        let listed : Contains top.all cut = subst (Contains top.all) place.2 (top.tops.each place.0 cut place.1) in
        (cut_is origin cut rs).0 ((top.names.members cut).0 listed)

    over_top : (cut : Name) → IsCutAt origin rs cut → (t : Name) × Among t cuts × IsWithin cut t
    over_top cut is =
        let listed = among_of top.all cut ((top.names.members cut).1 ((cut_is origin cut rs).1 is)) in
        let found = any_is (λ t. is_within cut t) cuts (top.tops.covers cut ∙ is_any (λ t. is_within cut t) top.all cut listed (is_within_itself cut)) in
        (found.0, found.1, (is_within-Decides cut found.0).0 found.2)

    pub tops_over : find (λ cut. is_within name cut) cuts ≡ cut_over origin rs name
    tops_over = is_over name (find (λ cut. is_within name cut) cuts) (by_found (find (λ cut. is_within name cut) cuts) refl)
      where
        by_found : (o : Option Name) → find (λ cut. is_within name cut) cuts ≡ o → IsOver name o
        by_found None e = λ cut is over.
            let above = over_top cut is in
            let passes : is_within name above.0 ≡ true = (is_within-Decides name above.0).1 (within_within name cut above.0 over above.2) in
            no_test (is_some (find (λ cut. is_within name cut) cuts)) (found_any (λ cut. is_within name cut) cuts ∙ is_any (λ cut. is_within name cut) cuts above.0 above.1 passes) (ap is_some e)
        by_found (Some cut) e =
            let found = found_is (λ cut. is_within name cut) cuts cut e in
            let over = (is_within-Decides name cut).0 found.1 in
            record {
              here = top_is cut found.0;
              over = over;
              outermost = λ other is below.
                  let above = over_top other is in
                  let both = in_turn name cut above.0 over (within_within name other above.0 below above.2) in
                  let one : cut ≡ above.0 = (elim both [
                    | inl up ↦ one_of cuts top.tops.apart cut above.0 found.0 above.1 ((is_within-Decides cut above.0).1 up)
                    | inr down ↦ sym (one_of cuts top.tops.apart above.0 cut above.1 found.0 ((is_within-Decides above.0 cut).1 down))
                  ]) in
                  subst (λ (n : Name). IsWithin other n) (sym one) above.2;
            }
