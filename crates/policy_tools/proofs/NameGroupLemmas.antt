-- Who may do what in each group of names.
use Rattle.std.proofs.Common.{◌≡◌, ◌≢◌, ◌↔◌, ◌⊎◌, inl, inr, ℕ, zero, suc, ◌+◌, ◌<◌, ◌≤◌, Bool, true, false, cond, List, [], ◌∷◌, ◌++◌, length, map, get_or, take, None, Result, Ok, Err, OnOk, refl, sym, ap, ◌∙◌, subst, ⊎_elim, arith, length-append, append_assoc}
use Rattle.std.specs.List.{All, AllPairs, Contains, dedup, list_any}
use Rattle.std.specs.List.Sorted.{IsPermutation, IsSorted, IsStrictlySortedBy}
use Rattle.std.specs.List.Retain.{IsFiltered, DiffersFromLast}
use Rattle.std.specs.declared.cmp.Ordering.TheVariants.{Less}
use Rattle.std.proofs.lemmas.Bool.{false≢true, false_from_ne_true, true_from_ne_false, both_ways}
use Rattle.std.proofs.lemmas.List.{append-nil, length-map, map_push, take_more}
use Rattle.std.proofs.lemmas.List.Elements.{All-contains, All-filter, All-contains_itself}
use Rattle.std.proofs.lemmas.List.Filters.{dedup_is, All-dedup}
use Rattle.std.proofs.lemmas.List.Folds.{Any-from_list_any}
use Rattle.std.proofs.lemmas.List.Kept.{AllPairs-cons, Contains-dedup, Contains-from_dedup, IsStrictlySortedBy-dedup}
use Rattle.std.proofs.lemmas.List.Sorted.{All-permutation, Contains-permutation, IsPermutation-sym}
use Rattle.std.proofs.lemmas.Map.Keys.{sorted_tail}
use Rattle.std.proofs.lemmas.Map.Views.{All-after_first}
use Rattle.std.proofs.lemmas.Slice.Eq.{bytes_eq-Decides}
use Rattle.dns_names.specs.Labels.{IsName, IsWithin}
use Rattle.dns_names.specs.Order.{canonical_cmp, same_name, canonical_total, same_name_equiv}
use Rattle.dns_data.specs.declared.record_type.RecordType.{RecordType}
use Rattle.dns_data.specs.Types.{kept_types}
use Rattle.dns_data.proofs.KeptLaws.{some_type}
use Rattle.grant_policy.specs.declared.action.Action.{Action}
use Rattle.grant_policy.specs.declared.callers.Callers.{Callers}
use Rattle.grant_policy.specs.declared.callers.Callers.TheVariants.{One}
use Rattle.policy_tools.specs.declared.claims.Claim.{Claim}
use Rattle.policy_tools.specs.declared.name_groups.GroupRights.{GroupRights}
use Rattle.policy_tools.specs.declared.name_groups.NameGroup.{NameGroup}
use Rattle.policy_tools.specs.declared.name_groups.NameGroup.TheVariants.{Exactly, Below}
use Rattle.policy_tools.specs.declared.name_rights.CallerRights.{CallerRights}
use Rattle.policy_tools.specs.declared.name_rights.NameRights.{NameRights}
use Rattle.grant_policy.specs.declared.rule.Rule.{Rule}
use Rattle.grant_policy.specs.Identifiers.{IsIdentifier}
use Rattle.grant_policy.specs.Scopes.{covers}
use Rattle.grant_policy.specs.Words.{all_actions}
use Rattle.policy_tools.specs.Points.{has_point, Meet, Differ}
use Rattle.policy_tools.specs.Taking.{AreCallers}
use Rattle.policy_tools.specs.Claims.{IsClaim, rules_of}
use Rattle.grant_policy.specs.Isolated.{IsGranted}
use Rattle.policy_tools.specs.Representatives.{AreAlike}
use Rattle.policy_tools.specs.FreeNames.{IsFreeBelow, IsFreeChild}
use Rattle.policy_tools.specs.NameRights.{rules_at, IsNamedIn, IsNamedBefore, listed_of, AreRightsAt, HasNoRights, IsListed}
use Rattle.policy_tools.specs.NameGroups.{IsTop, top_of, IsInGroup, IsInOneGroup, HasGrant, HasNoGrant, AreTops, AddsGroup, PushesRow}
use Rattle.grant_policy.proofs.ScopeLemmas.{same_name-Decides, within_self, within_cons}
use Rattle.policy_tools.proofs.CallerLemmas.{names, free_identifier}
use Rattle.grant_policy.proofs.DecisionLaws.{some_action}
use Rattle.policy_tools.proofs.ClaimLemmas.{from_map, in_map}
use Rattle.policy_tools.proofs.RepresentativeLemmas.{within_longer, IsNearest, nearest, below_alike, none_below}
use Rattle.policy_tools.proofs.IsolatedLemmas.{decision_alike}
use Rattle.policy_tools.proofs.NameRightLemmas.{looked_up}

-- ---- groups

within_both : (a b : List (List ℕ)) → IsWithin a b → IsWithin b a → a ≡ b
within_both a b ([], e) w = e
within_both a b (label ∷ front, e) w = absurd (omega (arith, within_longer b a w, ap (length {A = List ℕ}) e, length-append (label ∷ front) b))

-- the nearest top at or above a name
pub record IsNear (rules : List Rule) (name top : List (List ℕ)) : Type 0 where
  pub at : IsTop rules top
  pub within : IsWithin name top
  pub near : (other : List (List ℕ)) → IsTop rules other → IsWithin name other → IsWithin top other

near_one : (rules : List Rule) (name a b : List (List ℕ)) → IsNear rules name a → IsNear rules name b → a ≡ b
near_one rules name a b na nb = within_both a b (na.near b nb.at nb.within) (nb.near a na.at na.within)

pub group_near : (rules : List Rule) (name : List (List ℕ)) (group : NameGroup) → IsInGroup rules name group → IsNear rules name (top_of group)
group_near rules name (Exactly top) (at, is) = record {
  at = at;
  within = subst (λ (n : List (List ℕ)). IsWithin n top) (sym is) (within_self top);
  near = λ other at' w. subst (λ (n : List (List ℕ)). IsWithin n other) is w;
}
group_near rules name (Below top) (at, below, near) = record { at = at; within = below.0; near = near }

only_group : (rules : List Rule) (name : List (List ℕ)) (g h : NameGroup) → IsInGroup rules name g → IsInGroup rules name h → h ≡ g
only_group rules name g h ig ih = by g h ig ih (near_one rules name (top_of h) (top_of g) (group_near rules name h ih) (group_near rules name g ig))
  where
    by : (g h : NameGroup) → IsInGroup rules name g → IsInGroup rules name h → top_of h ≡ top_of g → h ≡ g
    by (Exactly a) (Exactly b) ig ih e = ap Exactly e
    by (Exactly a) (Below b) ig ih e = absurd (ih.1.1 (ig.1 ∙ sym e))
    by (Below a) (Exactly b) ig ih e = absurd (ig.1.1 (ih.1 ∙ e))
    by (Below a) (Below b) ig ih e = ap Below e

all_tops : (rules : List Rule) (name top : List (List ℕ)) → IsNearest rules name top → (other : List (List ℕ)) → IsTop rules other → IsWithin name other → IsWithin top other
all_tops rules name top n other (inl e) w = (top, sym (ap (λ (o : List (List ℕ)). top ++ o) e ∙ append-nil top))
all_tops rules name top n other (inr (rule, in', e)) w = subst (IsWithin top) e (n.nearest rule in' (subst (IsWithin name) (sym e) w))

pub one_group : (rules : List Rule) (name : List (List ℕ)) → IsInOneGroup rules name
one_group rules name = by (nearest rules name)
  where
    in_group : (top : List (List ℕ)) → IsNearest rules name top → IsWithin name top → (g : NameGroup) × IsInGroup rules name g
    in_group top n ([], e) = (Exactly top, (n.at, e))
    in_group top n (label ∷ front, e) = (Below top, (n.at, (n.within, λ same. absurd (omega (arith, ap (length {A = List ℕ}) (sym same ∙ e), length-append (label ∷ front) top))), all_tops rules name top n))

    by : (top : List (List ℕ)) × IsNearest rules name top → IsInOneGroup rules name
    by (top, n) = let g = in_group top n n.within in record { group = g.0; among = g.1; only = λ other among. only_group rules name g.0 other g.1 among }

-- ---- names of a group

pub exactly_alike : (rules : List Rule) (name top : List (List ℕ)) → IsInGroup rules name (Exactly top) → AreAlike rules name top
exactly_alike rules name top is rule in' = ap (covers rule.scope rule.at) is.1

split : (rules : List Rule) (name top : List (List ℕ)) → IsInGroup rules name (Below top) → (label : List ℕ) × (front : List (List ℕ)) × (name ≡ (label ∷ front) ++ top) × IsNearest rules name top
split rules name top (at, below, near) = by below.0
  where
    by : IsWithin name top → (label : List ℕ) × (front : List (List ℕ)) × (name ≡ (label ∷ front) ++ top) × IsNearest rules name top
    by ([], e) = absurd (below.1 e)
    by (label ∷ front, e) = (label, front, e, record { within = below.0; at = at; nearest = λ rule in' w. near rule.at (inr (rule, in', refl)) w })

pub child_alike : (rules : List Rule) (name top child : List (List ℕ)) → IsFreeBelow rules top child → IsInGroup rules name (Below top) → AreAlike rules name child
child_alike rules name top child free is =
    let s = split rules name top is in
    subst (λ (n : List (List ℕ)). AreAlike rules n child) (sym s.2) (below_alike rules s.0 s.1 top child (subst (λ (n : List (List ℕ)). IsNearest rules n top) s.2 s.3) free)

pub child_among : (rules : List Rule) (top child : List (List ℕ)) → IsTop rules top → IsFreeBelow rules top child → IsInGroup rules child (Below top)
child_among rules top child at free = (at, (above, λ same. absurd (omega (arith, ap (length {A = List ℕ}) (sym same ∙ free.is)))), near)
  where
    above : IsWithin child top
    above = (free.label ∷ [], free.is)

    taken : (other : List (List ℕ)) → IsTop rules other → other ≡ free.label ∷ top → ⊥
    taken other (inl e) is = absurd (omega (arith, ap (length {A = List ℕ}) (sym e ∙ is)))
    taken other (inr (rule, in', e)) is = free.free rule in' (e ∙ is ∙ sym free.is)

    near : (other : List (List ℕ)) → IsTop rules other → IsWithin child other → IsWithin top other
    near other at' w =
        ⊎_elim
        (λ (here : other ≡ free.label ∷ top). absurd (taken other at' here))
        (λ (up : IsWithin top other). up)
        (within_cons free.label top other (subst (λ (n : List (List ℕ)). IsWithin n other) free.is w))

pub no_child : (rules : List Rule) (top : List (List ℕ)) → IsFreeChild rules top None → (name : List (List ℕ)) → IsName name → IsInGroup rules name (Below top) → ⊥
no_child rules top none name is among =
    let s = split rules name top among in
    none_below rules s.0 s.1 top (subst (λ (n : List (List ℕ)). IsNearest rules n top) s.2 s.3) (subst IsName s.2 is) none

-- ---- rights at names that are alike

rules_alike : (rules : List Rule) (name other : List (List ℕ)) → AreAlike rules name other → rules_at rules name ≡ rules_at rules other
rules_alike [] name other alike = refl
rules_alike (rule ∷ rules) name other alike =
    ap (λ (b : Bool). cond b (rule ∷ rules_at rules name) (rules_at rules name)) (alike rule (0, omega arith, refl))
    ∙ ap (λ (l : List Rule). cond (covers rule.scope rule.at other) (rule ∷ l) l) (rules_alike rules name other (λ r in'. alike r (suc in'.0, omega (arith, in'.1), in'.2)))

grant_alike : (rules : List Rule) (name other : List (List ℕ)) → AreAlike rules name other → (caller : List ℕ) (t : RecordType) (a : Action) → IsGranted rules caller name t a ↔ IsGranted rules caller other t a
grant_alike rules name other alike caller t a =
    let same = decision_alike rules caller t a name other alike in
    (λ g. (g.0, sym same ∙ g.1), λ g. (g.0, same ∙ g.1))

pub rights_alike : (rules : List Rule) (name other : List (List ℕ)) (rights : NameRights) → AreAlike rules name other → AreRightsAt rules other rights → AreRightsAt rules name rights
rights_alike rules name other rights alike are = record {
  granted = λ caller t a. let same = grant_alike rules name other alike caller t a in (λ has. same.1 ((are.granted caller t a).0 has), λ g. (are.granted caller t a).1 (same.0 g));
  apart = are.apart;
  named = subst (λ (l : List Rule). All (λ (row : CallerRights). IsNamedIn l row.caller) rights.named.items) (sym (rules_alike rules name other alike)) are.named;
  ordered = subst (λ (l : List Rule). AllPairs (λ (x y : CallerRights). IsNamedBefore l x.caller y.caller) rights.named.items) (sym (rules_alike rules name other alike)) are.ordered;
}

-- ---- whether something is granted

-- nothing is granted at the names of a group where nothing is listed
pub none_granted : (rules : List Rule) (name : List (List ℕ)) (rights : NameRights) → AreRightsAt rules name rights → HasNoRights rights → HasNoGrant rules name
none_granted rules name rights are none caller t a g =
    let has = (are.granted caller t a).1 g in
    let others : listed_of rights.named.items rights.others caller ≡ rights.others = ap (λ (l : List CallerRights). listed_of l rights.others caller) none.named in
    both_ways (has_point rights.others t a) (none.others t a) (sym (ap (λ (n : ℕ). has_point n t a) others) ∙ has)

-- some pair is in a set, or none is
pub pair_or_none : (n : ℕ) → Meet n n ⊎ ((t : RecordType) (a : Action) → has_point n t a ≡ false)
pair_or_none n = by (list_any (λ (t : RecordType). list_any (has_point n t) all_actions) kept_types) refl
  where
    by : (b : Bool) → list_any (λ (t : RecordType). list_any (has_point n t) all_actions) kept_types ≡ b → Meet n n ⊎ ((t : RecordType) (a : Action) → has_point n t a ≡ false)
    by true e =
        let t = Any-from_list_any (λ (t : RecordType). list_any (has_point n t) all_actions) kept_types e in
        let a = Any-from_list_any (has_point n t.1) all_actions t.4 in
        inl (record { record_type = t.1; action = a.1; in_one = a.4; in_other = a.4 })
    by false e =
        inr (λ t a. false_from_ne_true (has_point n t a) (λ has. false≢true (sym e ∙ some_type (λ (t : RecordType). list_any (has_point n t) all_actions) t (some_action (has_point n t) a has))))

some_pair : (n : ℕ) → (((t : RecordType) (a : Action) → has_point n t a ≡ false) → ⊥) → Meet n n
some_pair n some = ⊎_elim (λ (pair : Meet n n). pair) (λ (none : (t : RecordType) (a : Action) → has_point n t a ≡ false). absurd (some none)) (pair_or_none n)

-- what rules name is an identifier
module _ (rules : List Rule) (callers : (rule : Rule) → Contains rules rule → AreCallers rule.callers) (name : List (List ℕ)) where
  pub rule_of_caller : (caller : List ℕ) → IsNamedIn (rules_at rules name) caller → (rule : Rule) × Contains rules rule × (rule.callers ≡ One caller)
  rule_of_caller caller in' =
      let found = from_map (λ (r : Rule). r.callers) (rules_at rules name) (One caller) in' in
      (found.0, All-contains (Contains rules) (rules_at rules name) found.0 (All-filter (λ (r : Rule). covers r.scope r.at name) (Contains rules) rules (All-contains_itself rules)) found.1, found.2)

  pub is_identifier : (caller : List ℕ) → IsNamedIn (rules_at rules name) caller → IsIdentifier caller
  is_identifier caller in' = let r = rule_of_caller caller in' in subst AreCallers r.2 (callers r.0 r.1)

module _ (rules : List Rule) (few : length rules ≤ 1024) (callers : (rule : Rule) → Contains rules rule → AreCallers rule.callers) (name : List (List ℕ)) (rights : NameRights) (are : AreRightsAt rules name rights) where
  -- what all others have is granted to an identifier that no rule names
  others_have : Meet rights.others rights.others → (caller : List ℕ) × IsIdentifier caller × ((t : RecordType) × (a : Action) × IsGranted rules caller name t a)
  others_have m = (free.0, free.1, (m.record_type, m.action, (are.granted free.0 m.record_type m.action).0 (ap (λ (n : ℕ). has_point n m.record_type m.action) (by (looked_up rights.named.items rights.others free.0)) ∙ m.in_one)))
    where
      free : (identifier : List ℕ) × IsIdentifier identifier × ((own : Callers) → Contains (map (λ (r : Rule). r.callers) rules) own → names identifier own ≡ false)
      free = free_identifier (map (λ (r : Rule). r.callers) rules) (omega (arith, few, length-map rules (λ (r : Rule). r.callers)))

      unlisted : (row : CallerRights) → Contains rights.named.items row → row.caller ≢ free.0
      unlisted row in' is =
          let named = All-contains (λ (x : CallerRights). IsNamedIn (rules_at rules name) x.caller) rights.named.items row are.named in' in
          let r = rule_of_caller rules callers name row.caller named in
          let no' = free.2 (One row.caller) (subst (Contains (map (λ (x : Rule). x.callers) rules)) r.2 (in_map (λ (x : Rule). x.callers) rules r.0 r.1)) in
          false≢true (sym no' ∙ (bytes_eq-Decides row.caller free.0).1 is)

      by : ((row : CallerRights) × Contains rights.named.items row × (row.caller ≡ free.0) × (listed_of rights.named.items rights.others free.0 ≡ row.rights)) ⊎ ((¬ IsListed rights.named.items free.0) × (listed_of rights.named.items rights.others free.0 ≡ rights.others)) → listed_of rights.named.items rights.others free.0 ≡ rights.others
      by (inl (row, in', of, is)) = absurd (unlisted row in' of)
      by (inr (none, is)) = is

  some_grant : ¬ HasNoRights rights → (caller : List ℕ) × IsIdentifier caller × ((t : RecordType) × (a : Action) × IsGranted rules caller name t a)
  some_grant some = by rights.named.items refl
    where
      by : (rows : List CallerRights) → rights.named.items ≡ rows → (caller : List ℕ) × IsIdentifier caller × ((t : RecordType) × (a : Action) × IsGranted rules caller name t a)
      by [] e = others_have (some_pair rights.others (λ none. some (record { named = e; others = none })))
      by (row ∷ rows) e = first (has_point row.rights d.record_type d.action) refl
        where
          in' : Contains rights.named.items row
          in' = subst (λ (l : List CallerRights). Contains l row) (sym e) (0, omega arith, refl)

          d : Differ row.rights rights.others
          d = All-contains (λ (x : CallerRights). Differ x.rights rights.others) rights.named.items row are.apart in'

          own : listed_of rights.named.items rights.others row.caller ≡ row.rights
          own =
              ap (λ (l : List CallerRights). listed_of l rights.others row.caller) e
              ∙ ap (λ (b : Bool). cond b row.rights (listed_of rows rights.others row.caller)) ((bytes_eq-Decides row.caller row.caller).1 refl)

          first : (b : Bool) → has_point row.rights d.record_type d.action ≡ b → (caller : List ℕ) × IsIdentifier caller × ((t : RecordType) × (a : Action) × IsGranted rules caller name t a)
          first true has = (
            row.caller,
            is_identifier rules callers name row.caller (All-contains (λ (x : CallerRights). IsNamedIn (rules_at rules name) x.caller) rights.named.items row are.named in'),
            (d.record_type, d.action, (are.granted row.caller d.record_type d.action).0 (ap (λ (n : ℕ). has_point n d.record_type d.action) own ∙ has)),
          )
          first false has =
              let theirs : has_point rights.others d.record_type d.action ≡ true = true_from_ne_false (has_point rights.others d.record_type d.action) (λ no'. d.differ (has ∙ sym no')) in
              others_have (record { record_type = d.record_type; action = d.action; in_one = theirs; in_other = theirs })

-- ---- tops

strict_pairs : (xs : List (List (List ℕ))) → IsStrictlySortedBy canonical_cmp xs → AllPairs (λ x y. canonical_cmp x y ≡ Less) xs
strict_pairs [] s = λ i j d less lt. absurd (omega (arith, lt))
strict_pairs (x ∷ xs) s = AllPairs-cons (λ (a b : List (List ℕ)). canonical_cmp a b ≡ Less) x xs (All-after_first canonical_cmp x xs s) (strict_pairs xs (sorted_tail canonical_cmp x xs s))

top_from : (rules : List Rule) (top : List (List ℕ)) → Contains ([] ∷ map (λ (r : Rule). r.at) rules) top → IsTop rules top
top_from rules top (zero, lt, is) = inl (sym is)
top_from rules top (suc k, lt, is) = inr (from_map (λ (r : Rule). r.at) rules top (k, omega (arith, lt), is))

top_to : (rules : List Rule) (top : List (List ℕ)) → IsTop rules top → Contains ([] ∷ map (λ (r : Rule). r.at) rules) top
top_to rules top (inl e) = (0, omega arith, sym e)
top_to rules top (inr (rule, in', e)) =
    let m = subst (Contains (map (λ (r : Rule). r.at) rules)) e (in_map (λ (r : Rule). r.at) rules rule in') in
    (suc m.0, omega (arith, m.1), m.2)

pub tops_are : (rules : List Rule) (named sorted tops : List (List (List ℕ))) → named ≡ [] ∷ map (λ (r : Rule). r.at) rules → All IsName named → IsPermutation named sorted → IsSorted canonical_cmp sorted → IsFiltered (DiffersFromLast same_name) [] sorted tops → AreTops rules tops
tops_are rules named sorted tops is valid moved up kept = record {
  valid = subst (All IsName) (sym kept_is) (All-dedup same_name IsName sorted (All-permutation IsName named sorted moved valid));
  each = λ top. (
    λ in'. top_from rules top (subst (λ (l : List (List (List ℕ))). Contains l top) is (Contains-permutation sorted named top (IsPermutation-sym named sorted moved) (Contains-from_dedup same_name sorted top (subst (λ (l : List (List (List ℕ))). Contains l top) kept_is in')))),
    λ at. subst (λ (l : List (List (List ℕ))). Contains l top) (sym kept_is) (Contains-dedup same_name_equiv (λ x y e. (same_name-Decides x y).0 e) sorted top (Contains-permutation named sorted top moved (subst (λ (l : List (List (List ℕ))). Contains l top) (sym is) (top_to rules top at)))),
  );
  ordered = strict_pairs tops (subst (IsStrictlySortedBy canonical_cmp) (sym kept_is) (IsStrictlySortedBy-dedup canonical_total (λ x y. refl) sorted up));
}
  where
    kept_is : tops ≡ dedup same_name sorted
    kept_is = dedup_is same_name sorted tops kept

-- ---- rows, one group after the other

-- the names of the rules are added one by one
pub names_more : (rules : List Rule) (n : ℕ) (rule : Rule) (old so_far : List (List (List ℕ))) → n < length rules → rule ≡ get_or rules n rule → so_far ≡ old ++ map (λ (r : Rule). r.at) (take n rules) → so_far ++ rule.at ∷ [] ≡ old ++ map (λ (r : Rule). r.at) (take (n + 1) rules)
names_more rules n rule old so_far lt is e =
    let at = λ (r : Rule). r.at in
    ap (λ (l : List (List (List ℕ))). l ++ rule.at ∷ []) e
    ∙ append_assoc old (map at (take n rules)) (rule.at ∷ [])
    ∙ ap (λ (l : List (List (List ℕ))). old ++ l) (sym (map_push at (take n rules) rule))
    ∙ ap (λ (l : List Rule). old ++ map at l) (ap (λ (r : Rule). take n rules ++ r ∷ []) is ∙ sym (take_more rules n rule lt))

pub adds_none : (rules : List Rule) (top : List (List ℕ)) (rows : List GroupRights) → IsFreeChild rules top None → AddsGroup rules (Below top) rows rows
adds_none rules top rows none = inl (refl, λ name is among. absurd (no_child rules top none name is among))

pub adds_row : (claims : List Claim) (name : List (List ℕ)) (group : NameGroup) (rights : NameRights) (old new : List GroupRights) → length claims ≤ 1024 → All IsClaim claims → IsName name → IsInGroup (rules_of claims) name group
    → ((other : List (List ℕ)) → IsInGroup (rules_of claims) other group → AreAlike (rules_of claims) other name)
    → AreRightsAt (rules_of claims) name rights → PushesRow (record { group = group; rights = rights }) old new → AddsGroup (rules_of claims) group old new
adds_row claims name group rights old new few all is among alike are (inl (same, none)) =
    inl (same, λ other valid there. none_granted (rules_of claims) other rights (rights_alike (rules_of claims) other name rights (alike other there) are) none)
adds_row claims name group rights old new few all is among alike are (inr (added, some)) =
    inr (record { group = group; rights = rights }, added, refl, (λ other valid there. rights_alike (rules_of claims) other name rights (alike other there) are), grant)
  where
    callers : (rule : Rule) → Contains (rules_of claims) rule → AreCallers rule.callers
    callers rule in' =
        let c = from_map (λ (x : Claim). x.rule.now) claims rule in' in
        subst (λ (r : Rule). AreCallers r.callers) c.2 (All-contains IsClaim claims c.0 all c.1).1

    grant : HasGrant (rules_of claims) group
    grant =
        let g = some_grant (rules_of claims) (omega (arith, few, length-map claims (λ (x : Claim). x.rule.now))) callers name rights are some in
        record { name = name; valid = is; among = among; caller = g.0; identifier = g.1; record_type = g.2.0; action = g.2.1; granted = g.2.2 }

pub on_ok : {T E : Type 0} (P Q : Type 0) → (P → Q) → (r : Result T E) → OnOk r P → OnOk r Q
on_ok P Q f (Ok v) p = f p
on_ok P Q f (Err e) p = tt
