-- What is found for a name is the same in each zone that the caller may make, where it may not change.
use Rattle.std.proofs.Common.{◌≡◌, ◌≢◌, ◌⊎◌, ℕ, List, [], ◌∷◌, Bool, true, false, refl, sym, subst, ◌∙◌, inl, inr}
use Rattle.std.proofs.lemmas.Bool.{false_from_ne_true}
use Rattle.dns_names.specs.Labels.{IsWithin, IsBelow, is_within}
use Rattle.dns_names.proofs.NameLemmas.{is_within-Decides}
use Rattle.dns_data.specs.declared.record.Record.{Record}
use Rattle.dns_data.specs.declared.record_type.RecordType.TheVariants as types
use Rattle.grant_policy.specs.declared.rule.Rule.{Rule}
use Rattle.zone_core.specs.Delegations.{IsCutAt}
use Rattle.zone_core.proofs.SetLemmas.{by_cases}
use Rattle.zone_core.proofs.MetLemmas.{among_of, of_among}
use Rattle.zone_core.proofs.BelowLemmas.{no_test, within_within}
use Rattle.zone_answers.specs.declared.query_type.QueryType.{QueryType}
use Rattle.zone_answers.specs.declared.query_type.QueryType.TheVariants.{Kept, Any, Other}
use Rattle.zone_answers.specs.Answers.{Name, asterisk, Exists, IsWildcardOver, IsSourceOf, IsReferred, IsOwn, IsFollowed, Found, Outside, Delegated, Missing, Alias, Listed, Again, Finds}
use Rattle.zone_answers.proofs.SourceLemmas.{exists_above}
use Rattle.zone_answers.proofs.CutLemmas.{within_both}
use Rattle.answer_reach.specs.Reach.{matters, may_change, RecordsMayChange, MayExist, must_exist, StaysCut, AddressMayChange, ReferralMayChange, OwnMayChange, WildcardMayChange}
use Rattle.answer_reach.proofs.PossibleLemmas.{IsPossible, IsFixed, moves, same_asked, may_there, must_there, fixed_by, second}

ns_not_soa : types.Ns ≢ types.Soa
ns_not_soa e = absurd cc

-- an alias matters to each question that follows aliases
alias_matters : (asked : QueryType) → matters asked types.Cname ≡ true
alias_matters (Kept t) = second _ true refl
alias_matters Any = refl
alias_matters Other = refl

module _ (rules : List Rule) (caller : List ℕ) (origin : Name) (rs : List Record) where
  -- ---- cuts

  cut_fixed : (cut : Name) → may_change rules caller origin rs cut types.Ns ≡ false → IsFixed rules caller origin rs cut types.Ns
  cut_fixed cut e = record { change = e; serial = λ is. ns_not_soa is.1 }

  module _ (ys zs : List Record) (from : IsPossible rules caller origin rs ys) (to : IsPossible rules caller origin rs zs) where
    -- a cut that may not change
    cut_moves : (cut : Name) → may_change rules caller origin rs cut types.Ns ≡ false → IsCutAt origin ys cut → IsCutAt origin zs cut
    cut_moves cut e is =
        let r = is.1.0 in
        (is.0, (r, of_among zs r (moves rules caller origin rs ys zs from to cut types.Ns (cut_fixed cut e) r is.1.2 is.1.3 (among_of ys r is.1.1)), is.1.2, is.1.3))

  module _ (ys : List Record) (from : IsPossible rules caller origin rs ys) (itself : IsPossible rules caller origin rs rs) (name : Name) (asked : QueryType)
      (kept : ¬ ReferralMayChange rules caller origin rs name asked) where
    -- a cut that the question is referred to is below no other
    none_above : (cut : Name) → IsReferred origin ys name asked cut → (top : Name) → StaysCut rules caller origin rs top → ¬ IsBelow cut top
    none_above cut is top stays below =
        let there = cut_moves rs ys itself from top stays.1 stays.0 in
        let over : IsWithin top cut = is.0.outermost top there (within_within name cut top is.0.over below.0) in
        below.1 (within_both cut top below.0 over)

    pub referral_fixed : (cut : Name) → IsReferred origin ys name asked cut → may_change rules caller origin rs cut types.Ns ≡ false
    referral_fixed cut is =
        false_from_ne_true (may_change rules caller origin rs cut types.Ns) (λ e. kept (cut, is.0.over, (is.0.here.0, inl e), is.1, none_above cut is))

    pub addresses_fixed : (cut : Name) → IsReferred origin ys name asked cut → ¬ AddressMayChange rules caller origin rs cut
    addresses_fixed cut is may = kept (cut, is.0.over, (is.0.here.0, inr may), is.1, none_above cut is)

    module _ (zs : List Record) (to : IsPossible rules caller origin rs zs) where
      outer : (cut : Name) → IsReferred origin ys name asked cut → (other : Name) → IsCutAt origin zs other → IsWithin name other → IsWithin other cut
      outer cut is other there within =
          by_cases (may_change rules caller origin rs other types.Ns) (IsWithin other cut) changing
          (λ e. is.0.outermost other (cut_moves zs ys to from other e there) within)
        where
          changing : may_change rules caller origin rs other types.Ns ≡ true → IsWithin other cut
          changing e = by_cases (is_within other cut) (IsWithin other cut) (λ t. (is_within-Decides other cut).0 t) (λ t. absurd (apart t))
            where
              apart : is_within other cut ≡ false → ⊥
              apart t =
                  let away : ¬ IsWithin other cut = λ w. no_test (is_within other cut) ((is_within-Decides other cut).1 w) t in
                  kept (
                    other,
                    within,
                    (there.0, inl e),
                    (λ same. away (subst (λ (n : Name). IsWithin n cut) same.0 is.0.over)),
                    (λ top stays below.
                        let here = cut_moves rs ys itself from top stays.1 stays.0 in
                        away (within_within other top cut below.0 (is.0.outermost top here (within_within name other top within below.0)))),
                  )

      pub referral_moves : (cut : Name) → IsReferred origin ys name asked cut → IsReferred origin zs name asked cut
      referral_moves cut is = (record { here = cut_moves ys zs from to cut (referral_fixed cut is) is.0.here; over = is.0.over; outermost = outer cut is }, is.1)

  module _ (ys zs : List Record) (from : IsPossible rules caller origin rs ys) (to : IsPossible rules caller origin rs zs) (itself : IsPossible rules caller origin rs rs) (name : Name) (asked : QueryType) where
    pub own_moves : ¬ ReferralMayChange rules caller origin rs name asked → IsOwn origin ys name asked → IsOwn origin zs name asked
    own_moves kept own = (own.0, λ cut is. own.1 cut (referral_moves zs to itself name asked kept ys from cut is))

  -- ---- sources

  module _ (ys zs : List Record) (from : IsPossible rules caller origin rs ys) (to : IsPossible rules caller origin rs zs) (home : MayExist rules caller origin rs origin) (name : Name) (asked : QueryType)
      (own_kept : ¬ OwnMayChange rules caller origin rs name asked) (wildcard_kept : ¬ WildcardMayChange rules caller origin rs name asked) where
    must_from : (must : Bool) → (must ≡ false → ⊥) → must ≡ true
    must_from true never = refl
    must_from false never = absurd (never refl)

    own_source : Exists ys name → Exists zs name
    own_source has =
        let may = may_there rules caller origin rs ys from home name has in
        must_there rules caller origin rs zs to name (must_from (must_exist rules caller origin rs name) (λ e. own_kept (may, inl e)))

    wildcard_source : (source : Name) → Exists ys source → IsWildcardOver ys name source → Exists zs source × (¬ Exists zs name × IsWildcardOver zs name source)
    wildcard_source source has over =
        let front = over.0 in
        let label = over.1 in
        let encloser = over.2 in
        let is : source ≡ asterisk ∷ encloser = over.6 in
        let may = may_there rules caller origin rs ys from home (asterisk ∷ encloser) (subst (Exists ys) is has) in
        let applies : must_exist rules caller origin rs (label ∷ encloser) ≡ false =
        false_from_ne_true (must_exist rules caller origin rs (label ∷ encloser)) (λ e. over.5 (must_there rules caller origin rs ys from (label ∷ encloser) e)) in
        let sure : must_exist rules caller origin rs (asterisk ∷ encloser) ≡ true =
        must_from (must_exist rules caller origin rs (asterisk ∷ encloser)) (λ e.
        wildcard_kept (record { front = front; label = label; encloser = encloser; split = over.3; there = may; applies = applies; changes = inl e })) in
        let never : ¬ MayExist rules caller origin rs (label ∷ encloser) = λ m.
        wildcard_kept (record { front = front; label = label; encloser = encloser; split = over.3; there = may; applies = applies; changes = inr (inl m) }) in
        let wild : Exists zs (asterisk ∷ encloser) = must_there rules caller origin rs zs to (asterisk ∷ encloser) sure in
        let none : ¬ Exists zs (label ∷ encloser) = λ e. never (may_there rules caller origin rs zs to home (label ∷ encloser) e) in (
          subst (Exists zs) (sym is) wild,
          (
            λ e. none (exists_above zs name front (label ∷ encloser) over.3 e),
            (front, label, encloser, over.3, exists_above zs (asterisk ∷ encloser) (asterisk ∷ []) encloser refl wild, none, is),
          ),
        )

    pub source_moves : (source : Name) → IsSourceOf ys name source → IsSourceOf zs name source
    source_moves source is = (elim (is.1) [
      | inl same ↦ (subst (Exists zs) (sym same) (own_source (subst (Exists ys) same is.0)), inl same)
      | inr over ↦ (let moved = wildcard_source source is.0 over.1 in (moved.0, inr moved.1))
    ])

    -- the records of a source that matter are fixed
    pub source_fixed : (source : Name) → IsSourceOf ys name source → ¬ RecordsMayChange rules caller origin rs source asked
    source_fixed source is changes = (elim (is.1) [
      | inl same ↦ own_kept (may_there rules caller origin rs ys from home name (subst (Exists ys) same is.0), inr (subst (λ (n : Name). RecordsMayChange rules caller origin rs n asked) same changes))
      | inr over ↦
          (let w = over.1 in
          let named : source ≡ asterisk ∷ w.2 = w.6 in
          let may = may_there rules caller origin rs ys from home (asterisk ∷ w.2) (subst (Exists ys) named is.0) in
          let applies : must_exist rules caller origin rs (w.1 ∷ w.2) ≡ false =
          false_from_ne_true (must_exist rules caller origin rs (w.1 ∷ w.2)) (λ e. w.5 (must_there rules caller origin rs ys from (w.1 ∷ w.2) e)) in
          wildcard_kept (record { front = w.0; label = w.1; encloser = w.2; split = w.3; there = may; applies = applies; changes = inr (inr (subst (λ (n : Name). RecordsMayChange rules caller origin rs n asked) named changes)) }))
    ])

  -- ---- what is found

  module _ (ys zs : List Record) (from : IsPossible rules caller origin rs ys) (to : IsPossible rules caller origin rs zs) (itself : IsPossible rules caller origin rs rs) (home : MayExist rules caller origin rs origin)
      (name : Name) (asked : QueryType) (referral_kept : ¬ ReferralMayChange rules caller origin rs name asked)
      (source_kept : IsOwn origin rs name asked → ¬ (OwnMayChange rules caller origin rs name asked ⊎ WildcardMayChange rules caller origin rs name asked)) where
    module _ (own : IsOwn origin ys name asked) where
      home_own : IsOwn origin rs name asked
      home_own = own_moves ys rs from itself itself name asked referral_kept own

      own_kept : ¬ OwnMayChange rules caller origin rs name asked
      own_kept m = source_kept home_own (inl m)

      wildcard_kept : ¬ WildcardMayChange rules caller origin rs name asked
      wildcard_kept m = source_kept home_own (inr m)

      there : (source : Name) → IsSourceOf ys name source → IsSourceOf zs name source
      there = source_moves ys zs from to home name asked own_kept wildcard_kept

      back : (source : Name) → IsSourceOf zs name source → IsSourceOf ys name source
      back = source_moves zs ys to from home name asked own_kept wildcard_kept

      fixed : (source : Name) → IsSourceOf ys name source → ¬ RecordsMayChange rules caller origin rs source asked
      fixed = source_fixed ys zs from to home name asked own_kept wildcard_kept

      followed : (source : Name) → IsSourceOf ys name source → (r : Record) → IsFollowed ys source asked r → IsFollowed zs source asked r
      followed source is r f =
          let set = fixed_by rules caller origin rs source asked (fixed source is) types.Cname (alias_matters asked) in
          (f.0, of_among zs r (moves rules caller origin rs ys zs from to source types.Cname set r f.2 f.3 (among_of ys r f.1)), f.2, f.3)

      followed_back : (source : Name) → IsSourceOf ys name source → (r : Record) → IsFollowed zs source asked r → IsFollowed ys source asked r
      followed_back source is r f =
          let set = fixed_by rules caller origin rs source asked (fixed source is) types.Cname (alias_matters asked) in
          (f.0, of_among ys r (moves rules caller origin rs zs ys to from source types.Cname set r f.2 f.3 (among_of zs r f.1)), f.2, f.3)

      own_there : IsOwn origin zs name asked
      own_there = own_moves ys zs from to itself name asked referral_kept own

    pub finds_moves : (found : Found) → Finds origin ys name asked found → Finds origin zs name asked found
    finds_moves Outside outside = outside
    finds_moves (Delegated cut) is = (is.0, referral_moves ys from itself name asked referral_kept zs to cut is.1)
    finds_moves Missing is = (own_there is.0, λ source has. is.1 source (back is.0 source has))
    finds_moves (Alias r) is = (own_there is.0, (is.1.0, there is.0 is.1.0 is.1.1, followed is.0 is.1.0 is.1.1 r is.1.2))
    finds_moves (Listed found) is =
        let source = is.1.0 in
        let at = is.1.1 in (
          own_there is.0,
          (
            source,
            there is.0 source at,
            (λ r f. is.1.2 r (followed_back is.0 source at r f)),
            is.1.3 ∙ same_asked rules caller origin rs ys zs from to source asked (fixed is.0 source at),
          ),
        )
    finds_moves Again never = absurd never
