-- Which updates are made, and which are refused by the policy.
use Rattle.std.proofs.Common.{◌≡◌, ◌↔◌, ℕ, zero, suc, ◌<◌, List, [], ◌∷◌, Option, Some, None, refl, sym, ap, ◌∙◌, arith}
use Rattle.std.specs.Prelude.{option_map, slice_get, Result, Ok, Err}
use Rattle.std.specs.Option.{option_or}
use Rattle.grant_policy.specs.declared.rule.Rule.{Rule}
use Rattle.grant_policy.specs.Decisions.{granted, denied, decision}
use Rattle.zone_core.specs.declared.update.Place.{Place}
use Rattle.zone_core.specs.declared.verdict.Failed.{Failed}
use Rattle.zone_core.specs.Sets.{Records, listing}
use Rattle.zone_core.specs.Zones.{AreKept}
use Rattle.zone_core.specs.Updates.{UpdateOf, IsUpdate, ActsWithin, first_outside}
use Rattle.zone_core.specs.Prerequisites.{verdict, failure}
use Rattle.zone_core.specs.Met.{AreMet}
use Rattle.zone_core.proofs.UpdateLemmas.{none_outside}
use Rattle.zone_core.proofs.ChangedLemmas.{listed}
use Rattle.zone_core.proofs.MetLemmas.{met_answer}
use Rattle.office_model.specs.declared.reply.UpdateReply.{UpdateReply}
use Rattle.office_model.specs.declared.reply.UpdateReply.TheVariants as replies
use Rattle.office_model.specs.States.{Held, State, AreZones}
use Rattle.office_core.specs.Footprints.{Point, footprint}
use Rattle.office_core.specs.Permissions.{DenialOf, question, IsPermitted, IsFirstDenial, denial_at, first_denial}
use Rattle.office_core.specs.Machine.{refused_by, refusal}
use Rattle.office_core.specs.Promises.{IsMade, IsJudged, IsOutside, IsFailing}
use Rattle.office_core.proofs.PermissionLaws.{found_denial, none_denied, all_granted}

-- ---- the first that applies

module _ (o : Option Place) (d : Option DenialOf) (v : Option Failed) where
  abbrev first_of_three : Option UpdateReply
  first_of_three = option_or (option_map replies.NotZone o) (option_or (option_map refused_by d) (option_map replies.Failed v))

pub none_applies : (o : Option Place) (d : Option DenialOf) (v : Option Failed) → first_of_three o d v ≡ None → (o ≡ None) × (d ≡ None) × (v ≡ None)
none_applies None None None e = (refl, refl, refl)
none_applies None None (Some f) e = absurd cc
none_applies None (Some d) v e = absurd cc
none_applies (Some p) d v e = absurd cc

pub never_made : (o : Option Place) (d : Option DenialOf) (v : Option Failed) → first_of_three o d v ≡ Some replies.NoError → ⊥
never_made None None None e = cc
never_made None None (Some f) e = cc
never_made None (Some d) v e = cc
never_made (Some p) d v e = cc

never_unknown : (o : Option Place) (d : Option DenialOf) (v : Option Failed) → first_of_three o d v ≡ Some replies.NotAuth → ⊥
never_unknown None None None e = cc
never_unknown None None (Some f) e = cc
never_unknown None (Some d) v e = cc
never_unknown (Some p) d v e = cc

names_apply : (o : Option Place) (d : Option DenialOf) (v : Option Failed) (place : Place) → (first_of_three o d v ≡ Some (replies.NotZone place)) ↔ (o ≡ Some place)
names_apply None None None place = (λ e. absurd cc, λ e. absurd cc)
names_apply None None (Some f) place = (λ e. absurd cc, λ e. absurd cc)
names_apply None (Some d) v place = (λ e. absurd cc, λ e. absurd cc)
names_apply (Some p) d v place = (λ e. cc, λ e. cc)

tests_apply : (o : Option Place) (d : Option DenialOf) (v : Option Failed) (failed : Failed) → (first_of_three o d v ≡ Some (replies.Failed failed)) ↔ ((o ≡ None) × (d ≡ None) × (v ≡ Some failed))
tests_apply None None None failed = (λ e. absurd cc, λ all. let f = all.2 in absurd cc)
tests_apply None None (Some f) failed = (λ e. (refl, refl, cc), λ all. let same = all.2 in cc)
tests_apply None (Some d) v failed = (λ e. absurd cc, λ all. let f = all.1 in absurd cc)
tests_apply (Some p) d v failed = (λ e. absurd cc, λ all. let f = all.0 in absurd cc)

policy_applies : (o : Option Place) (d : Option DenialOf) (v : Option Failed) (denial : DenialOf) → first_of_three o d v ≡ Some (refused_by denial) → (o ≡ None) × (d ≡ Some denial)
policy_applies None None None denial e = absurd cc
policy_applies None None (Some f) denial e = absurd cc
policy_applies None (Some d) v denial e =
    let place : d.place ≡ denial.place = cc in
    let by : d.by ≡ denial.by = cc in
    (refl, λ i. Some (record { place = place i; by = by i }))
policy_applies (Some p) d v denial e = absurd cc

-- ---- the policy

module _ (rules : List Rule) (caller : List ℕ) where
  none_first : (origin : List (List ℕ)) (update : UpdateOf) → (first_denial rules caller (footprint origin update) ≡ None) ↔ IsPermitted rules caller origin update
  none_first origin update =
      let none = none_denied rules caller (footprint origin update) in
      let all = all_granted rules caller origin update in
      (λ e. all.0 (none.0 e), λ p. none.1 (all.1 p))

  -- the first denial is found
  first_found : (ps : List Point) (d : DenialOf) → IsFirstDenial rules caller ps d → first_denial rules caller ps ≡ Some d
  first_found ps d f = at_number ps f.number f.point f.at f.place f.by f.first
    where
      at_number : (qs : List Point) (n : ℕ) (p : Point) → slice_get qs n ≡ Some p → d.place ≡ p.place → decision (question caller p.name p.record_type p.action) rules ≡ denied d.by
          → ((j : ℕ) (q : Point) → j < n → slice_get qs j ≡ Some q → (id : List ℕ) × (decision (question caller q.name q.record_type q.action) rules ≡ granted id)) → first_denial rules caller qs ≡ Some d
      at_number [] n p at place by first = absurd cc
      at_number (q ∷ qs) zero p at place by first =
          let same : q ≡ p = cc in
          ap (λ v. option_or (denial_at q.place v) (first_denial rules caller qs)) (ap (λ (x : Point). decision (question caller x.name x.record_type x.action) rules) same ∙ by)
          ∙ (λ i. Some (record { place = (ap (λ (x : Point). x.place) same ∙ sym place) i; by = d.by }))
      at_number (q ∷ qs) (suc n) p at place by first =
          ap (λ v. option_or (denial_at q.place v) (first_denial rules caller qs)) (first zero q (omega arith) refl).1
          ∙ at_number qs n p at place by (λ j x less there. first (suc j) x (omega arith) there)

-- ---- the prerequisites

verdict_is : (set : Records) → AreKept set → (update : UpdateOf) → IsUpdate update → (verdict set update.prerequisites ≡ None) ↔ AreMet set update.prerequisites
verdict_is set kept update is = (λ e. (met (Ok tt) (sym e)).0 refl, λ all. by_verdict (verdict set update.prerequisites) refl all)
  where
    met : (answer : Result (Unit {0}) Failed) → failure answer ≡ verdict set update.prerequisites → (answer ≡ Ok tt) ↔ AreMet set update.prerequisites
    met answer e = let rows = listed set kept in met_answer set (listing set) rows.order rows.set kept update.prerequisites is.prerequisites answer e

    by_verdict : (v : Option Failed) → verdict set update.prerequisites ≡ v → AreMet set update.prerequisites → verdict set update.prerequisites ≡ None
    by_verdict None e all = e
    by_verdict (Some f) e all = let ok : Err f ≡ Ok tt = (met (Err f) (sym e)).1 all in absurd cc

-- ---- what is refused

module _ (rules : List Rule) (s : State) (zones : AreZones s) (caller id : List ℕ) (origin : List (List ℕ)) (update : UpdateOf) (is : IsUpdate update) where
  abbrev outside : Option Place
  outside = first_outside origin update

  abbrev denial_is : Option DenialOf
  denial_is = first_denial rules caller (footprint origin update)

  inside_is : (first_outside origin update ≡ None) ↔ ActsWithin origin update
  inside_is = none_outside origin update (first_outside origin update) refl

  -- what is not refused may be made
  pub if_made : s.receipts caller id ≡ None → refusal rules caller origin update (s.zones origin) ≡ None → (held : Held) × IsMade rules s caller id origin update held
  if_made fresh e = by_zone (s.zones origin) refl e
    where
      by_zone : (o : Option Held) → s.zones origin ≡ o → refusal rules caller origin update o ≡ None → (held : Held) × IsMade rules s caller id origin update held
      by_zone None there f = absurd cc
      by_zone (Some held) there f =
          let all = none_applies outside denial_is (verdict held.records update.prerequisites) f in (
            held,
            record {
              fresh = fresh;
              there = there;
              inside = inside_is.0 all.0;
              permitted = (none_first rules caller origin update).0 all.1;
              met = (verdict_is held.records (zones origin held there).kept update is).0 all.2;
            },
          )

  pub not_refused : (held : Held) → IsMade rules s caller id origin update held → refusal rules caller origin update (s.zones origin) ≡ None
  not_refused held m =
      let inside : first_outside origin update ≡ None = inside_is.1 m.inside in
      let permitted : first_denial rules caller (footprint origin update) ≡ None = (none_first rules caller origin update).1 m.permitted in
      let met : verdict held.records update.prerequisites ≡ None = (verdict_is held.records (zones origin held m.there).kept update is).1 m.met in
      ap (refusal rules caller origin update) m.there ∙ (λ i. first_of_three (inside i) (permitted i) (met i))

  -- no refusal is told as no error
  pub told_apart : refusal rules caller origin update (s.zones origin) ≡ Some replies.NoError → ⊥
  told_apart e = by_zone (s.zones origin) e
    where
      by_zone : (o : Option Held) → refusal rules caller origin update o ≡ Some replies.NoError → ⊥
      by_zone None f = cc
      by_zone (Some held) f = never_made outside denial_is (verdict held.records update.prerequisites) f

  -- what the policy refuses
  pub if_denied : s.receipts caller id ≡ None → (denial : DenialOf) → refusal rules caller origin update (s.zones origin) ≡ Some (refused_by denial)
      → IsJudged s caller id origin update × IsFirstDenial rules caller (footprint origin update) denial
  if_denied fresh denial e = by_zone (s.zones origin) refl e
    where
      by_zone : (o : Option Held) → s.zones origin ≡ o → refusal rules caller origin update o ≡ Some (refused_by denial) → IsJudged s caller id origin update × IsFirstDenial rules caller (footprint origin update) denial
      by_zone None there f = absurd cc
      by_zone (Some held) there f =
          let both = policy_applies outside denial_is (verdict held.records update.prerequisites) denial f in
          (record { fresh = fresh; held = held; there = there; inside = inside_is.0 both.0 }, found_denial rules caller (footprint origin update) denial both.1)

  pub is_denied : (denial : DenialOf) → IsJudged s caller id origin update → IsFirstDenial rules caller (footprint origin update) denial → refusal rules caller origin update (s.zones origin) ≡ Some (refused_by denial)
  is_denied denial j f =
      let inside : first_outside origin update ≡ None = inside_is.1 j.inside in
      let first : first_denial rules caller (footprint origin update) ≡ Some denial = first_found rules caller (footprint origin update) denial f in
      ap (refusal rules caller origin update) j.there ∙ (λ i. first_of_three (inside i) (first i) (verdict j.held.records update.prerequisites))

  -- what else is refused
  pub is_unknown : (refusal rules caller origin update (s.zones origin) ≡ Some replies.NotAuth) ↔ (s.zones origin ≡ None)
  is_unknown = (by_zone (s.zones origin), λ none. ap (refusal rules caller origin update) none)
    where
      by_zone : (o : Option Held) → refusal rules caller origin update o ≡ Some replies.NotAuth → o ≡ None
      by_zone None e = refl
      by_zone (Some held) e = absurd (never_unknown outside denial_is (verdict held.records update.prerequisites) e)

  pub is_outside : (place : Place) → (refusal rules caller origin update (s.zones origin) ≡ Some (replies.NotZone place)) ↔ IsOutside s origin update place
  is_outside place = (
    by_zone (s.zones origin) refl,
    λ all. ap (refusal rules caller origin update) all.1 ∙ (names_apply outside denial_is (verdict all.0.records update.prerequisites) place).1 all.2,
  )
    where
      by_zone : (o : Option Held) → s.zones origin ≡ o → refusal rules caller origin update o ≡ Some (replies.NotZone place) → IsOutside s origin update place
      by_zone None there e = absurd cc
      by_zone (Some held) there e = (held, there, (names_apply outside denial_is (verdict held.records update.prerequisites) place).0 e)

  pub is_failing : (failed : Failed) → (refusal rules caller origin update (s.zones origin) ≡ Some (replies.Failed failed)) ↔ IsFailing rules s caller origin update failed
  is_failing failed = (
    by_zone (s.zones origin) refl,
    λ f. ap (refusal rules caller origin update) f.there
        ∙ (tests_apply outside denial_is (verdict f.held.records update.prerequisites) failed).1 (inside_is.1 f.inside, (none_first rules caller origin update).1 f.permitted, f.unmet),
  )
    where
      by_zone : (o : Option Held) → s.zones origin ≡ o → refusal rules caller origin update o ≡ Some (replies.Failed failed) → IsFailing rules s caller origin update failed
      by_zone None there e = absurd cc
      by_zone (Some held) there e =
          let all = (tests_apply outside denial_is (verdict held.records update.prerequisites) failed).0 e in
          record { held = held; there = there; inside = inside_is.0 all.0; permitted = (none_first rules caller origin update).0 all.1; unmet = all.2 }
