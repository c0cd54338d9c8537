-- What the office would answer to an update of a zone is what the machine answers.
use Rattle.std.proofs.Common.{◌≡◌, ◌∙◌, ℕ, List, [], ◌∷◌, ◌++◌, Bool, true, false, Option, Some, None, option_map, refl, sym, ap, subst, append-nil}
use Rattle.std.specs.Prelude.{if◌then◌else◌}
use Rattle.std.specs.Option.{option_to_list}
use Rattle.grant_policy.specs.declared.rule.Rule.{Rule}
use Rattle.zone_core.specs.Sets.{is_same}
use Rattle.zone_core.specs.Zones.{ZoneOf}
use Rattle.zone_core.specs.Prerequisites.{verdict}
use Rattle.zone_core.specs.Updates.{UpdateOf, ActsWithin, first_outside}
use Rattle.zone_core.specs.Effects.{zone_after}
use Rattle.zone_core.specs.Changes.{ChangeOf, change_between}
use Rattle.zone_core.proofs.UpdateLemmas.{none_outside}
use Rattle.zone_core.proofs.SetLemmas.{name_self}
use Rattle.office_model.specs.declared.reply.UpdateReply.{UpdateReply}
use Rattle.office_model.specs.declared.reply.UpdateReply.TheVariants.{NoError}
use Rattle.office_model.specs.States.{Held, State, zone_held}
use Rattle.office_core.specs.Footprints.{footprint}
use Rattle.office_core.specs.Permissions.{first_denial}
use Rattle.office_core.specs.Machine.{Turn, zone_refusal, refusal, answered, updated, held_after}
use Rattle.office_core.specs.Steps.{Makes, held_in}
use Rattle.office_core.specs.Plans.{Plans, IsPlanned}
use Rattle.office_core.proofs.MadeLemmas.{never_made, none_applies}

-- the changes with the one that is made, if one is
noted_change : (b : Bool) (c : ChangeOf) (cs : List ChangeOf) → (if b then cs else cs ++ c ∷ []) ≡ cs ++ option_to_list (if b then None else Some c)
noted_change true c cs = sym (append-nil cs)
noted_change false c cs = refl

module _ (rules : List Rule) (caller : List ℕ) (origin : List (List ℕ)) (update : UpdateOf) (s : State) (id : List ℕ) (held : Held) (there : s.zones origin ≡ Some held) where
  abbrev zone : ZoneOf
  zone = zone_held origin held

  -- after the turn of an update that is refused, or not
  planned : (refused : Option UpdateReply) (reply : UpdateReply) (change : Option ChangeOf) → Makes zone update refused reply change
      → IsPlanned s origin reply change (answered s caller id origin update refused)
  planned (Some r) reply change makes = record {
    replied = ap (λ (x : UpdateReply). (answered s caller id origin update (Some x)).reply) (sym makes.0);
    noted =
        ap (option_map (λ (h : Held). h.changes)) there
        ∙ (λ i. Some (sym (append-nil held.changes) i))
        ∙ (λ i. option_map (λ cs. cs ++ option_to_list (sym makes.1 i)) (option_map (λ (h : Held). h.changes) (sym there i)));
  }
  planned None reply change makes = record {
    replied = ap (λ (x : UpdateReply). (answered s caller id origin update (Some x)).reply) (sym makes.0);
    noted =
        let after = (zone_after zone update).records in
        ap (λ (b : Bool). option_map (λ (h : Held). h.changes) (if b then option_map (held_after origin update) (s.zones origin) else s.zones origin)) (name_self origin)
        ∙ ap (λ (o : Option Held). option_map (λ (h : Held). h.changes) (option_map (held_after origin update) o)) there
        ∙ (λ i. Some (noted_change (is_same held.records after) (change_between held.records after) held.changes i))
        ∙ (λ i. option_map (λ cs. cs ++ option_to_list (sym makes.1 i)) (option_map (λ (h : Held). h.changes) (sym there i)));
  }

-- what is made is what the machine makes
pub makes_plan : (rules : List Rule) (caller : List ℕ) (zone : ZoneOf) (update : UpdateOf) (reply : UpdateReply) (change : Option ChangeOf)
    → Makes zone update (zone_refusal rules caller zone.origin update (held_in zone)) reply change → Plans rules caller zone update reply change
makes_plan rules caller zone update reply change makes s id holds fresh = by_held (s.zones zone.origin) refl
  where
    by_held : (h : Option Held) → s.zones zone.origin ≡ h → IsPlanned s zone.origin reply change (updated rules s caller id zone.origin update (s.receipts caller id))
    by_held None there = absurd (let e : None ≡ Some zone = sym (ap (option_map (zone_held zone.origin)) there) ∙ holds in cc)
    by_held (Some held) there =
        let whole : Some (zone_held zone.origin held) ≡ Some zone = sym (ap (option_map (zone_held zone.origin)) there) ∙ holds in
        let same : zone_held zone.origin held ≡ zone = cc in
        let refused = zone_refusal rules caller zone.origin update (held_in (zone_held zone.origin held)) in
        let made : Makes (zone_held zone.origin held) update refused reply change =
        subst (λ (z : ZoneOf). Makes z update (zone_refusal rules caller zone.origin update (held_in z)) reply change) (sym same) makes in
        subst (λ (t : Turn). IsPlanned s zone.origin reply change t)
        (sym (ap (updated rules s caller id zone.origin update) fresh ∙ ap (λ (h : Option Held). answered s caller id zone.origin update (refusal rules caller zone.origin update h)) there))
        (planned rules caller zone.origin update s id held there refused reply change made)

-- an update that is made acts within the zone
pub makes_within : (rules : List Rule) (caller : List ℕ) (zone : ZoneOf) (update : UpdateOf) (reply : UpdateReply) (change : Option ChangeOf)
    → Makes zone update (zone_refusal rules caller zone.origin update (held_in zone)) reply change → reply ≡ NoError → ActsWithin zone.origin update
makes_within rules caller zone update reply change makes is = by_refusal (zone_refusal rules caller zone.origin update (held_in zone)) refl makes
  where
    by_refusal : (refused : Option UpdateReply) → zone_refusal rules caller zone.origin update (held_in zone) ≡ refused → Makes zone update refused reply change → ActsWithin zone.origin update
    by_refusal None e made =
        let none = none_applies (first_outside zone.origin update) (first_denial rules caller (footprint zone.origin update)) (verdict zone.records update.prerequisites) e in
        (none_outside zone.origin update None (sym none.0)).0 refl
    by_refusal (Some r) e made =
        absurd (never_made (first_outside zone.origin update) (first_denial rules caller (footprint zone.origin update)) (verdict zone.records update.prerequisites) (e ∙ ap (λ (x : UpdateReply). Some x) (sym made.0 ∙ is)))
