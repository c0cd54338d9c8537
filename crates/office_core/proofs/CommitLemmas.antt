-- What is kept of an update that is answered by its zone: the machine's own turn.
use Rattle.std.proofs.Common.{◌≡◌, ℕ, List, ◌∷◌, [], ◌++◌, length, Bool, true, false, ◌&&◌, ◌==◌, if◌then◌else◌, Option, Some, None, option_map, refl, sym, ap, subst, ◌∙◌}
use Rattle.std.specs.Option.{option_or}
use Rattle.std.specs.FinMap.{len, entries, len-entries}
use Rattle.std.proofs.lemmas.List.{length-map}
use Rattle.dns_names.specs.Order.{same_name}
use Rattle.dns_data.specs.declared.record.Record.{Record}
use Rattle.grant_policy.specs.declared.rule.Rule.{Rule}
use Rattle.zone_core.specs.declared.update.Place.{Place}
use Rattle.zone_core.specs.Sets.{Records, Key, listing, minus, is_same}
use Rattle.zone_core.specs.Zones.{ZoneOf, IsZone}
use Rattle.zone_core.specs.Updates.{UpdateOf, IsUpdate, ActsWithin, first_outside}
use Rattle.zone_core.specs.Effects.{zone_after}
use Rattle.zone_core.specs.Changes.{changed, FitsIn, ChangeOf, is_empty, change_between}
use Rattle.zone_core.proofs.SetLemmas.{name_is}
use Rattle.zone_core.proofs.UpdateLemmas.{none_outside}
use Rattle.zone_core.proofs.VersionLemmas.{updates_keep}
use Rattle.zone_core.proofs.ChangedLemmas.{changes_make, same_sets_are_one}
use Rattle.office_model.specs.declared.reply.UpdateReply.{UpdateReply}
use Rattle.office_model.specs.declared.reply.UpdateReply.TheVariants.{NoError, NotAuth, NotZone}
use Rattle.office_model.specs.Replies.{to_update}
use Rattle.office_model.specs.States.{Held, State, AreZones, zone_held, zone_at, hold, keep}
use Rattle.office_model.specs.Tables.{AdditionOf, held_with, committed, FitsHeld}
use Rattle.office_core.specs.Machine.{Turn, outside_reply, denied_reply, failed_reply, zone_refusal, refusal, with_change, held_after, answered}
use Rattle.office_core.specs.Steps.{Commits, held_in, change_made, Makes, MakesAt, addition_of}

-- ---- a change

length-listing : (set : Records) → length (listing set) ≡ len set
length-listing set = length-map (entries set) (λ (e : Key × Record). e.1) ∙ sym (len-entries set)

nothing_same : (a b : Records) → is_empty (change_between a b) ≡ is_same a b
nothing_same a b = λ i. (length-listing (minus a b) i == 0) && (length-listing (minus b a) i == 0)

-- what is changed, by what two sets differ in
abbrev pub change_by : Records → Records → Option ChangeOf
change_by m n = if (len m == 0) && (len n == 0) then None else Some (record { removed = listing m; added = listing n })

-- ---- a state in which the same is held

same_state : (s : State) (origin : List (List ℕ)) (held : Held) → s.zones origin ≡ Some held → hold s origin (Some held) ≡ s
same_state s origin held is = λ i. record s { zones = λ o. each o i }
  where
    by_name : (o : List (List ℕ)) (b : Bool) → same_name o origin ≡ b → (if b then Some held else s.zones o) ≡ s.zones o
    by_name o true e = sym is ∙ ap s.zones (sym (name_is o origin e))
    by_name o false e = refl

    each : (o : List (List ℕ)) → (if same_name o origin then Some held else s.zones o) ≡ s.zones o
    each o = by_name o (same_name o origin) refl

-- ---- updates that are not refused

-- they act within the origin
pub acts_within : (rules : List Rule) (caller : List ℕ) (origin : List (List ℕ)) (update : UpdateOf) (set : Records) → option_or (outside_reply origin update) (option_or (denied_reply rules caller origin update) (failed_reply set update)) ≡ None → ActsWithin origin update
acts_within rules caller origin update set none = by_place (first_outside origin update) refl none
  where
    by_place : (o : Option Place) → first_outside origin update ≡ o → option_or (option_map NotZone o) (option_or (denied_reply rules caller origin update) (failed_reply set update)) ≡ None → ActsWithin origin update
    by_place None e none = (none_outside origin update None (sym e)).0 refl
    by_place (Some place) e none = absurd cc

-- ---- what is kept of an update

module _ (rules : List Rule) (s : State) (caller id : List ℕ) (origin : List (List ℕ)) (update : UpdateOf) (zones : AreZones s) (fresh : s.receipts caller id ≡ None) (is : IsUpdate update) where
  abbrev Told : Option UpdateReply → UpdateReply → Option ChangeOf → Type 0
  Told refused reply change = Commits s (answered s caller id origin update refused) (addition_of caller id origin update reply change) reply

  -- an update that is refused
  refused : (r reply : UpdateReply) (change : Option ChangeOf) → reply ≡ r → change ≡ None → Told (Some r) reply change
  refused r reply change same none =
      let exact : Told (Some r) r None = record { fits = record { fresh = fresh; change = tt }; replied = refl; after = refl } in
      subst (λ x. Told (Some r) x change) (sym same) (subst (λ c. Told (Some r) r c) (sym none) exact)

  module _ (held : Held) (there : s.zones origin ≡ Some held) where
    abbrev whole : ZoneOf
    whole = zone_held origin held

    abbrev after : Records
    after = (zone_after whole update).records

    z : IsZone whole
    z = zones origin held there

    module _ (acts : ActsWithin origin update) where
      z_after : IsZone (zone_after whole update)
      z_after = updates_keep whole update z is acts

      made : FitsIn held.records (change_between held.records after).removed (change_between held.records after).added × (changed held.records (change_between held.records after).removed (change_between held.records after).added ≡ after)
      made = changes_make held.records after z.kept z_after.kept

      -- it changes nothing
      idle : is_same held.records after ≡ true → held_after origin update held ≡ held
      idle same =
          let records : after ≡ held.records = sym ((same_sets_are_one held.records after z.kept z_after.kept).0 same) in
          let changes : with_change held.records after held.changes ≡ held.changes = ap (λ (b : Bool). if b then held.changes else held.changes ++ change_between held.records after ∷ []) same in
          λ i. record { records = records i; changes = changes i }

      idle_state : is_same held.records after ≡ true → hold s origin (option_map (held_after origin update) (s.zones origin)) ≡ s
      idle_state same =
          ap (λ (o : Option Held). hold s origin (option_map (held_after origin update) o)) there
          ∙ ap (λ (h : Held). hold s origin (Some h)) (idle same)
          ∙ same_state s origin held there

      -- it changes something
      busy : is_same held.records after ≡ false → held_after origin update held ≡ held_with (change_between held.records after) held
      busy differs =
          let changes : with_change held.records after held.changes ≡ held.changes ++ change_between held.records after ∷ [] =
          ap (λ (b : Bool). if b then held.changes else held.changes ++ change_between held.records after ∷ []) differs in
          λ i. record { records = sym made.1 i; changes = changes i }

      busy_state : is_same held.records after ≡ false → hold s origin (option_map (held_after origin update) (s.zones origin)) ≡ hold s origin (option_map (held_with (change_between held.records after)) (s.zones origin))
      busy_state differs =
          ap (λ (o : Option Held). hold s origin (option_map (held_after origin update) o)) there
          ∙ ap (λ (h : Held). hold s origin (Some h)) (busy differs)
          ∙ ap (λ (o : Option Held). hold s origin (option_map (held_with (change_between held.records after)) o)) (sym there)

      fits_held : is_same held.records after ≡ false → FitsHeld origin held (change_between held.records after)
      fits_held differs = record {
        something = nothing_same held.records after ∙ differs;
        records = made.0;
        zone = subst IsZone (λ i. record { origin = origin; records = sym made.1 i }) z_after;
      }

      by_same : (b : Bool) → is_same held.records after ≡ b → Told None NoError (if b then None else Some (change_between held.records after))
      by_same true same = record {
        fits = record { fresh = fresh; change = tt };
        replied = refl;
        after = ap (λ (t : State). keep t caller id (addition_of caller id origin update NoError None).receipt) (idle_state same);
      }
      by_same false differs = record {
        fits = record { fresh = fresh; change = (held, there, fits_held differs) };
        replied = refl;
        after = ap (λ (t : State). keep t caller id (addition_of caller id origin update NoError None).receipt) (busy_state differs);
      }

      -- an update that is made
      made_told : (reply : UpdateReply) (change : Option ChangeOf) → reply ≡ NoError → change ≡ change_made held.records after → Told None reply change
      made_told reply change no_error is_change =
          let exact : Told None NoError (change_made held.records after) = by_same (is_same held.records after) refl in
          subst (λ x. Told None x change) (sym no_error) (subst (λ c. Told None NoError c) (sym is_change) exact)

    by_refusal : (r : Option UpdateReply) → zone_refusal rules caller origin update held ≡ r → (reply : UpdateReply) (change : Option ChangeOf) → Makes whole update r reply change → Told r reply change
    by_refusal (Some r) e reply change makes = refused r reply change makes.0 makes.1
    by_refusal None e reply change makes = made_told (acts_within rules caller origin update held.records e) reply change makes.0 makes.1

    of_zone : (reply : UpdateReply) (change : Option ChangeOf) → Makes whole update (zone_refusal rules caller origin update (held_in whole)) reply change → Told (zone_refusal rules caller origin update held) reply change
    of_zone reply change makes = by_refusal (zone_refusal rules caller origin update held) refl reply change makes

  by_held : (h : Option Held) → s.zones origin ≡ h → (reply : UpdateReply) (change : Option ChangeOf) → MakesAt rules caller update (option_map (zone_held origin) h) reply change → Told (refusal rules caller origin update h) reply change
  by_held None e reply change makes = refused NotAuth reply change makes.0 makes.1
  by_held (Some held) e reply change makes = of_zone held e reply change makes

  -- what is answered by the zone, and what is kept of it then, are the machine's
  pub commits : (reply : UpdateReply) (change : Option ChangeOf) → MakesAt rules caller update (zone_at s origin) reply change → (a : AdditionOf) → a ≡ addition_of caller id origin update reply change → Commits s (answered s caller id origin update (refusal rules caller origin update (s.zones origin))) a reply
  commits reply change makes a of =
      subst (λ x. Commits s (answered s caller id origin update (refusal rules caller origin update (s.zones origin))) x reply) (sym of)
      (by_held (s.zones origin) refl reply change makes)

-- ---- what a commit leaves

module _ (s : State) (turn : Turn) (a : AdditionOf) (reply : UpdateReply) (k : Commits s turn a reply) where
  -- one that was made
  pub taken : (holds : State → Type 0) → holds (committed a s) → (Some (to_update reply) ≡ Some turn.reply) × holds turn.after
  taken holds made = (ap Some (sym k.replied), subst holds (sym k.after) made)

  pub left : (leaves : State → State → Type 0) → leaves (committed a s) (committed a s) → leaves turn.after turn.after
  left leaves kept = subst (λ (t : State). leaves t t) (sym k.after) kept

  -- one that failed
  pub left_by_err : (leaves : State → State → Type 0) → leaves s (committed a s) → leaves s turn.after
  left_by_err leaves crash = subst (leaves s) (sym k.after) crash
