-- Calls are answered right, one after the other.
use Rattle.std.proofs.Common.{◌≡◌, ◌⊎◌, ℕ, List, [], ◌∷◌, ◌++◌, true, false, Option, Some, None, inl, inr, refl, sym, ap, subst, ◌∙◌}
use Rattle.std.specs.List.{fold}
use Rattle.std.proofs.lemmas.List.{append_assoc, append-nil}
use Rattle.dns_names.specs.Order.{same_name}
use Rattle.grant_policy.specs.declared.rule.Rule.{Rule}
use Rattle.zone_core.specs.Sets.{Records}
use Rattle.zone_core.specs.Zones.{ZoneOf, IsZone}
use Rattle.zone_core.specs.Updates.{UpdateOf, IsUpdate}
use Rattle.zone_core.specs.Effects.{zone_after}
use Rattle.zone_core.specs.Changes.{changed, ChangeOf, change_between}
use Rattle.zone_core.proofs.SetLemmas.{by_cases, name_is, name_self}
use Rattle.zone_core.proofs.VersionLemmas.{updates_keep}
use Rattle.zone_core.proofs.ChangedLemmas.{changes_make}
use Rattle.office_model.specs.declared.reply.UpdateReply.{UpdateReply}
use Rattle.office_model.specs.declared.receipt.Receipt.{Receipt}
use Rattle.office_model.specs.declared.request.Call.{Call}
use Rattle.office_model.specs.declared.request.Request.{Request}
use Rattle.office_model.specs.declared.request.Request.TheVariants as requests
use Rattle.office_model.specs.States.{Held, State, AreZones, AreReceipts, zone_held}
use Rattle.office_core.specs.Machine.{step, refusal}
use Rattle.office_core.specs.Runs.{HasUpdate, HaveUpdates, turn, state_after}
use Rattle.office_core.specs.Promises.{IsMade, IsNoted, IsWhole, MakesUpdate, MakesThis, TurnIsRight, AreMade, AllCallsAreRight}
use Rattle.office_core.proofs.MadeLemmas.{if_made, not_refused}
use Rattle.office_core.proofs.PromiseLemmas.{same_Some, some_none, step_is_right, keeps_receipts}

-- ---- what a change makes of records

abbrev after_change : Records → ChangeOf → Records
after_change set c = changed set c.removed c.added

fold_append : (set : Records) (front rest : List ChangeOf) → fold after_change set (front ++ rest) ≡ fold after_change (fold after_change set front) rest
fold_append set [] rest = refl
fold_append set (c ∷ front) rest = fold_append (after_change set c) front rest

-- changes that were noted, which lead from what was held to what is
record AreNoted (before after : Held) : Type 0 where
  noted : List ChangeOf
  changes : after.changes ≡ before.changes ++ noted
  lead : fold after_change before.records noted ≡ after.records

noted_one : (origin : List (List ℕ)) (before after : Held) → IsZone (zone_held origin before) → IsZone (zone_held origin after) → IsNoted before after → AreNoted before after
noted_one origin before after is also (inl same) = record { noted = []; changes = same.1 ∙ sym (append-nil before.changes); lead = sym same.0 }
noted_one origin before after is also (inr one) =
    record { noted = change_between before.records after.records ∷ []; changes = one.1; lead = (changes_make before.records after.records is.kept also.kept).1 }

noted_none : (held : Held) → AreNoted held held
noted_none held = record { noted = []; changes = sym (append-nil held.changes); lead = refl }

noted_more : (before between after : Held) → AreNoted before between → AreNoted between after → AreNoted before after
noted_more before between after first rest =
    record {
      noted = first.noted ++ rest.noted;
      changes = rest.changes ∙ ap (λ cs. cs ++ rest.noted) first.changes ∙ append_assoc before.changes first.noted rest.noted;
      lead = fold_append before.records first.noted rest.noted ∙ ap (λ (set : Records). fold after_change set rest.noted) first.lead ∙ rest.lead;
    }

-- ---- a call

module _ (rules : List Rule) (s : State) (zones : AreZones s) (receipts : AreReceipts s) (caller : List ℕ) where
  right : (request : Request) → HasUpdate request → TurnIsRight rules s caller request (step rules s caller request)
  right request has = step_is_right rules s zones receipts caller request has

  -- whether an update of a zone is made for it
  abbrev Decided : Request → List (List ℕ) → Type 0
  Decided request zone = MakesUpdate rules s caller zone request ⊎ (¬ MakesUpdate rules s caller zone request)

  decided : (request : Request) → HasUpdate request → (zone : List (List ℕ)) → Decided request zone
  decided (requests.Update origin id update) is zone = by_receipt (s.receipts caller id) refl (refusal rules caller origin update (s.zones origin)) refl
    where
      by_receipt : (o : Option Receipt) → s.receipts caller id ≡ o → (r : Option UpdateReply) → refusal rules caller origin update (s.zones origin) ≡ r → Decided (requests.Update origin id update) zone
      by_receipt (Some kept) e r f = inr (λ makes. some_none (s.receipts caller id) kept e makes.1.1.fresh)
      by_receipt None e (Some reply) f = inr (λ makes. some_none (refusal rules caller origin update (s.zones origin)) reply f (not_refused rules s zones caller id origin update is makes.1.0 makes.1.1))
      by_receipt None e None f =
          by_cases (same_name origin zone) (Decided (requests.Update origin id update) zone) (λ t. inl (name_is origin zone t, if_made rules s zones caller id origin update is e f))
          (λ t. inr (λ makes. let g : true ≡ false = sym (ap (λ n. same_name n zone) makes.0 ∙ name_self zone) ∙ t in cc))
  decided request is zone = inr (λ makes. makes)

  -- where one is
  record Makes (request : Request) (zone : List (List ℕ)) (held : Held) : Type 0 where
    update : UpdateOf
    this : MakesThis rules s caller zone update request
    after : Held
    there : (step rules s caller request).after.zones zone ≡ Some after
    in_order : zone_held zone after ≡ zone_after (zone_held zone held) update
    is_zone : IsZone (zone_held zone after)
    noted : AreNoted held after

  made_whole : (id : List ℕ) (update : UpdateOf) → IsUpdate update → (origin : List (List ℕ)) (held : Held) → IsMade rules s caller id origin update held → IsWhole rules s caller origin update held (step rules s caller (requests.Update origin id update))
      → Makes (requests.Update origin id update) origin held
  made_whole id update is origin held m whole =
      let after_is : IsZone (zone_held origin whole.after) = subst (λ (z : ZoneOf). IsZone z) (sym whole.zone) (updates_keep (zone_held origin held) update (zones origin held m.there) is m.inside) in
      record {
        update = update;
        this = (refl, (refl, (held, m)));
        after = whole.after;
        there = whole.there;
        in_order = whole.zone;
        is_zone = after_is;
        noted = noted_one origin held whole.after (zones origin held m.there) after_is whole.noted;
      }

  makes_of : (request : Request) → HasUpdate request → (zone : List (List ℕ)) (held : Held) → s.zones zone ≡ Some held → MakesUpdate rules s caller zone request → Makes request zone held
  makes_of (requests.Update origin id update) is zone held there makes =
      subst (λ z. (h : Held) → s.zones z ≡ Some h → Makes (requests.Update origin id update) z h) makes.0 own held there
    where
      own : (h : Held) → s.zones origin ≡ Some h → Makes (requests.Update origin id update) origin h
      own h here =
          let m = makes.1.1 in
          let whole = made_whole id update is origin makes.1.0 m ((right (requests.Update origin id update) is).request_is_right.whole makes.1.0 m) in
          subst (λ (x : Held). Makes (requests.Update origin id update) origin x) (same_Some makes.1.0 h (sym m.there ∙ here)) whole
  makes_of request is zone held there makes = absurd makes

  -- and where none is
  unmade : (request : Request) → HasUpdate request → (zone : List (List ℕ)) → ¬ MakesUpdate rules s caller zone request → (step rules s caller request).after.zones zone ≡ s.zones zone
  unmade request has zone none = (elim ((right request has).zones_stay zone) [ inl same ↦ same | inr makes ↦ absurd (none makes) ])

  -- an update of no zone is made for it
  no_zone : (request : Request) (zone : List (List ℕ)) → s.zones zone ≡ None → ¬ MakesUpdate rules s caller zone request
  no_zone (requests.Update origin id update) zone none makes = some_none (s.zones zone) makes.1.0 (ap s.zones (sym makes.0) ∙ makes.1.1.there) none
  no_zone request zone none makes = makes

  -- a step keeps zones
  pub keeps_zones : (request : Request) → HasUpdate request → AreZones (step rules s caller request).after
  keeps_zones request has zone held there = by_held (s.zones zone) refl
    where
      by_held : (o : Option Held) → s.zones zone ≡ o → IsZone (zone_held zone held)
      by_held None e = some_none ((step rules s caller request).after.zones zone) held there (unmade request has zone (no_zone request zone e) ∙ e)
      by_held (Some old) e = (elim (decided request has zone) [
        | inl makes ↦ (let m = makes_of request has zone old e makes in subst (λ (h : Held). IsZone (zone_held zone h)) (same_Some m.after held (sym m.there ∙ there)) m.is_zone)
        | inr not ↦ zones zone held (sym (unmade request has zone not) ∙ there)
      ])

-- ---- calls in turn

module _ (rules : List Rule) where
  turns_right : (s : State) → AreZones s → AreReceipts s → (front rest : List Call) (call : Call) → HaveUpdates (front ++ call ∷ rest)
      → TurnIsRight rules (state_after rules s front) call.caller call.request (turn rules (state_after rules s front) call)
  turns_right s zones receipts [] rest call have = step_is_right rules s zones receipts call.caller call.request have.0
  turns_right s zones receipts (first ∷ front) rest call have =
      turns_right (turn rules s first).after (keeps_zones rules s zones receipts first.caller first.request have.0) (keeps_receipts rules s zones receipts first.caller first.request have.0) front rest call have.1

  none_comes : (s : State) → AreZones s → AreReceipts s → (calls : List Call) → HaveUpdates calls → (zone : List (List ℕ)) → s.zones zone ≡ None → (state_after rules s calls).zones zone ≡ None
  none_comes s zones receipts [] have zone none = none
  none_comes s zones receipts (call ∷ calls) have zone none =
      none_comes (turn rules s call).after (keeps_zones rules s zones receipts call.caller call.request have.0) (keeps_receipts rules s zones receipts call.caller call.request have.0) calls have.1 zone
      (unmade rules s zones receipts call.caller call.request have.0 zone (no_zone rules s zones receipts call.caller call.request zone none) ∙ none)

  -- what is right of a zone, with its changes in one
  record IsRightTo (s : State) (calls : List Call) (zone : List (List ℕ)) (held : Held) : Type 0 where
    after : Held
    there : (state_after rules s calls).zones zone ≡ Some after
    updates : List UpdateOf
    are_made : AreMade rules s calls zone updates
    in_order : zone_held zone after ≡ fold zone_after (zone_held zone held) updates
    noted : AreNoted held after

  right_to : (s : State) → AreZones s → AreReceipts s → (calls : List Call) → HaveUpdates calls → (zone : List (List ℕ)) (held : Held) → s.zones zone ≡ Some held → IsRightTo s calls zone held
  right_to s zones receipts [] have zone held there = record { after = held; there = there; updates = []; are_made = refl; in_order = refl; noted = noted_none held }
  right_to s zones receipts (call ∷ calls) have zone held there =
      one_more
      (λ h here. right_to (turn rules s call).after (keeps_zones rules s zones receipts call.caller call.request have.0) (keeps_receipts rules s zones receipts call.caller call.request have.0) calls have.1 zone h here)
    where
      with_made : (m : Makes rules s zones receipts call.caller call.request zone held) → IsRightTo (turn rules s call).after calls zone m.after → IsRightTo s (call ∷ calls) zone held
      with_made m rest = record {
        after = rest.after;
        there = rest.there;
        updates = m.update ∷ rest.updates;
        are_made = inl (m.update, rest.updates, refl, m.this, rest.are_made);
        in_order = rest.in_order ∙ ap (λ (z : ZoneOf). fold zone_after z rest.updates) m.in_order;
        noted = noted_more held m.after rest.after m.noted rest.noted;
      }

      without : ¬ MakesUpdate rules s call.caller zone call.request → IsRightTo (turn rules s call).after calls zone held → IsRightTo s (call ∷ calls) zone held
      without not rest = record { after = rest.after; there = rest.there; updates = rest.updates; are_made = inr (not, rest.are_made); in_order = rest.in_order; noted = rest.noted }

      one_more : ((h : Held) → (turn rules s call).after.zones zone ≡ Some h → IsRightTo (turn rules s call).after calls zone h) → IsRightTo s (call ∷ calls) zone held
      one_more next =
          (elim (decided rules s zones receipts call.caller call.request have.0 zone) [
            | inl makes ↦ (let m = makes_of rules s zones receipts call.caller call.request have.0 zone held there makes in with_made m (next m.after m.there))
            | inr not ↦ without not (next held (unmade rules s zones receipts call.caller call.request have.0 zone not ∙ there))
          ])

pub calls_are_right : AllCallsAreRight
calls_are_right rules s calls zones receipts have =
    record {
      each = λ front rest call e. turns_right rules s zones receipts front rest call (subst HaveUpdates e have);
      zones = λ zone held there. let right = right_to rules s zones receipts calls have zone held there in record {
        after = right.after;
        there = right.there;
        updates = right.updates;
        are_made = right.are_made;
        in_order = right.in_order;
        noted = right.noted.noted;
        changes = right.noted.changes;
        lead = right.noted.lead;
      };
      no_other = λ zone none. none_comes rules s zones receipts calls have zone none;
    }
