-- What calls are told is right.
use Rattle.std.proofs.Common.{◌≡◌, ◌↔◌, ◌⊎◌, ℕ, zero, suc, List, [], ◌∷◌, length, Option, Some, None, inl, inr, refl, sym, ap, subst, ◌∙◌}
use Rattle.std.specs.Prelude.{slice_get}
use Rattle.grant_policy.specs.declared.rule.Rule.{Rule}
use Rattle.zone_core.specs.Zones.{ZoneOf, IsZone}
use Rattle.zone_core.specs.Updates.{UpdateOf, IsUpdate}
use Rattle.zone_core.specs.Accounts.{IsMadeBy}
use Rattle.zone_core.proofs.VersionLemmas.{updates_keep}
use Rattle.zone_core.proofs.MakeLemmas.{updates_make}
use Rattle.zone_core.proofs.OutsideLemmas.{outsides_are_first}
use Rattle.zone_core.proofs.UnmetLemmas.{verdicts_are_first}
use Rattle.office_model.specs.declared.receipt.Receipt.{Receipt}
use Rattle.office_model.specs.declared.reply.UpdateReply.{UpdateReply}
use Rattle.office_model.specs.declared.reply.UpdateReply.TheVariants as replies
use Rattle.office_model.specs.declared.request.Call.{Call}
use Rattle.office_model.specs.declared.request.Request.{Request}
use Rattle.office_model.specs.declared.request.Request.TheVariants as requests
use Rattle.office_model.specs.Replies.{ReplyOf, to_update, id_reused}
use Rattle.office_model.specs.States.{Held, State, AreZones, AreReceipts, zone_held}
use Rattle.office_core.specs.Machine.{Turn, receipt}
use Rattle.office_core.specs.Runs.{Answer, HasUpdate, HaveUpdates, turn, answers}
use Rattle.office_core.specs.Promises.{IsMade, UpdateIsRight, TurnIsRight}
use Rattle.office_core.specs.RightAnswers.{IsDue, IsMadeWhole, LeavesZones, NewIsRight, IsReceiptOf, RepeatIsRight, ReplyIsRight, AnswerIsRight, state_before, IsMadeUnder, AllAnswersAreRight}
use Rattle.office_core.proofs.QueryLaws.{laws_of}
use Rattle.office_core.proofs.PromiseLemmas.{same_Some, some_none, step_is_right, keeps_receipts}
use Rattle.office_core.proofs.CallLemmas.{keeps_zones, calls_are_right}

same_reply : (a b : UpdateReply) → to_update a ≡ to_update b → a ≡ b
same_reply a b e = cc

-- ---- an update

module _ (rules : List Rule) (s : State) (zones : AreZones s) (caller id : List ℕ) (origin : List (List ℕ)) (update : UpdateOf) (is : IsUpdate update) (done : Turn) (right : TurnIsRight rules s caller (requests.Update origin id update) done) where
  abbrev own : UpdateIsRight rules s caller id origin update done
  own = right.request_is_right

  whole_right : (held : Held) → IsMade rules s caller id origin update held → IsMadeWhole rules s caller origin update held done.after
  whole_right held m =
      let whole = own.whole held m in
      let before : IsZone (zone_held origin held) = zones origin held m.there in
      record {
        now = whole.after;
        there = whole.there;
        is_zone = subst (λ (z : ZoneOf). IsZone z) (sym whole.zone) (updates_keep (zone_held origin held) update before is m.inside);
        records = subst (λ (z : ZoneOf). IsMadeBy (zone_held origin held) update z) (sym whole.zone) (updates_make (zone_held origin held) update before is m.inside);
        serial = whole.serial;
        moved = whole.moved;
        noted = whole.noted;
        others = whole.others;
      }

  unmade : (told : UpdateReply) → done.reply ≡ to_update told → (told ≡ replies.NoError → ⊥) → (o : List (List ℕ)) → done.after.zones o ≡ s.zones o
  unmade told e differ o = (elim (right.zones_stay o) [
    | inl same ↦ same
    | inr makes ↦ absurd (differ (same_reply told replies.NoError (sym e ∙ (own.whole makes.1.0 makes.1.1).reply)))
  ])

  leaves : s.receipts caller id ≡ None → (told : UpdateReply) → done.reply ≡ to_update told → LeavesZones rules s caller origin update done.after told
  leaves fresh replies.NoError e = let m = own.only fresh e in (m.0, m.1.there, whole_right m.0 m.1)
  leaves fresh replies.NotAuth e = unmade replies.NotAuth e (λ f. cc)
  leaves fresh (replies.NotZone place) e = unmade (replies.NotZone place) e (λ f. cc)
  leaves fresh (replies.Refused place by) e = unmade (replies.Refused place by) e (λ f. cc)
  leaves fresh (replies.Failed failed) e = unmade (replies.Failed failed) e (λ f. cc)

  due : s.receipts caller id ≡ None → (other : UpdateReply) → (done.reply ≡ to_update other) ↔ IsDue rules s caller id origin update other
  due fresh replies.NoError = (own.only fresh, λ m. (own.whole m.0 m.1).reply)
  due fresh replies.NotAuth = own.not_auth fresh
  due fresh (replies.NotZone place) =
      let told = own.not_zone fresh place in
      let first = outsides_are_first origin update place in
      (λ e. let o = told.0 e in (o.0, o.1, first.0 o.2), λ o. told.1 (o.0, o.1, first.1 o.2))
  due fresh (replies.Refused place by) = own.denied fresh (record { place = place; by = by })
  due fresh (replies.Failed failed) =
      let told = own.failed fresh failed in (
        λ e.
            let f = told.0 e in
            record {
              held = f.held;
              there = f.there;
              inside = f.inside;
              permitted = f.permitted;
              first = (verdicts_are_first f.held.records update.prerequisites (zones origin f.held f.there).kept is.prerequisites failed).0 f.unmet;
            },
        λ f. told.1 (record {
          held = f.held;
          there = f.there;
          inside = f.inside;
          permitted = f.permitted;
          unmet = (verdicts_are_first f.held.records update.prerequisites (zones origin f.held f.there).kept is.prerequisites failed).1 f.first;
        }),
      )

  new_right : s.receipts caller id ≡ None → NewIsRight rules s caller id origin update done.reply done.after
  new_right fresh =
      let kept = own.kept fresh in
      record {
        told = kept.0;
        reply_is = kept.1;
        exactly = due fresh;
        zones = leaves fresh kept.0 kept.1;
        kept = kept.2;
        others = right.receipts_of_others;
      }

  repeat_right : (kept : Receipt) → s.receipts caller id ≡ Some kept → RepeatIsRight s origin update kept done.reply done.after
  repeat_right kept there =
      let both = own.repeated kept there in
      (both.0, elim (both.1) [ inl same ↦ inl ((same.0, same.1), same.2) | inr other ↦ inr (other.0, other.1) ])

-- ---- a request

reply_right : (rules : List Rule) (s : State) → AreZones s → (caller : List ℕ) (request : Request) → HasUpdate request → (done : Turn) → TurnIsRight rules s caller request done
    → ReplyIsRight rules s caller request done.reply done.after
reply_right rules s zones caller (requests.Update origin id update) is done right =
    (new_right rules s zones caller id origin update is done right, repeat_right rules s zones caller id origin update is done right)
reply_right rules s zones caller (requests.Read query) is done right =
    let both = right.request_is_right in (both.0, (laws_of query).told rules s caller done.reply both.1)

-- ---- a receipt that is kept

module _ (rules : List Rule) (caller id : List ℕ) (origin : List (List ℕ)) (update : UpdateOf) where
  abbrev asked : Request
  asked = requests.Update origin id update

  -- what is told of an update by a receipt
  abbrev AnsweredBy : Receipt → ReplyOf → Type 0
  AnsweredBy kept reply = (IsReceiptOf origin update kept × (reply ≡ to_update kept.reply)) ⊎ (¬ IsReceiptOf origin update kept × (reply ≡ id_reused))

  told_same : (kept : Receipt) (a b : ReplyOf) → AnsweredBy kept a → AnsweredBy kept b → b ≡ a
  told_same kept a b (inl one) (inl two) = two.1 ∙ sym one.1
  told_same kept a b (inl one) (inr two) = absurd (two.0 one.0)
  told_same kept a b (inr one) (inl two) = absurd (one.0 two.0)
  told_same kept a b (inr one) (inr two) = two.1 ∙ sym one.1

  -- a receipt that is there after the reply, and tells it
  abbrev Keeps : ReplyOf → State → Type 0
  Keeps reply after = (kept : Receipt) × (after.receipts caller id ≡ Some kept) × AnsweredBy kept reply

  keeps : (s : State) (reply : ReplyOf) (after : State) → ReplyIsRight rules s caller asked reply after → Keeps reply after
  keeps s reply after right = by_receipt (s.receipts caller id) refl
    where
      by_receipt : (o : Option Receipt) → s.receipts caller id ≡ o → Keeps reply after
      by_receipt None e = let new = right.0 e in (receipt origin update new.told, new.kept, inl ((refl, refl), new.reply_is))
      by_receipt (Some kept) e = let old = right.1 kept e in (kept, ap (λ (t : State). t.receipts caller id) old.0 ∙ e, old.1)

-- ---- calls in turn

module _ (rules : List Rule) where
  -- after one call
  next_zones : (s : State) → AreZones s → AreReceipts s → (call : Call) → HasUpdate call.request → AreZones (turn rules s call).after
  next_zones s zones receipts call has = keeps_zones rules s zones receipts call.caller call.request has

  next_receipts : (s : State) → AreZones s → AreReceipts s → (call : Call) → HasUpdate call.request → AreReceipts (turn rules s call).after
  next_receipts s zones receipts call has = keeps_receipts rules s zones receipts call.caller call.request has

  as_many : (s : State) (calls : List Call) → length (answers rules s calls) ≡ length calls
  as_many s [] = refl
  as_many s (call ∷ calls) = ap (λ (n : ℕ). suc n) (as_many (turn rules s call).after calls)

  each_right : (s : State) → AreZones s → AreReceipts s → (calls : List Call) → HaveUpdates calls → (k : ℕ) (call : Call) (answer : Answer) → slice_get calls k ≡ Some call → slice_get (answers rules s calls) k ≡ Some answer
      → AnswerIsRight rules (state_before rules s calls k) call answer (state_before rules s calls (suc k))
  each_right s zones receipts [] have k call answer at told = absurd cc
  each_right s zones receipts (first ∷ calls) have zero call answer at told =
      subst (λ (x : Call). AnswerIsRight rules s x answer (turn rules s first).after) (same_Some first call at)
      (subst (λ (a : Answer). AnswerIsRight rules s first a (turn rules s first).after) (same_Some (record { caller = first.caller; reply = (turn rules s first).reply }) answer told)
      (record { caller = refl; reply = reply_right rules s zones first.caller first.request have.0 (turn rules s first) (step_is_right rules s zones receipts first.caller first.request have.0) }))
  each_right s zones receipts (first ∷ calls) have (suc k) call answer at told =
      each_right (turn rules s first).after (next_zones s zones receipts first have.0) (next_receipts s zones receipts first have.0) calls have.1 k call answer at told

  -- no receipt is lost
  stays : (s : State) → AreZones s → AreReceipts s → (calls : List Call) → HaveUpdates calls → (k : ℕ) (c i : List ℕ) (kept : Receipt) → s.receipts c i ≡ Some kept → (state_before rules s calls k).receipts c i ≡ Some kept
  stays s zones receipts calls have zero c i kept e = e
  stays s zones receipts [] have (suc k) c i kept e = e
  stays s zones receipts (call ∷ calls) have (suc k) c i kept e =
      stays (turn rules s call).after (next_zones s zones receipts call have.0) (next_receipts s zones receipts call have.0) calls have.1 k c i kept
      ((step_is_right rules s zones receipts call.caller call.request have.0).receipts_stay c i kept e)

  -- ---- an update under an identifier

  module _ (caller id : List ℕ) where
    abbrev call_of : List (List ℕ) → UpdateOf → Call
    call_of origin update = record { caller = caller; request = requests.Update origin id update }

    -- the reply to the first of calls is kept
    first_keeps : (s : State) → AreZones s → AreReceipts s → (first : Call) → HasUpdate first.request → (origin : List (List ℕ)) (update : UpdateOf) → first ≡ call_of origin update
        → Keeps rules caller id origin update (turn rules s first).reply (turn rules s first).after
    first_keeps s zones receipts first has origin update e =
        subst (λ (x : Call). HasUpdate x.request → Keeps rules caller id origin update (turn rules s x).reply (turn rules s x).after) (sym e)
        (λ is. keeps rules caller id origin update s (turn rules s (call_of origin update)).reply (turn rules s (call_of origin update)).after
        (reply_right rules s zones caller (requests.Update origin id update) is (turn rules s (call_of origin update)) (step_is_right rules s zones receipts caller (requests.Update origin id update) is)))
        has

    -- and so none of the rest is made
    none_after : (s : State) → AreZones s → AreReceipts s → (first : Call) (calls : List Call) → HaveUpdates (first ∷ calls) → (k : ℕ) (call : Call) → IsMadeUnder rules s caller id first
        → IsMadeUnder rules (state_before rules s (first ∷ calls) (suc k)) caller id call → ⊥
    none_after s zones receipts first calls have k call (origin, update, held, is, m) later_made =
        let kept = first_keeps s zones receipts first have.0 origin update is in
        let later = stays (turn rules s first).after (next_zones s zones receipts first have.0) (next_receipts s zones receipts first have.0) calls have.1 k caller id kept.0 kept.1 in
        some_none ((state_before rules s (first ∷ calls) (suc k)).receipts caller id) kept.0 later later_made.4.fresh

    made_once : (s : State) → AreZones s → AreReceipts s → (calls : List Call) → HaveUpdates calls → (j k : ℕ) (call other : Call) → slice_get calls j ≡ Some call → slice_get calls k ≡ Some other
        → IsMadeUnder rules (state_before rules s calls j) caller id call → IsMadeUnder rules (state_before rules s calls k) caller id other → j ≡ k
    made_once s zones receipts [] have j k call other at also m n = absurd cc
    made_once s zones receipts (first ∷ calls) have zero zero call other at also m n = refl
    made_once s zones receipts (first ∷ calls) have zero (suc k) call other at also m n =
        absurd (none_after s zones receipts first calls have k other (subst (λ (x : Call). IsMadeUnder rules s caller id x) (sym (same_Some first call at)) m) n)
    made_once s zones receipts (first ∷ calls) have (suc j) zero call other at also m n =
        absurd (none_after s zones receipts first calls have j call (subst (λ (x : Call). IsMadeUnder rules s caller id x) (sym (same_Some first other also)) n) m)
    made_once s zones receipts (first ∷ calls) have (suc j) (suc k) call other at also m n =
        ap (λ (i : ℕ). suc i)
        (made_once (turn rules s first).after (next_zones s zones receipts first have.0) (next_receipts s zones receipts first have.0) calls have.1 j k call other at also m n)

    module _ (origin : List (List ℕ)) (update : UpdateOf) where
      -- the same update is told the same later
      told_later : (s : State) → AreZones s → AreReceipts s → (first : Call) (calls : List Call) → HaveUpdates (first ∷ calls) → (k : ℕ) (one two : Answer) → first ≡ call_of origin update → slice_get calls k ≡ Some (call_of origin update)
          → slice_get (answers rules s (first ∷ calls)) zero ≡ Some one → slice_get (answers rules s (first ∷ calls)) (suc k) ≡ Some two → two.reply ≡ one.reply
      told_later s zones receipts first calls have k one two is at told also =
          let zones_next = next_zones s zones receipts first have.0 in
          let receipts_next = next_receipts s zones receipts first have.0 in
          let kept = first_keeps s zones receipts first have.0 origin update is in
          let there = stays (turn rules s first).after zones_next receipts_next calls have.1 k caller id kept.0 kept.1 in
          let right = each_right (turn rules s first).after zones_next receipts_next calls have.1 k (call_of origin update) two at also in
          let answered : (turn rules s first).reply ≡ one.reply = ap (λ (a : Answer). a.reply) (same_Some (record { caller = first.caller; reply = (turn rules s first).reply }) one told) in
          told_same rules caller id origin update kept.0 (turn rules s first).reply two.reply kept.2 (right.reply.1 kept.0 there).1 ∙ answered

      told_again : (s : State) → AreZones s → AreReceipts s → (calls : List Call) → HaveUpdates calls → (j k : ℕ) (one two : Answer) → slice_get calls j ≡ Some (call_of origin update) → slice_get calls k ≡ Some (call_of origin update)
          → slice_get (answers rules s calls) j ≡ Some one → slice_get (answers rules s calls) k ≡ Some two → two.reply ≡ one.reply
      told_again s zones receipts [] have j k one two at also told too = absurd cc
      told_again s zones receipts (first ∷ calls) have zero zero one two at also told too = ap (λ (a : Answer). a.reply) (same_Some two one (sym too ∙ told))
      told_again s zones receipts (first ∷ calls) have zero (suc k) one two at also told too =
          told_later s zones receipts first calls have k one two (same_Some first (call_of origin update) at) also told too
      told_again s zones receipts (first ∷ calls) have (suc j) zero one two at also told too =
          sym (told_later s zones receipts first calls have j two one (same_Some first (call_of origin update) also) at too told)
      told_again s zones receipts (first ∷ calls) have (suc j) (suc k) one two at also told too =
          told_again (turn rules s first).after (next_zones s zones receipts first have.0) (next_receipts s zones receipts first have.0) calls have.1 j k one two at also told too

pub answers_are_right : AllAnswersAreRight
answers_are_right rules s calls zones receipts have =
    let right = calls_are_right rules s calls zones receipts have in
    record {
      as_many = as_many rules s calls;
      each = each_right rules s zones receipts calls have;
      once = λ caller id. made_once rules caller id s zones receipts calls have;
      again = λ caller id origin update. told_again rules caller id origin update s zones receipts calls have;
      zones = right.zones;
      no_other = right.no_other;
    }
