-- What long histories keep.
use Rattle.std.proofs.Common.{◌≡◌, ℕ, List, [], ◌∷◌, ◌++◌, Option, Some, None, option_map, refl, sym, ap, subst, ◌∙◌}
use Rattle.grant_policy.specs.declared.rule.Rule.{Rule}
use Rattle.zone_core.specs.Updates.{UpdateOf}
use Rattle.office_model.specs.declared.receipt.Receipt.{Receipt}
use Rattle.office_model.specs.declared.reply.UpdateReply.{UpdateReply}
use Rattle.office_model.specs.declared.reply.UpdateReply.TheVariants.{NoError}
use Rattle.office_model.specs.declared.request.Request.{Request}
use Rattle.office_model.specs.declared.request.Request.TheVariants as requests
use Rattle.office_model.specs.States.{State, hold}
use Rattle.office_core.specs.Machine.{step, answered, updated, refusal, receipt, held_after}
use Rattle.office_core.specs.Histories.{RuledCall, state_after_all, IsUnder, IsUpdateUnder, ReceiptsAreKept, UpdatesAreMadeOnce}
use Rattle.office_core.proofs.PromiseLemmas.{keep_found, keep_stays}

-- ---- one call

module _ (rules : List Rule) (s : State) (caller id : List ℕ) (origin : List (List ℕ)) (update : UpdateOf) where
  -- the receipt of an update is there after it
  answered_has : (o : Option UpdateReply) → (kept : Receipt) × ((answered s caller id origin update o).after.receipts caller id ≡ Some kept)
  answered_has (Some reply) = (receipt origin update reply, keep_found s caller id (receipt origin update reply))
  answered_has None = (receipt origin update NoError, keep_found (hold s origin (option_map (held_after origin update) (s.zones origin))) caller id (receipt origin update NoError))

  updated_has : (o : Option Receipt) → s.receipts caller id ≡ o → (kept : Receipt) × ((updated rules s caller id origin update o).after.receipts caller id ≡ Some kept)
  updated_has (Some kept) e = (kept, e)
  updated_has None e = answered_has (refusal rules caller origin update (s.zones origin))

  -- and so are those that were there
  answered_keeps : s.receipts caller id ≡ None → (o : Option UpdateReply) (c i : List ℕ) (kept : Receipt) → s.receipts c i ≡ Some kept
      → (answered s caller id origin update o).after.receipts c i ≡ Some kept
  answered_keeps fresh (Some reply) c i kept there = keep_stays s caller id (receipt origin update reply) fresh c i kept there
  answered_keeps fresh None c i kept there = keep_stays (hold s origin (option_map (held_after origin update) (s.zones origin))) caller id (receipt origin update NoError) fresh c i kept there

  updated_keeps : (o : Option Receipt) → s.receipts caller id ≡ o → (c i : List ℕ) (kept : Receipt) → s.receipts c i ≡ Some kept
      → (updated rules s caller id origin update o).after.receipts c i ≡ Some kept
  updated_keeps (Some old) e c i kept there = there
  updated_keeps None e c i kept there = answered_keeps e (refusal rules caller origin update (s.zones origin)) c i kept there

step_keeps : (rules : List Rule) (s : State) (caller : List ℕ) (request : Request) (c i : List ℕ) (kept : Receipt) → s.receipts c i ≡ Some kept
    → (step rules s caller request).after.receipts c i ≡ Some kept
step_keeps rules s caller (requests.Update origin id update) c i kept there = updated_keeps rules s caller id origin update (s.receipts caller id) refl c i kept there
step_keeps rules s caller (requests.Read query) c i kept there = there

step_has : (rules : List Rule) (s : State) (caller id : List ℕ) (request : Request) → IsUnder id request
    → (kept : Receipt) × ((step rules s caller request).after.receipts caller id ≡ Some kept)
step_has rules s caller id (requests.Update origin own update) under =
    subst (λ (x : List ℕ). (kept : Receipt) × ((step rules s caller (requests.Update origin own update)).after.receipts caller x ≡ Some kept)) under
    (updated_has rules s caller own origin update (s.receipts caller own) refl)
step_has rules s caller id (requests.Read query) under = absurd under

-- an update under an identifier that has a receipt changes nothing
step_again : (rules : List Rule) (s : State) (caller id : List ℕ) (kept : Receipt) (request : Request) → IsUnder id request → s.receipts caller id ≡ Some kept
    → (step rules s caller request).after ≡ s
step_again rules s caller id kept (requests.Update origin own update) under there =
    ap (λ (o : Option Receipt). (updated rules s caller own origin update o).after) (ap (λ (x : List ℕ). s.receipts caller x) under ∙ there)
step_again rules s caller id kept (requests.Read query) under there = absurd under

-- ---- histories

pub after_more : (s : State) (xs ys : List RuledCall) → state_after_all s (xs ++ ys) ≡ state_after_all (state_after_all s xs) ys
after_more s [] ys = refl
after_more s (x ∷ xs) ys = after_more (step x.rules s x.call.caller x.call.request).after xs ys

all_keep : (s : State) (caller id : List ℕ) (kept : Receipt) (later : List RuledCall) → s.receipts caller id ≡ Some kept → (state_after_all s later).receipts caller id ≡ Some kept
all_keep s caller id kept [] there = there
all_keep s caller id kept (c ∷ cs) there = all_keep (step c.rules s c.call.caller c.call.request).after caller id kept cs (step_keeps c.rules s c.call.caller c.call.request caller id kept there)

call_has : (s : State) (caller id : List ℕ) (c : RuledCall) → IsUpdateUnder caller id c → (kept : Receipt) × ((step c.rules s c.call.caller c.call.request).after.receipts caller id ≡ Some kept)
call_has s caller id c is =
    subst (λ (x : List ℕ). (kept : Receipt) × ((step c.rules s c.call.caller c.call.request).after.receipts x id ≡ Some kept)) is.by
    (step_has c.rules s c.call.caller id c.call.request is.under)

pub receipts_are_kept : ReceiptsAreKept
receipts_are_kept = record {
  given = λ s caller id c later is. let now = call_has s caller id c is in (now.0, all_keep (step c.rules s c.call.caller c.call.request).after caller id now.0 later now.1);
  kept = all_keep;
}

once : (s : State) (caller id : List ℕ) (between : List RuledCall) (first again : RuledCall) → IsUpdateUnder caller id first → IsUpdateUnder caller id again
    → state_after_all s (first ∷ (between ++ again ∷ [])) ≡ state_after_all s (first ∷ between)
once s caller id between first again is next =
    let now = call_has s caller id first is in
    let here = state_after_all s (first ∷ between) in
    let there = all_keep (step first.rules s first.call.caller first.call.request).after caller id now.0 between now.1 in
    after_more (step first.rules s first.call.caller first.call.request).after between (again ∷ [])
    ∙ step_again again.rules here again.call.caller id now.0 again.call.request next.under (ap (λ (x : List ℕ). here.receipts x id) next.by ∙ there)

pub updates_are_made_once : UpdatesAreMadeOnce
updates_are_made_once s caller id before between first again is next =
    after_more s before (first ∷ (between ++ again ∷ [])) ∙ once (state_after_all s before) caller id between first again is next ∙ sym (after_more s before (first ∷ between))
