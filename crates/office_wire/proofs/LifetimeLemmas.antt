-- The history of lifetimes.
use Rattle.std.proofs.Common.{◌≡◌, List, [], ◌∷◌, ◌++◌, Some, refl, sym, ap, subst, ◌∙◌, inl, inr, append-nil}
use Rattle.std.proofs.lemmas.List.{map-append}
use Rattle.grant_policy.specs.declared.rule.Rule.{Rule}
use Rattle.office_model.specs.declared.request.Call.{Call}
use Rattle.office_model.specs.States.{State}
use Rattle.office_core.specs.Runs.{turn, answers, state_after}
use Rattle.office_core.specs.Histories.{RuledCall, ruled, state_after_all}
use Rattle.office_core.proofs.HistoryLemmas.{after_more}
use Rattle.office_wire.specs.Promises.{IsInHand, calls, after_call}
use Rattle.office_wire.specs.Lifetimes.{Lifetime, IsLifetime, IsLeftBy, AreLifetimes, IsHand, history, HistoriesAreOne}
use Rattle.office_wire.proofs.PromiseLemmas.{run_answers, run_leads}
use Rattle.office_wire.proofs.CrashLemmas.{crashes_leave_one_more}

same_state : (a b : State) → Some a ≡ Some b → a ≡ b
same_state a b e = cc

-- one policy's calls are a part of a history
by_one : (rules : List Rule) (s : State) (cs : List Call) → state_after rules s cs ≡ state_after_all s (ruled rules cs)
by_one rules s [] = refl
by_one rules s (c ∷ cs) = by_one rules (turn rules s c).after cs

-- the calls that were answered lead to what the table held last
answered_leads : (l : Lifetime) → IsLifetime l → l.after.state ≡ state_after_all l.before.state (ruled l.rules (calls l.turns))
answered_leads l is = run_leads l.rules l.before l.after l.turns is.run ∙ by_one l.rules l.before.state (calls l.turns)

-- and what was in hand to what is on the disk
abbrev Ends : Lifetime → State → Type 0
Ends l m = (hand : List Call) × IsHand l.turns hand × (m ≡ state_after_all l.before.state (ruled l.rules (calls l.turns ++ hand)))

ends_still : (l : Lifetime) (m : State) → IsLifetime l → m ≡ l.after.state → Ends l m
ends_still l m is e = ([], tt, e ∙ answered_leads l is ∙ ap (λ (cs : List Call). state_after_all l.before.state (ruled l.rules cs)) (sym (append-nil (calls l.turns))))

ends_in_hand : (l : Lifetime) (m : State) → IsLifetime l → l.after.other ≡ Some m → IsInHand l.rules l.turns l.after → Ends l m
ends_in_hand l m is e hand =
    let one : List Call = hand.call ∷ [] in
    let here = state_after_all l.before.state (ruled l.rules (calls l.turns)) in (
      one,
      record { earlier = hand.earlier; turn = hand.turn; later = hand.later; among = hand.among; unanswered = hand.unanswered },
      same_state m (after_call l.rules l.after.state hand.call) (sym e ∙ hand.left)
          ∙ ap (λ (k : State). after_call l.rules k hand.call) (answered_leads l is)
          ∙ sym (after_more l.before.state (ruled l.rules (calls l.turns)) (ruled l.rules one))
          ∙ ap (state_after_all l.before.state) (sym (map-append (λ (c : Call). let r : RuledCall = record { rules = l.rules; call = c } in r) (calls l.turns) one)),
    )

ends : (l : Lifetime) (m : State) → IsLifetime l → IsLeftBy l m → Ends l m
ends l m is (inl e) = ends_still l m is e
ends l m is (inr e) = elim (crashes_leave_one_more l.rules l.before l.after l.turns is.settled is.run)
    [ inl still ↦ ends_still l m is (same_state m l.after.state (sym e ∙ still)) | inr hand ↦ ends_in_hand l m is e hand ]

pub histories_are_one : HistoriesAreOne
histories_are_one s t [] is = ([], tt, is)
histories_are_one s t (l ∷ later) is =
    let end = ends l is.2 is.1 is.3 in
    let next = state_after_all s (ruled l.rules (calls l.turns ++ end.0)) in
    let leads : is.2 ≡ next = end.2 ∙ ap (λ (k : State). state_after_all k (ruled l.rules (calls l.turns ++ end.0))) is.0 in
    let rest = histories_are_one next t later (subst (λ (k : State). AreLifetimes k later t) leads is.4) in (
      end.0 ∷ rest.0,
      (
        run_answers l.rules l.before l.after l.turns is.1.run ∙ ap (λ (k : State). answers l.rules k (calls l.turns)) is.0,
        end.1,
        rest.1,
      ),
      rest.2 ∙ sym (after_more s (ruled l.rules (calls l.turns ++ end.0)) (history later rest.0)),
    )
