-- A caller's replies among all calls are those to its calls alone.
use Rattle.std.proofs.Common.{◌≡◌, ◌≢◌, ℕ, List, [], ◌∷◌, map, Bool, true, false, cond, Option, Some, None, refl, sym, ap, subst, ◌∙◌, inl, inr}
use Rattle.std.specs.Prelude.{bytes_eq}
use Rattle.std.specs.List.{AllByRecursion, filter}
use Rattle.std.proofs.lemmas.Slice.Eq.{bytes_eq-Decides}
use Rattle.dns_names.specs.Labels.{IsName}
use Rattle.grant_policy.specs.declared.action.Action.TheVariants as action
use Rattle.grant_policy.specs.declared.rule.Rule.{Rule}
use Rattle.grant_policy.specs.Isolated.{IsIsolated}
use Rattle.zone_core.specs.Sets.{key_of}
use Rattle.zone_core.specs.declared.update.Operation.{Operation}
use Rattle.zone_core.specs.declared.update.Operation.TheVariants.{Add, DeleteRrset, DeleteName, DeleteRecord}
use Rattle.zone_core.specs.Updates.{UpdateOf, IsUpdate, acted_name}
use Rattle.zone_core.specs.Visibility.{IsInvisible}
use Rattle.zone_core.proofs.SetLemmas.{by_cases}
use Rattle.office_model.specs.declared.request.Request.{Request}
use Rattle.office_model.specs.declared.request.Request.TheVariants as requests
use Rattle.office_model.specs.declared.request.Call.{Call}
use Rattle.office_model.specs.declared.reply.UpdateReply.{UpdateReply}
use Rattle.office_model.specs.declared.receipt.Receipt.{Receipt}
use Rattle.office_model.specs.Replies.{ReplyOf}
use Rattle.office_model.specs.States.{State, Held, AreZones}
use Rattle.office_core.specs.Machine.{step, refusal, made_now, made}
use Rattle.office_core.specs.Runs.{Answer, turn, answers, HasUpdate, HaveUpdates}
use Rattle.office_core.specs.Isolation.{asked_by, replies_to, IsOwn, origin_of, OthersStayAway, OthersStayInvisible, OthersMayNot, SeesNoSoa, CallersAreAlone, BlindCallersAreAlone, PoliciesKeepAlone, IsolatedCallersAreAlone}
use Rattle.office_core.proofs.OwnNameLemmas.{permitted_away}
use Rattle.office_core.proofs.QueryLaws.{laws_of}
use Rattle.office_core.proofs.SameLemmas.{Same, Turns, not_refused, step_alike, step_away, same_self}

module _ (rules : List Rule) (caller : List ℕ) where
  -- ---- runs

  abbrev is_own : Call → Bool
  is_own call = bytes_eq call.caller caller

  -- a call's answer before others is told to its caller alone
  abbrev told_before : Bool → State → Call → List Call → List ReplyOf
  told_before own s call calls =
      let rest = filter (λ (a : Answer). bytes_eq a.caller caller) (answers rules (turn rules s call).after calls) in
      map (λ (a : Answer). a.reply) (cond own (record { caller = call.caller; reply = (turn rules s call).reply } ∷ rest) rest)

  told_own : (s : State) (call : Call) (calls : List Call) → is_own call ≡ true → replies_to caller (answers rules s (call ∷ calls)) ≡ (turn rules s call).reply ∷ replies_to caller (answers rules (turn rules s call).after calls)
  told_own s call calls e = ap (λ own. told_before own s call calls) e

  told_others : (s : State) (call : Call) (calls : List Call) → is_own call ≡ false → replies_to caller (answers rules s (call ∷ calls)) ≡ replies_to caller (answers rules (turn rules s call).after calls)
  told_others s call calls e = ap (λ own. told_before own s call calls) e

  asked_own : (call : Call) (calls : List Call) → is_own call ≡ true → asked_by caller (call ∷ calls) ≡ call ∷ asked_by caller calls
  asked_own call calls e = ap (λ own. cond own (call ∷ asked_by caller calls) (asked_by caller calls)) e

  asked_others : (call : Call) (calls : List Call) → is_own call ≡ false → asked_by caller (call ∷ calls) ≡ asked_by caller calls
  asked_others call calls e = ap (λ own. cond own (call ∷ asked_by caller calls) (asked_by caller calls)) e

  others_call : (call : Call) → is_own call ≡ false → call.caller ≢ caller
  others_call call e same = let f : true ≡ false = sym ((bytes_eq-Decides call.caller caller).1 same) ∙ e in cc

  step_own : (s t : State) (call : Call) → Same rules caller s t → HasUpdate call.request → call.caller ≡ caller → Turns rules caller (turn rules s call) (turn rules t call)
  step_own s t call same is own =
      subst (λ (c : List ℕ). Turns rules caller (step rules s c call.request) (step rules t c call.request)) (sym own) (step_alike rules caller s t same (λ query. (laws_of query).alike rules caller s t same) call.request is)

  runs_alike : (s t : State) (calls : List Call) → Same rules caller s t → HaveUpdates calls → OthersStayInvisible rules caller s calls → replies_to caller (answers rules s calls) ≡ replies_to caller (answers rules t (asked_by caller calls))
  runs_alike s t [] same are invisible = refl
  runs_alike s t (call ∷ calls) same are invisible =
      by_cases (is_own call) (replies_to caller (answers rules s (call ∷ calls)) ≡ replies_to caller (answers rules t (asked_by caller (call ∷ calls))))
      (λ e.
      let turns : Turns rules caller (turn rules s call) (turn rules t call) =
      step_own s t call same are.0 ((bytes_eq-Decides call.caller caller).0 e) in
      told_own s call calls e
      ∙ (λ i. turns.reply i ∷ runs_alike (turn rules s call).after (turn rules t call).after calls turns.after are.1 invisible.1 i)
      ∙ sym (told_own t call (asked_by caller calls) e)
      ∙ ap (λ cs. replies_to caller (answers rules t cs)) (sym (asked_own call calls e)))
      (λ e.
      let differs = others_call call e in
      told_others s call calls e
      ∙ runs_alike (turn rules s call).after t calls (step_away rules caller s t same call.caller differs call.request are.0 (invisible.0 differs)) are.1 invisible.1
      ∙ ap (λ cs. replies_to caller (answers rules t cs)) (sym (asked_others call calls e)))

-- ---- the others

-- who stays away stays invisible
invisible_ops : (Seen : List (List ℕ) → Type 0) (origin : List (List ℕ)) (ops : List Operation) → AllByRecursion (λ op. ¬ Seen (acted_name op)) ops → AllByRecursion (IsInvisible Seen origin) ops
invisible_ops Seen origin [] all = tt
invisible_ops Seen origin (Add r ∷ ops) all = (inl all.0, invisible_ops Seen origin ops all.1)
invisible_ops Seen origin (DeleteRrset name t ∷ ops) all = (all.0, invisible_ops Seen origin ops all.1)
invisible_ops Seen origin (DeleteName name ∷ ops) all = (all.0, invisible_ops Seen origin ops all.1)
invisible_ops Seen origin (DeleteRecord name rdata ∷ ops) all = (all.0, invisible_ops Seen origin ops all.1)

invisible_calls : (rules : List Rule) (caller : List ℕ) (s : State) (calls : List Call) → OthersStayAway rules caller s calls → OthersStayInvisible rules caller s calls
invisible_calls rules caller s [] away = tt
invisible_calls rules caller s (call ∷ calls) away = (
  λ differs. invisible_ops (IsOwn rules caller) (origin_of call.request) (made rules s call.caller call.request) (away.0 differs),
  invisible_calls rules caller (turn rules s call).after calls away.1,
)

-- where the policy keeps the caller's names from the others, they stay away
module _ (rules : List Rule) (caller : List ℕ) (others : OthersMayNot rules caller) where
  update_away : (other : List ℕ) → other ≢ caller → (origin : List (List ℕ)) (update : UpdateOf) → IsUpdate update → (x : Option Held) (kept : Option Receipt) (f : Option UpdateReply) → refusal rules other origin update x ≡ f → AllByRecursion (λ op. ¬ IsOwn rules caller (acted_name op)) (made_now kept f update)
  update_away other differs origin update is x (Some kept) f e = tt
  update_away other differs origin update is x None (Some reply) e = tt
  update_away other differs origin update is x None None e = permitted_away rules other origin caller others differs update is (not_refused rules other origin update x e).permitted

  stays_away : (s : State) (other : List ℕ) → other ≢ caller → (request : Request) → HasUpdate request → AllByRecursion (λ op. ¬ IsOwn rules caller (acted_name op)) (made rules s other request)
  stays_away s other differs (requests.Update origin id update) is = update_away other differs origin update is (s.zones origin) (s.receipts other id) (refusal rules other origin update (s.zones origin)) refl
  stays_away s other differs (requests.Read query) is = tt

  stay_away : (s : State) (calls : List Call) → HaveUpdates calls → OthersStayAway rules caller s calls
  stay_away s [] are = tt
  stay_away s (call ∷ calls) are = (λ differs. stays_away s call.caller differs call.request are.0, stay_away (turn rules s call).after calls are.1)

-- an isolated caller sees no SOA at an origin, which is a name
sees_no_soa : (rules : List Rule) (caller : List ℕ) (s : State) → AreZones s → IsIsolated rules caller → SeesNoSoa rules caller s
sees_no_soa rules caller s zones is origin held e =
    let zone = zones origin held e in
    let soa = zone.soa.0 in
    let named : IsName origin = subst IsName zone.soa.1.origin (zone.kept (key_of soa) soa zone.soa.1.here).1.owner in
    let blind = (is origin named).blind in
    record { unlisted = blind action.List (inl refl); unchecked = blind action.Check (inr refl) }

-- ---- the laws

pub blind_callers_are_alone : BlindCallersAreAlone
blind_callers_are_alone rules caller s calls zones are blind invisible = runs_alike rules caller s s calls (same_self rules caller s zones blind) are invisible

pub callers_are_alone : CallersAreAlone
callers_are_alone rules caller s calls zones are rights away =
    blind_callers_are_alone rules caller s calls zones are
    (λ origin held e. record { unlisted = rights origin held e action.List; unchecked = rights origin held e action.Check }) (invisible_calls rules caller s calls away)

pub policies_keep_alone : PoliciesKeepAlone
policies_keep_alone rules caller s calls zones are blind others =
    blind_callers_are_alone rules caller s calls zones are blind (invisible_calls rules caller s calls (stay_away rules caller others s calls are))

pub isolated_callers_are_alone : IsolatedCallersAreAlone
isolated_callers_are_alone rules caller s calls zones are is =
    policies_keep_alone rules caller s calls zones are (sees_no_soa rules caller s zones is) (λ other name t a differs named own change. (is name named).alone own other t a differs change)
