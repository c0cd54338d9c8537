-- Histories: calls over a long time, each answered by the rules of its time.
use Rattle.std.specs.Prelude.{◌≡◌, ℕ, List, [], ◌∷◌, ◌++◌, map, Some}
use Rattle.grant_policy.specs.declared.rule.Rule.{Rule}
use Rattle.office_model.specs.declared.receipt.Receipt.{Receipt}
use Rattle.office_model.specs.declared.request.Request.{Request}
use Rattle.office_model.specs.declared.request.Request.TheVariants as requests
use Rattle.office_model.specs.declared.request.Call.{Call}
use Rattle.office_model.specs.States.{State}
use Rattle.office_core.specs.Runs.{turn}

-- a call, and the rules by which it is answered
pub record RuledCall : Type 0 where
  pub rules : List Rule
  pub call : Call

-- calls that are answered by one policy
abbrev pub ruled : List Rule → List Call → List RuledCall
ruled rules calls = map (λ call. record { rules = rules; call = call }) calls

-- the state after calls, one after the other
abbrev pub state_after_all : State → List RuledCall → State
state_after_all s [] = s
state_after_all s (c ∷ cs) = state_after_all (turn c.rules s c.call).after cs

-- a request for an update under an identifier
abbrev pub IsUnder : List ℕ → Request → Type 0
IsUnder id (requests.Update origin own update) = own ≡ id
IsUnder id (requests.Read query) = ⊥

-- a call of this caller for an update under an identifier
pub record IsUpdateUnder (caller id : List ℕ) (c : RuledCall) : Type 0 where
  pub by : c.call.caller ≡ caller
  pub under : IsUnder id c.call.request

-- Whatever is called later, by whatever rules: an update that was answered has a receipt, which is never lost or changed.
pub record ReceiptsAreKept : Type 0 where
  pub given : (s : State) (caller id : List ℕ) (c : RuledCall) (later : List RuledCall) → IsUpdateUnder caller id c
      → (kept : Receipt) × ((state_after_all s (c ∷ later)).receipts caller id ≡ Some kept)
  pub kept : (s : State) (caller id : List ℕ) (kept : Receipt) (later : List RuledCall) → s.receipts caller id ≡ Some kept
      → (state_after_all s later).receipts caller id ≡ Some kept

-- Of the updates of a caller under one identifier only the first changes anything, whatever is called before, between and after, and by
-- whatever rules.
abbrev pub UpdatesAreMadeOnce : Type 0
UpdatesAreMadeOnce =
    (s : State) (caller id : List ℕ) (before between : List RuledCall) (first again : RuledCall) → IsUpdateUnder caller id first → IsUpdateUnder caller id again
    → state_after_all s (before ++ first ∷ (between ++ again ∷ [])) ≡ state_after_all s (before ++ first ∷ between)
