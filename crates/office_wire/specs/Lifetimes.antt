-- Lifetimes of a service: each begins with what the one before left on the disk, whether that ended or was cut off by a crash.
use Rattle.std.specs.Prelude.{◌≡◌, ◌⊎◌, List, [], ◌∷◌, ◌++◌, Some}
use Rattle.grant_policy.specs.declared.rule.Rule.{Rule}
use Rattle.office_model.specs.declared.request.Call.{Call}
use Rattle.office_model.specs.States.{State}
use Rattle.office_core.specs.Runs.{answers}
use Rattle.office_core.specs.Histories.{RuledCall, ruled, state_after_all}
use Rattle.office_wire.specs.Exchange.{Turn, Standing, Run}
use Rattle.office_wire.specs.Promises.{IsUnanswered, calls, given}

-- the rules of its policy, the turns of all its connections, and how the table stood before and after
pub record Lifetime : Type 0 where
  pub rules : List Rule
  pub turns : List Turn
  pub before : Standing
  pub after : Standing

-- It began with a state that was on the disk, and nothing else was; and its turns lead from there to how the table stood last.
pub record IsLifetime (l : Lifetime) : Type 0 where
  pub settled : l.before.other ≡ Some l.before.state
  pub run : Run l.rules l.before l.turns l.after

-- what is on the disk after it, whether it ended or was cut off: the state that the table held last, or the other one
abbrev pub IsLeftBy : Lifetime → State → Type 0
IsLeftBy l s = (s ≡ l.after.state) ⊎ (l.after.other ≡ Some s)

-- from the state that the first found to one that the last left, each begins with what the one before it left
abbrev pub AreLifetimes : State → List Lifetime → State → Type 0
AreLifetimes s [] t = t ≡ s
AreLifetimes s (l ∷ later) t = (l.before.state ≡ s) × IsLifetime l × (m : State) × IsLeftBy l m × AreLifetimes m later t

-- ---- their history

-- a call of a turn that was answered SERVFAIL
pub record WasInHand (turns : List Turn) (call : Call) : Type 0 where
  pub earlier : List Turn
  pub turn : Turn
  pub later : List Turn
  pub among : turns ≡ earlier ++ turn ∷ later
  pub unanswered : IsUnanswered call turn

-- What was made at the end of a lifetime, though nobody was told: nothing, or one call that was answered SERVFAIL.
abbrev pub IsHand : List Turn → List Call → Type 0
IsHand turns [] = Unit {0}
IsHand turns (call ∷ []) = WasInHand turns call
IsHand turns calls = ⊥

-- the calls of lifetimes in their order: those that were answered, and what was made at the end of each
abbrev pub history : List Lifetime → List (List Call) → List RuledCall
history [] hands = []
history (l ∷ later) [] = []
history (l ∷ later) (hand ∷ hands) = ruled l.rules (calls l.turns ++ hand) ++ history later hands

-- In each lifetime the calls were answered as the machine answers them from the state that all calls before lead to.
abbrev pub AreAcknowledged : State → List Lifetime → List (List Call) → Type 0
AreAcknowledged s [] [] = Unit {0}
AreAcknowledged s (l ∷ later) (hand ∷ hands) =
    (given l.turns ≡ answers l.rules s (calls l.turns)) × IsHand l.turns hand
    × AreAcknowledged (state_after_all s (ruled l.rules (calls l.turns ++ hand))) later hands
AreAcknowledged s lives hands = ⊥

-- However many lifetimes there were, and however each ended: there is one history of all calls that were answered in them, and of at most
-- one for each that was answered SERVFAIL. Each answer is that of the machine at its place in the history, which leads to what is on the
-- disk.
abbrev pub HistoriesAreOne : Type 0
HistoriesAreOne =
    (s t : State) (lives : List Lifetime) → AreLifetimes s lives t
    → (hands : List (List Call)) × AreAcknowledged s lives hands × (t ≡ state_after_all s (history lives hands))
