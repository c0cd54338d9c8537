-- What a file of groups says: what the first of its entries does that speaks of what is asked, and where none does a denial.
use Rattle.std.specs.Prelude.{◌≡◌, ◌⊎◌, ℕ, ◌<◌, List, Some, None, slice_get}
use Rattle.std.specs.List.{Contains}
use Rattle.grant_policy.specs.declared.callers.Callers.{Callers}
use Rattle.grant_policy.specs.Decisions.{denied, decided, decision}
use Rattle.grant_policy.specs.Rules.{Question, IsOf, Has}
use Rattle.grant_policy.specs.Scopes.{Covers}
use Rattle.policy_build.specs.declared.member.Member.{Member}
use Rattle.policy_build.specs.declared.member.Member.TheVariants.{One, Group}
use Rattle.policy_build.specs.declared.names.Names.{Names}
use Rattle.policy_build.specs.Entries.{EntryOf}
use Rattle.policy_build.specs.Making.{MadeOf, BuiltOf, rules_made}
use Rattle.policy_build.specs.Groups.{GroupOf}
use Rattle.policy_build.specs.Sources.{SourceOf}

-- a member stands for itself, and a group for what its members stand for
pub data StandsFor {X : Type 0} (groups : List (GroupOf X)) (x : X) : Member X → Type 0 where
  itself : StandsFor groups x (One x)
  through : (group : GroupOf X) (member : Member X) → Contains groups group → Contains group.members member → StandsFor groups x member → StandsFor groups x (Group group.id)

-- some member of a list stands for it
abbrev pub IsAmong : {X : Type 0} → List (GroupOf X) → List (Member X) → X → Type 0
IsAmong {X} groups members x = (member : Member X) × Contains members member × StandsFor groups x member

-- an entry speaks of what is asked: of the caller by its groups of callers, of the name by its groups of names, of the type and of the
-- action
pub record Speaks (source : SourceOf) (asked : Question) (entry : EntryOf) : Type 0 where
  pub callers : (one : Callers) × IsAmong source.callers entry.callers.members one × IsOf one asked.caller
  pub names : (one : Names) × IsAmong source.names entry.names.members one × Covers one.scope one.at asked.name
  pub types : Has entry.rule.types asked.record_type
  pub actions : Has entry.rule.actions asked.action

-- entry i speaks of it, and no entry below it
pub record IsFirstEntry (source : SourceOf) (asked : Question) (entries : List EntryOf) (i : ℕ) (entry : EntryOf) : Type 0 where
  pub at : slice_get entries i ≡ Some entry
  pub speaking : Speaks source asked entry
  pub first : (j : ℕ) (earlier : EntryOf) → j < i → slice_get entries j ≡ Some earlier → ¬ Speaks source asked earlier

-- no entry speaks of it
abbrev pub NoneSpeaks : SourceOf → Question → List EntryOf → Type 0
NoneSpeaks source asked entries = (j : ℕ) (entry : EntryOf) → slice_get entries j ≡ Some entry → ¬ Speaks source asked entry

-- the rules decide it by a rule that is made of entry i, and does what the entry does
pub record IsDecidedFor (made : List MadeOf) (asked : Question) (i : ℕ) (entry : EntryOf) : Type 0 where
  pub rule : MadeOf
  pub contained : Contains made rule
  pub from : rule.entry ≡ i
  pub effect : rule.rule.effect ≡ entry.rule.effect
  pub decides : decision asked (rules_made made) ≡ decided rule.rule

-- the rules decide as the first entry does that speaks of it, and where none does they deny it by no rule
abbrev pub IsMeant : SourceOf → Question → BuiltOf → Type 0
IsMeant source asked built =
    ((i : ℕ) × (entry : EntryOf) × IsFirstEntry source asked built.entries i entry × IsDecidedFor built.rules asked i entry)
    ⊎ (NoneSpeaks source asked built.entries × (decision asked (rules_made built.rules) ≡ denied None))
