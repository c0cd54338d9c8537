-- Callers of whom rules speak, and whether a rule speaks of a question whoever asks.
use Rattle.std.specs.Prelude.{ℕ, List, Bool, true, false, ◌&&◌, if◌then◌else◌, Option, Some, None, bytes_eq}
use Rattle.dns_data.specs.declared.record_type.RecordType.{RecordType}
use Rattle.grant_policy.specs.declared.action.Action.{Action}
use Rattle.grant_policy.specs.declared.callers.Callers.{Callers}
use Rattle.grant_policy.specs.declared.callers.Callers.TheVariants.{Every, One}
use Rattle.grant_policy.specs.declared.rule.Rule.{Rule}
use Rattle.grant_policy.specs.Identifiers.{IsIdentifier}
use Rattle.grant_policy.specs.Scopes.{covers}
use Rattle.grant_policy.specs.Rules.{is_of, has, same_type, same_action}

-- ---- callers

-- one that is named is named by an identifier
abbrev pub AreCallers : Callers → Type 0
AreCallers Every = Unit {0}
AreCallers (One identifier) = IsIdentifier identifier

-- the callers of whom both speak
abbrev pub shared_of : Callers → Callers → Option Callers
shared_of Every other = Some other
shared_of (One own) Every = Some (One own)
shared_of (One own) (One other) = if bytes_eq other own then Some (One own) else None

abbrev pub is_every : Callers → Bool
is_every Every = true
is_every (One identifier) = false

-- whether callers have others among them
abbrev pub includes : Callers → Callers → Bool
includes callers Every = is_every callers
includes callers (One identifier) = is_of callers identifier

-- ---- rules

-- whether a rule speaks of a name, a type and an action, whoever asks
abbrev pub speaks : Rule → List (List ℕ) → RecordType → Action → Bool
speaks rule name t a = covers rule.scope rule.at name && (has same_type rule.types t && has same_action rule.actions a)
