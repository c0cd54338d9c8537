-- Pairs of a record type and an action that are looked for.
use Rattle.std.specs.Prelude.{Bool, true, false, ◌&&◌, not}
use Rattle.dns_data.specs.declared.record_type.RecordType.{RecordType}
use Rattle.dns_data.specs.declared.record_type.RecordType.TheVariants.{Soa}
use Rattle.grant_policy.specs.declared.action.Action.{Action}
use Rattle.grant_policy.specs.declared.action.Action.TheVariants as action
use Rattle.policy_tools.specs.declared.wanted.Wanted.{Wanted}
use Rattle.policy_tools.specs.declared.wanted.Wanted.TheVariants.{Every, SoaShown, Changes}
use Rattle.grant_policy.specs.Rules.{same_type}

-- whether an action changes records
abbrev pub changes : Action → Bool
changes action.List = false
changes action.Check = false
changes action.Add = true
changes action.Delete = true
changes action.Delegate = true

-- whether a pair is looked for
abbrev pub wants : Wanted → RecordType → Action → Bool
wants Every t a = true
wants SoaShown t a = same_type t Soa && not (changes a)
wants Changes t a = changes a
