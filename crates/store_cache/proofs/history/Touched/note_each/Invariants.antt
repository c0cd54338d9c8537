use Rattle.std.proofs.Common.{◌≡◌, ◌&&◌, take}
use Rattle.grant_policy.specs.Grants.{GrantsOf}
use Rattle.store_cache.specs.History.{hides_each, leaves_out}
use Rattle.store_cache.proofs.history.Touched.note_each.Given as goal

abbrev pub invariant-loop-record : goal.invariant-loop-record
invariant-loop-record l = (grants : GrantsOf) → leaves_out grants l.origin l.self ≡ (leaves_out grants l.origin l.fn.self && hides_each grants (take l.record-index l.records))
