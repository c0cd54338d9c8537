use Rattle.std.proofs.Common.{◌≡◌, ℕ, ◌<◌, ◌-◌, get_or, false}
use Rattle.dns_data.specs.declared.record.Record.{Record}
use Rattle.zone_core.specs.Views.{are_cname_and_other}
use Rattle.zone_core.proofs.build.has_cname_and_other.Given as goal

abbrev pub invariant-loop-i : goal.invariant-loop-i
invariant-loop-i l = (k : ℕ) → k < l.i → 0 < k → (d : Record) → are_cname_and_other (get_or l.records (k - 1) d) (get_or l.records k d) ≡ false
