use Rattle.std.proofs.Common.{◌≡◌, ◌+◌}
use Rattle.dns_names.specs.Labels.{wire_len}
use Rattle.zone_tools.proofs.large_record_sets.name_len.Given as goal

abbrev pub invariant-loop-label : goal.invariant-loop-label
invariant-loop-label l = l.len + wire_len l.label-iterator ≡ wire_len l.fn.name + 1
