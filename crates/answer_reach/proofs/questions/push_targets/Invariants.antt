use Rattle.std.proofs.Common.{◌≡◌, ◌++◌, take}
use Rattle.std.specs.List.{flat_map}
use Rattle.dns_data.specs.declared.record.Record.{Record}
use Rattle.answer_reach.specs.ReachTests.{target_list}
use Rattle.answer_reach.proofs.questions.push_targets.Given as goal

abbrev pub invariant-loop-record : goal.invariant-loop-record
invariant-loop-record l = l.names.items ≡ l.fn.names.items ++ flat_map (λ (r : Record). target_list r.rdata) (take l.record-index l.records)
