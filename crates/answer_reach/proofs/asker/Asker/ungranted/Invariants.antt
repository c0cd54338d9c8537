use Rattle.std.proofs.Common.{◌≡◌, take, not}
use Rattle.std.specs.List.{filter}
use Rattle.answer_reach.specs.Rights.{may_grant}
use Rattle.answer_reach.proofs.asker.Asker.ungranted.Given as goal

abbrev pub invariant-loop-name : goal.invariant-loop-name
invariant-loop-name l = l.names.items ≡ filter (λ n. not (may_grant l.self.rights.now.rules l.self.rights.now.caller n)) (take l.name-index l.all)
