use Rattle.std.proofs.Common.{◌≡◌, ◌++◌, take}
use Rattle.std.specs.List.{flat_map}
use Rattle.zone_answers.specs.Answers.{addresses_in}
use Rattle.zone_answers.proofs.answer.push_all_addresses.Given as goal

abbrev pub invariant-loop-server : goal.invariant-loop-server
invariant-loop-server l = l.rows.items ≡ l.fn.rows.items ++ flat_map (λ r. addresses_in l.records r.rdata) (take l.server-index l.referral.servers.now)
