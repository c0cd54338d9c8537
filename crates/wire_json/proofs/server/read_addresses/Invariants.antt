use Rattle.wire_json.specs.Reading.{address_in}
use Rattle.wire_json.proofs.ListLemmas.{Read}
use Rattle.wire_json.proofs.server.read_addresses.Given as goal

abbrev pub invariant-loop-item : goal.invariant-loop-item
invariant-loop-item l = Read address_in l.items l.addresses.items l.item-index
