use Rattle.std.proofs.Common.{◌≡◌, map, drop, None, false}
use Rattle.dns_data.specs.Items.{item_of}
use Rattle.dns_master.specs.AnyRecords.{other_lead_of}
use Rattle.dns_master.proofs.other.read_other_lead.Given as goal

abbrev pub invariant-loop-i : goal.invariant-loop-i
invariant-loop-i l = other_lead_of (record { ttl = None; has_class = false }) (map item_of l.items) ≡ other_lead_of l.read (drop l.i (map item_of l.items))
