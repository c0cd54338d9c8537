use Rattle.std.proofs.Common.{◌≡◌, map}
use Rattle.cli_store.specs.BlameReceipts.{sender_of, updates_of}
use Rattle.cli_store.proofs.zone_makers.parted.Given as goal

-- those of the receipts so far
abbrev pub invariant-loop-kept : goal.invariant-loop-kept
invariant-loop-kept l = record {
  senders : l.senders.items ≡ map sender_of l.yielded;
  updates : l.updates.items ≡ updates_of l.yielded;
}
