use Rattle.std.proofs.Common.{◌≡◌, map, take}
use Rattle.std.specs.Prelude.{string_bytes}
use Rattle.std.specs.List.{flat_map, zip}
use Rattle.cli_store.specs.BlameReceipts.{receipts_line}
use Rattle.cli_store.proofs.zone_makers.records_text.Given as goal

-- the lines of the records so far
abbrev pub invariant-loop-i : goal.invariant-loop-i
invariant-loop-i l =
    string_bytes l.text ≡ flat_map (λ p. receipts_line l.name l.found.senders.items (map (λ places. places.items) l.found.lists.items) p.0 p.1) (take l.i (zip l.records l.numbers))
