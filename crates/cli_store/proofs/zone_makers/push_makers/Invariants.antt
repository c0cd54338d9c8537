use Rattle.std.proofs.Common.{◌≡◌, ◌++◌, take, slice_get}
use Rattle.std.specs.Prelude.{string_bytes}
use Rattle.std.specs.List.{flat_map}
use Rattle.cli_store.specs.BlameReceipts.{sender_text}
use Rattle.cli_store.proofs.zone_makers.push_makers.Given as goal

-- who sent the updates at the places so far
abbrev pub invariant-loop-place : goal.invariant-loop-place
invariant-loop-place l =
    string_bytes l.text ≡ string_bytes l.initial.text ++ flat_map (λ place. sender_text (slice_get l.senders place)) (take l.place-index l.places)
