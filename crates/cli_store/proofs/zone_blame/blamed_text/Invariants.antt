use Rattle.std.proofs.Common.{◌≡◌, take}
use Rattle.std.specs.Prelude.{string_bytes}
use Rattle.std.specs.List.{flat_map, zip}
use Rattle.cli_store.specs.ZoneHistory.{blame_line}
use Rattle.cli_store.proofs.zone_blame.blamed_text.Given as goal

abbrev pub invariant-loop-i : goal.invariant-loop-i
invariant-loop-i l = string_bytes l.text ≡ flat_map (λ p. blame_line l.name p.0 p.1) (take l.i (zip l.records l.found))
