use Rattle.cli_store.proofs.ZoneFileLemmas.{ZonesFrom}
use Rattle.cli_store.proofs.zone_files.zones_among.Given as goal

-- the zones of the lines so far, and those of the others
abbrev pub invariant-loop-i : goal.invariant-loop-i
invariant-loop-i l = ZonesFrom l.lines l.i l.zones.items
