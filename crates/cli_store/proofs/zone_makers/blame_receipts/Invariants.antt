use Rattle.cli_store.proofs.zone_makers.blame_receipts.Given as goal

abbrev pub ghosts-asked_by : goal.ghosts-asked_by
ghosts-asked_by g a = record { name = a.blank.name; parts = a.blank.parts }
