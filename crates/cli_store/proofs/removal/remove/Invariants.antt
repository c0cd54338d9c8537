use Rattle.cli_store.proofs.removal.remove.Given as goal

abbrev pub ghosts-asked_by : goal.ghosts-asked_by
ghosts-asked_by g a = record { name = a.blank.name; parts = a.blank.parts }
