use Rattle.test_office.proofs.tables.over_failing.Given as goal

abbrev pub ghosts-failed : goal.ghosts-failed
ghosts-failed a = record { name = a.blank.name; parts = a.blank.parts }
