use Rattle.test_office.proofs.acts.adopt.Given as goal

abbrev pub ghosts-adopted : goal.ghosts-adopted
ghosts-adopted g a = record { name = a.blank.name; parts = a.blank.parts }
