use Rattle.test_office.proofs.acts.create.Given as goal

abbrev pub ghosts-created : goal.ghosts-created
ghosts-created g a = record { name = a.blank.name; parts = a.blank.parts }
