use Rattle.test_commands.proofs.commands.trials.tried.Given as goal

abbrev pub ghosts-tried_in-A-Ledger : goal.ghosts-tried_in-A-Ledger
ghosts-tried_in-A-Ledger g a = record { name = a.first.name; parts = a.first.parts }

abbrev pub ghosts-tried_in-B-Ledger : goal.ghosts-tried_in-B-Ledger
ghosts-tried_in-B-Ledger g a = record { name = a.second.name; parts = a.second.parts }

abbrev pub ghosts-tried_in-C-Ledger : goal.ghosts-tried_in-C-Ledger
ghosts-tried_in-C-Ledger g a = record { name = a.writes.name; parts = a.writes.parts }
