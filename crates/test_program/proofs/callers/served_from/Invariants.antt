use Rattle.test_program.proofs.callers.served_from.Given as goal

abbrev pub ghosts-served_in-L-Ledger : goal.ghosts-served_in-L-Ledger
ghosts-served_in-L-Ledger g a = record { name = a.taken.name; parts = a.taken.parts }

abbrev pub ghosts-served_in-A-Ledger : goal.ghosts-served_in-A-Ledger
ghosts-served_in-A-Ledger g a = record { name = a.writes.name; parts = a.writes.parts }

abbrev pub ghosts-served_in-B-Ledger : goal.ghosts-served_in-B-Ledger
ghosts-served_in-B-Ledger g a = record { name = a.traces.name; parts = a.traces.parts }
