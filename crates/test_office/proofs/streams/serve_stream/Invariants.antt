use Rattle.test_office.proofs.streams.serve_stream.Given as goal

abbrev pub ghosts-served-R-Ledger : goal.ghosts-served-R-Ledger
ghosts-served-R-Ledger g a = record { name = a.reads.name; parts = a.reads.parts }

abbrev pub ghosts-served-W-Ledger : goal.ghosts-served-W-Ledger
ghosts-served-W-Ledger g a = record { name = a.writes.name; parts = a.writes.parts }
