use Rattle.cli_store.proofs.streams.run_words.Given as goal

abbrev pub ghosts-run_counted-A-Ledger : goal.ghosts-run_counted-A-Ledger
ghosts-run_counted-A-Ledger g a = record { name = a.reads.name; parts = a.reads.parts }

abbrev pub ghosts-run_counted-B-Ledger : goal.ghosts-run_counted-B-Ledger
ghosts-run_counted-B-Ledger g a = record { name = a.writes.name; parts = a.writes.parts }

abbrev pub ghosts-run_counted-C-Ledger : goal.ghosts-run_counted-C-Ledger
ghosts-run_counted-C-Ledger g a = record { name = a.traces.name; parts = a.traces.parts }
