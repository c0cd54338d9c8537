use Rattle.cli_store.proofs.service.serve_table.Given as goal

abbrev pub ghosts-serve_listening : goal.ghosts-serve_listening
ghosts-serve_listening g a = record { name = a.blank.name; parts = a.blank.parts }
