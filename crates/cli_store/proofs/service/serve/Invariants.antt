use Rattle.cli_store.proofs.service.serve.Given as goal

abbrev pub ghosts-serve_by : goal.ghosts-serve_by
ghosts-serve_by g a = record { name = a.blank.name; parts = a.blank.parts }
