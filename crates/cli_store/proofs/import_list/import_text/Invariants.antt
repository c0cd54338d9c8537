use Rattle.cli_store.proofs.import_list.import_text.Given as goal

abbrev pub ghosts-put_by : goal.ghosts-put_by
ghosts-put_by g a = record { name = a.blank.name; parts = a.blank.parts }
