use Rattle.office_wire.proofs.responder.serve.Given as goal

abbrev pub ghosts-serve_whole : goal.ghosts-serve_whole
ghosts-serve_whole g a = record { name = a.blank.name; parts = a.blank.parts }
