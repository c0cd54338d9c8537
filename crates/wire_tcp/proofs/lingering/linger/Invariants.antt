use Rattle.wire_tcp.proofs.lingering.linger.Given as goal

abbrev pub ghosts-drop_counted : goal.ghosts-drop_counted
ghosts-drop_counted g a = record { name = a.blank.name; parts = a.blank.parts }
