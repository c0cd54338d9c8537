use Rattle.test_dns.proofs.devices.push_written.Given as goal

abbrev pub ghosts-taken : goal.ghosts-taken
ghosts-taken a = record { name = a.blank.name; parts = a.blank.parts }
