use Rattle.test_dns.proofs.devices.push_given.Given as goal

abbrev pub ghosts-push_counted : goal.ghosts-push_counted
ghosts-push_counted a = record { name = a.blank.name; parts = a.blank.parts }
