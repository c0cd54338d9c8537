use Rattle.test_dns.proofs.page.printed_failing.Given as goal

abbrev pub ghosts-printed_on : goal.ghosts-printed_on
ghosts-printed_on a = record { name = a.blank.name; parts = a.blank.parts }
