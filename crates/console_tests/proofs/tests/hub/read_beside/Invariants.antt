use Rattle.console_tests.proofs.tests.hub.read_beside.Given as goal

abbrev pub ghosts-share : goal.ghosts-share
ghosts-share g a = record { start = a.world; limits = record { events = 65536; bytes = 67108864 } }
