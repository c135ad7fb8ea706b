use Rattle.example_hub.proofs.sharing.shared.Given as goal

abbrev pub ghosts-share : goal.ghosts-share
ghosts-share g a = record { start = a.world; limits = record { events = 64; bytes = 65536 } }
