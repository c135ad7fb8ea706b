use Rattle.turn_lock.proofs.lock.TurnLock.split.Given as goal

abbrev pub ghosts-split_as : goal.ghosts-split_as
ghosts-split_as g a = record { number = a.number }
