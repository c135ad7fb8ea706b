use Rattle.session_order.specs.Sessions.{start_of}
use Rattle.session_run.proofs.racing.race.Given as goal

abbrev pub ghosts-race_in : goal.ghosts-race_in
ghosts-race_in g a = record { start = start_of a.s.now; limits = a.s.now.limits }
