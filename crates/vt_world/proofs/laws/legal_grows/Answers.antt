use Rattle.vt_world.proofs.Histories.{legal_grows, nothing_is_legal, replay_grows, steps_are_entered}
use Rattle.vt_world.proofs.laws.legal_grows.Goals as goal

pub returns-clause-nothing : goal.returns-clause-nothing
returns-clause-nothing c = nothing_is_legal

pub returns-clause-more : goal.returns-clause-more
returns-clause-more c = legal_grows

pub returns-clause-replay : goal.returns-clause-replay
returns-clause-replay c = replay_grows

pub returns-clause-entered : goal.returns-clause-entered
returns-clause-entered c = steps_are_entered
