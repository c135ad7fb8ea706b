use Rattle.session_order.proofs.Races.{race_right, runs_grow}
use Rattle.session_order.proofs.laws.race_laws.Goals as goal

pub returns : goal.returns
returns c = record { grows = runs_grow; right = race_right }
