use Rattle.key_compile.proofs.Stated.{one_value}
use Rattle.session_order.proofs.Stated.{meant_laws-replay}
use Rattle.session_text.proofs.Stated.{one_session}
use Rattle.vt_tool.proofs.for_laws.Plays.{race_may_play, run_decides}
use Rattle.vt_tool.proofs.laws.race_outcomes.Goals as goal

pub returns-clause-decided : goal.returns-clause-decided
returns-clause-decided c =
    run_decides one_session one_value meant_laws-replay

pub returns-clause-played : goal.returns-clause-played
returns-clause-played c = race_may_play
