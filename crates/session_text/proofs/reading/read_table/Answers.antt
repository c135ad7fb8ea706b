use Rattle.session_text.proofs.MadeSession.{made_session}
use Rattle.session_text.proofs.reading.read_table.Goals as goal

pub returns : goal.returns
returns c =
    let (value, says, are) = c.in_ok-parts.ensures.parts in
    (value, says, made_session _ value _ are c.in_ok-session.ensures)
