use Rattle.session_order.proofs.Standings.{first_after}
use Rattle.session_order.specs.Standing.{SessionProgressView}
use Rattle.session_order.proofs.session_progress.SessionProgress.start.Goals as goal

pub returns : goal.returns
returns c = λ programs.
    let view : SessionProgressView = record { walks = c.in_ok-walks.walks.items; counts = c.new.result } in
    first_after programs view c.in_ok-walks.ensures.many c.in_ok-walks.ensures.stand c.new.ensures
