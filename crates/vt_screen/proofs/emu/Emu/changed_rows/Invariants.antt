use Rattle.vt_screen.proofs.Changes.{HasCome}
use Rattle.vt_screen.proofs.emu.Emu.changed_rows.Given as goal

abbrev pub invariant-loop-b : goal.invariant-loop-b
invariant-loop-b l =
    HasCome l.size.cols l.state.bottom l.state.y l.at l.self l.bytes l.b-index
