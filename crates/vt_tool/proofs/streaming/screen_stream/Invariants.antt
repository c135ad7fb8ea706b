use Rattle.std.proofs.Common.{◌≡◌, ◌≤◌}
use Rattle.std.specs.Prelude.{IsTrue}
use Rattle.vt_tool.specs.Commands.Screen.{screen_limit}
use Rattle.vt_tool.proofs.Drawing.{HasDrawn}
use Rattle.vt_tool.proofs.streaming.screen_stream.Given as goal

abbrev pub invariant-reads : goal.invariant-reads
invariant-reads g l = record {
  drawn : HasDrawn (g.S.Source.stream l.initial.src).bytes (g.S.Source.stream l.src).bytes l.initial.emu l.emu screen_limit l.left;
  later : (g.S.Source.stream l.initial.src).faults ≤ (g.S.Source.stream l.src).faults;
  kept : IsTrue g.S.Source.steady → (g.S.Source.stream l.src).faults ≡ (g.S.Source.stream l.initial.src).faults;
}

abbrev pub decreases-reads : goal.decreases-reads
decreases-reads g l = l.left
