use Rattle.std.proofs.Common.{take}
use Rattle.session_order.specs.Sessions.{setup_of, start_of}
use Rattle.vt_check.specs.Judging.{IsAfter}
use Rattle.vt_check.proofs.checking.watch.Given as goal

abbrev pub invariant-loop-i : goal.invariant-loop-i
invariant-loop-i g l = record {
  after : IsAfter (setup_of l.s) (take l.i l.entries) l.judge;
  saw : g.W.Witness.saw l.fn.witness (start_of l.s) (take l.i l.entries) l.witness;
}
