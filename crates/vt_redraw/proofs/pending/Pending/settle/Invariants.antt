use Rattle.std.proofs.Common.{◌≡◌, ◌+◌, ◌≤◌, ◌++◌, length, replicate}
use Rattle.vt_redraw.proofs.pending.Pending.settle.Given as goal

abbrev pub invariant-loop-self : goal.invariant-loop-self
invariant-loop-self l =
    record {
      text : l.self.front ++ replicate l.self.blanks 0x20 ≡ l.initial.self.front ++ replicate l.initial.self.blanks 0x20;
      attr : l.self.attr ≡ l.initial.self.attr;
      room : length l.self.front + l.self.blanks ≤ 1020;
    }

abbrev pub decreases-loop-self : goal.decreases-loop-self
decreases-loop-self l = l.self.blanks
