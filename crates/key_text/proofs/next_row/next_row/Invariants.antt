use Rattle.std.proofs.Common.{◌-◌, length}
use Rattle.key_text.proofs.Begun.{HasBegun}
use Rattle.key_text.proofs.next_row.next_row.Given as goal

abbrev pub invariant-loop-i : goal.invariant-loop-i
invariant-loop-i l = HasBegun l.text l.at l.fn.place l.items.items l.end l.here l.i

abbrev pub decreases-loop-i : goal.decreases-loop-i
decreases-loop-i l = length l.text - l.i
