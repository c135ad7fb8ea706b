use Rattle.std.proofs.Common.{◌≡◌, take}
use Rattle.in_queue.proofs.in_queue.InQueue.same.Given as goal

-- the first i bytes are the same
abbrev pub invariant-loop-i : goal.invariant-loop-i
invariant-loop-i l = record {
  first : take l.i l.self-inside.bytes.items ≡ take l.i l.other-inside.bytes.items;
}
