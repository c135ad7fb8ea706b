use Rattle.std.proofs.Common.{◌≡◌, ◌+◌, length, take}
use Rattle.session_run.proofs.final_texts.bytes_of.Given as goal

abbrev pub invariant-loop-i : goal.invariant-loop-i
invariant-loop-i l =
    (l.bytes.bytes ≡ take l.i l.queue.bytes) × (l.bytes.room + l.i ≡ length l.queue.bytes)
