use Rattle.std.proofs.Common.{◌≡◌, ◌≤◌, ◌*◌, map, sum_by}
use Rattle.std.specs.List.{range_with_len}
use Rattle.vt_tool.specs.Commands.Drill.{queue_of}
use Rattle.vt_tool.proofs.commands.drill.dropped.Given as goal

abbrev pub invariant-loop-i : goal.invariant-loop-i
invariant-loop-i l =
    (l.sum ≡ sum_by (λ queue. queue.dropped) (map (queue_of l.world) (range_with_len 1 l.i)))
    × (l.sum ≤ l.i * 4294967295)
