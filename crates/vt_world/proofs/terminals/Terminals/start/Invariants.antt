use Rattle.std.proofs.Common.{◌≡◌, Some, None, map}
use Rattle.std.specs.List.{range_with_len}
use Rattle.std.specs.Prelude.{if◌then◌else◌}
use Rattle.vt_world.specs.Terminals.{new_terminal}
use Rattle.vt_base.specs.ConsoleSet.{is_among}
use Rattle.vt_world.proofs.terminals.Terminals.start.Given as goal

abbrev pub invariant-loop-n : goal.invariant-loop-n
invariant-loop-n l =
    l.places.items
    ≡ map (λ k. if is_among l.fn.consoles k then Some (new_terminal l.fn.size.rows l.fn.size.cols) else None)
    (range_with_len 0 l.n)
