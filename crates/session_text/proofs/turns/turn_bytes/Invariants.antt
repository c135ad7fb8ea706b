use Rattle.std.proofs.Common.{◌≡◌, ◌+◌, true, drop, length}
use Rattle.std.specs.List.{All}
use Rattle.table_fields.specs.Checked.{collect, fault}
use Rattle.session_text.specs.Collected.{TurnsSoFar}
use Rattle.session_text.specs.Turns.{is_there, turn_in}
use Rattle.session_text.proofs.turns.turn_bytes.Given as goal

abbrev pub invariant-loop-i : goal.invariant-loop-i
invariant-loop-i l =
    (l.bytes.room + l.i ≡ length l.numbers)
    × (length l.bytes.bytes ≡ l.i)
    × All (λ t. is_there l.processes l.keyboards t ≡ true) l.bytes.bytes
    × TurnsSoFar l.processes l.bytes.bytes
    (collect (λ n z. turn_in l.processes l.keyboards (fault 28 0 n) z) (l.i + 1) (drop l.i l.numbers))
    (collect (λ n z. turn_in l.processes l.keyboards (fault 28 0 n) z) 1 l.numbers)
