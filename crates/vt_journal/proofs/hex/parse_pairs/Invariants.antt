use Rattle.std.proofs.Common.{◌≡◌, ◌<◌, ◌+◌, ◌*◌, ◌/◌, ◌^◌, take, length}
use Rattle.std.specs.List.{All, flat_map}
use Rattle.vt_base.specs.Digits.{hex_byte}
use Rattle.vt_journal.proofs.hex.parse_pairs.Given as goal

abbrev pub invariant-loop-i : goal.invariant-loop-i
invariant-loop-i l =
    (flat_map hex_byte l.bytes.bytes ≡ take (2 * l.i) l.word)
    × All (λ x. x < 2 ^ 8) l.bytes.bytes
    × (l.bytes.room + l.i ≡ length l.word / 2)
