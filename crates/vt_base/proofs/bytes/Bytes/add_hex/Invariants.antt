use Rattle.std.proofs.Common.{◌≡◌, ◌*◌, ◌-◌, ◌≤◌, ◌++◌, length, take}
use Rattle.std.specs.List.{flat_map}
use Rattle.vt_base.specs.Digits.{hex_byte}
use Rattle.vt_base.proofs.bytes.Bytes.add_hex.Given as goal

abbrev pub invariant-loop-byte : goal.invariant-loop-byte
invariant-loop-byte l =
    (l.self.bytes ≡ l.initial.self.bytes ++ flat_map hex_byte (take l.byte-index l.b))
    × (2 * (length l.b - l.byte-index) ≤ l.self.room)
