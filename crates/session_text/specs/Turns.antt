-- The turns of a session. This project's own.
use Rattle.std.specs.Prelude.{◌≡◌, ℕ, ℤ, pos, negsuc, ◌+◌, ◌≤◌, Bool, ◌&&◌, ◌||◌, nat_le, nat_lt, Option, Result, Ok, Err, List, length, if◌then◌else◌}
use Rattle.table_fields.specs.FaultCodes.{TOO_MANY, TURN}
use Rattle.table_fields.specs.Arrays.{array_of}
use Rattle.table_fields.specs.Checked.{check, collect, fault, ◌>>=◌}
use Rattle.table_fields.specs.declared.fault.TableFault.{TableFault}
use Rattle.toml.specs.Data.{Data, as_integer}
use Rattle.vt_base.specs.Bytes.{Text}

-- the most turns; this project's own
abbrev pub most_turns : ℕ
most_turns = 1000000

-- p is one of so many processes, or one of so many keyboards
abbrev pub is_there : ℕ → ℕ → ℕ → Bool
is_there processes keyboards p = nat_le p processes || (nat_lt 64 p && nat_lt p (64 + keyboards))

-- a turn is the number of a caller that is there
abbrev pub turn_in : ℕ → ℕ → TableFault → ℤ → Result ℕ TableFault
turn_in processes keyboards bad (pos n) = if is_there processes keyboards n then Ok n else Err bad
turn_in processes keyboards bad (negsuc n) = Err bad

-- the turns at a key: fault 28 at the first that isn't the number of a caller that is there
abbrev pub turns_of : ℕ → ℕ → Option Data → Result (List ℕ) TableFault
turns_of processes keyboards d = do
  turns ← array_of as_integer 0 10 d
  few ← check (nat_le (length turns) most_turns) (fault TOO_MANY 0 10)
  collect (λ n z. turn_in processes keyboards (fault TURN 0 n) z) 1 turns

-- the bytes are these turns, if there are few processes
abbrev pub AreTurns : ℕ → Text → List ℕ → Type 0
AreTurns processes bytes turns =
    (length bytes.bytes ≤ most_turns) × (processes ≤ 64 → bytes.bytes ≡ turns)
