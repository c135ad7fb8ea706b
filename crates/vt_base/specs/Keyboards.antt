-- The keyboards among the callers. Callers are numbers: 0 is the first keyboard, 1 to 64 are the
-- processes, and 65 to 67 are the further keyboards.
use Rattle.std.specs.Prelude.{ℕ, ◌+◌, ◌-◌, ◌==◌, ◌||◌, nat_lt, Bool, Option, Some, None, if◌then◌else◌}
use Rattle.vt_base.specs.Limits.{processes}

abbrev pub is_keyboard : ℕ → Bool
is_keyboard p = p == 0 || nat_lt processes p

-- the caller that is keyboard k
abbrev pub keyboard_caller : ℕ → ℕ
keyboard_caller k = if k == 0 then 0 else processes + k

-- the number of the keyboard that a caller is, if it is one
abbrev pub keyboard_of : ℕ → Option ℕ
keyboard_of p = if p == 0 then Some 0 else if nat_lt processes p then Some (p - processes) else None
