-- The console that a key or a text requests. This project's own.
use Rattle.std.specs.Prelude.{ℕ, ◌+◌, ◌-◌, Option, Some, None, List, ◌++◌, find, map, if◌then◌else◌}
use Rattle.std.specs.List.{range_with_len}
use Rattle.vt_switch.specs.Display.{Display, is_allocated}
use Rattle.vt_world.specs.Spare.{is_console}
use Rattle.vt_world.specs.declared.wanted.Wanted.{Wanted}
use Rattle.vt_world.specs.declared.wanted.Wanted.TheVariants.{Number, Last, Above, Below}

-- the consoles above the front, and then those from 1 up to it
abbrev pub upwards : ℕ → List ℕ
upwards front = range_with_len (front + 1) (63 - front) ++ range_with_len 1 front

-- this many numbers, from a high one down
abbrev pub numbers_down_from : ℕ → ℕ → List ℕ
numbers_down_from high len = map (λ k. high - k) (range_with_len 0 len)

-- the consoles below the front, and then those from 63 down to it
abbrev pub downwards : ℕ → List ℕ
downwards front = numbers_down_from (front - 1) (front - 1) ++ numbers_down_from 63 (64 - front)

-- the number of the wanted console, None if there is none
abbrev pub wanted_in : Display → Wanted → Option ℕ
wanted_in d (Number n) = if is_console n then Some n else None
wanted_in d Last = Some d.last
wanted_in d Above = find (is_allocated d) (upwards d.front)
wanted_in d Below = find (is_allocated d) (downwards d.front)
