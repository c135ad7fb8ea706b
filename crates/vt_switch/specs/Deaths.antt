-- The effect of the death of a process on the display (ioctl_console(2)). This project's own.
use Rattle.std.specs.Prelude.{ℕ, ◌==◌, Option, Some, None, option_map, map, if◌then◌else◌}
use Rattle.vt_switch.specs.Calls.{hop_from, with_hop, names, owns}
use Rattle.vt_switch.specs.Display.{Display, fresh, owner_of, with_console}
use Rattle.vt_switch.specs.declared.cause.Cause.TheVariants.{Died}
use Rattle.vt_switch.specs.declared.console.Console.{Console}
use Rattle.vt_switch.specs.declared.hop.Hop.{Hop}

-- the display goes to the console that waits for it, if there is one
abbrev pub falls_to : Display → ℕ → Option ℕ → Option Hop
falls_to d p None = None
falls_to d p (Some n) = Some (hop_from d n (Died p))

abbrev pub after_hop : Display → Option Hop → Display
after_hop d None = d
after_hop d (Some hop) = with_hop d hop

-- reset: console c, whose switches p handled, gets the KD mode and the handling of a new console; if it is in
-- front, the display goes to the console that waits for it
abbrev pub reset_hop : Display → ℕ → ℕ → Option Hop
reset_hop d c p = if c == d.front then falls_to d p d.pending else None

abbrev pub reset : Display → ℕ → ℕ → Display
reset d c p = after_hop (with_console d c (λ console. fresh)) (reset_hop d c p)

-- a console gets the KD mode and the handling of a new console, if p handled its switches
abbrev pub left_by : ℕ → Console → Console
left_by p console = if names p (owner_of console.handling) then fresh else console

-- the end of p: all consoles whose switches it handled get the KD mode and the handling of new ones; if the one
-- in front is among them, the display goes to the console that waits for it
abbrev pub ended_hop : Display → ℕ → Option Hop
ended_hop d p = if owns d p d.front then falls_to d p d.pending else None

abbrev pub after_process_end : Display → ℕ → Display
after_process_end d p =
    after_hop (record d { consoles = map (option_map (left_by p)) d.consoles }) (ended_hop d p)
