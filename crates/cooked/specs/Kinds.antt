-- The kinds that a byte can have for the line discipline.
use Rattle.std.specs.Prelude.{ℕ, Bool, true, false, ◌==◌, ◌&&◌, not, if◌then◌else◌}
use Rattle.cooked.specs.Termios.{mapped_byte}
use Rattle.cooked.specs.declared.kind.Kind.{Kind}
use Rattle.cooked.specs.declared.kind.Kind.TheVariants.{Interrupt, Quit, Kill, Erase, Eof, End, Data}
use Rattle.cooked.specs.declared.termios.Termios.{Termios}

-- the kind of a byte that counts as b: signals if ISIG is on, then the others if ICANON is
abbrev pub kind_of : Termios → ℕ → Kind
kind_of t b =
    if t.isig && b == t.intr then Interrupt
    else if t.isig && b == t.quit then Quit
    else if not t.icanon then Data
    else if b == t.kill then Kill
    else if b == t.erase then Erase
    else if b == t.eof then Eof
    else if b == 0x0A then End
    else Data

-- the kind of a byte
abbrev pub kind : Termios → ℕ → Kind
kind t b = kind_of t (mapped_byte t b)

-- the byte ends the fresh bytes: each kind does except an erase and data
abbrev pub ends_line : Kind → Bool
ends_line Erase = false
ends_line Data = false
ends_line Interrupt = true
ends_line Quit = true
ends_line Kill = true
ends_line Eof = true
ends_line End = true
