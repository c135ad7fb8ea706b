-- The codes that calls return to C, as libvt/include/vt.h names them.
use Rattle.std.specs.Prelude.{ℕ}

-- VT_OK: the call succeeded
abbrev pub OK : ℕ
OK = 0

-- VT_MADE: the handle has something already, or the process can't be given to this program
abbrev pub MADE : ℕ
MADE = 1

-- VT_RANGE: a number is out of its range
abbrev pub RANGE : ℕ
RANGE = 2

-- VT_NO_MEMORY: memory ran out
abbrev pub NO_MEMORY : ℕ
NO_MEMORY = 3

-- VT_NOTHING: the handle has nothing
abbrev pub NOTHING : ℕ
NOTHING = 4

-- VT_NO_ROOM: the room is too small
abbrev pub NO_ROOM : ℕ
NO_ROOM = 5

-- VT_FAULT: the keymap has a fault
abbrev pub FAULT : ℕ
FAULT = 6

-- VT_NOT_DRAWABLE: no text draws this screen
abbrev pub NOT_DRAWABLE : ℕ
NOT_DRAWABLE = 7

-- VT_FULL: the journal has no room for the call
abbrev pub FULL : ℕ
FULL = 8
