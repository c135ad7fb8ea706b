-- The number of things of each kind, and the longest piece of bytes. The limits are this project's own,
-- except the number of consoles (console(4)) and of signals (signal(7)).
use Rattle.std.specs.Prelude.{ℕ}

abbrev pub consoles : ℕ
consoles = 63

abbrev pub signals : ℕ
signals = 64

abbrev pub processes : ℕ
processes = 64

abbrev pub keyboards : ℕ
keyboards = 4

-- the keyboards and the processes
abbrev pub callers : ℕ
callers = 68

-- the greatest number of a caller; the least one is 0
abbrev pub greatest_caller : ℕ
greatest_caller = 67

abbrev pub descriptors : ℕ
descriptors = 16

-- the longest write, the longest read and a full input queue
abbrev pub piece_bytes : ℕ
piece_bytes = 4096
