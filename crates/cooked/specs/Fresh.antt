-- The fresh bytes: those typed since the last end.
use Rattle.std.specs.Prelude.{ℕ, Bool, nat_le, List, [], ◌∷◌, length, take, if◌then◌else◌}
use Rattle.std.specs.List.{list_any}
use Rattle.cooked.specs.Kinds.{ends_line, kind}
use Rattle.cooked.specs.declared.termios.Termios.{Termios}

-- how many bytes may be fresh
abbrev pub most : ℕ
most = 4095

-- the bytes after the last byte that passes: all, if none does
abbrev pub after_last : (ℕ → Bool) → List ℕ → List ℕ
after_last passes [] = []
after_last passes (b ∷ more) =
    if list_any passes (b ∷ more) then after_last passes more else b ∷ more

-- the byte is a signal, a kill, an eof or the end of a line
abbrev pub ends : Termios → ℕ → Bool
ends t b = ends_line (kind t b)

-- the fresh bytes of all typed bytes: those after the last end, at most the first 4,095; without ICANON there
-- are none
abbrev pub fresh : Termios → List ℕ → List ℕ
fresh t bytes = if t.icanon then take most (after_last (ends t) bytes) else []

-- no byte more can be fresh
abbrev pub is_full : List ℕ → Bool
is_full bytes = nat_le most (length bytes)
