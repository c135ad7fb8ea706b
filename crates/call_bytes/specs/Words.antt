-- A user's table as bytes (ioctl_console(2), GIO_UNISCRNMAP).
use Rattle.std.specs.Prelude.{ℕ, ◌*◌, ◌/◌, ◌==◌, List, length, map, Option, Some, None, if◌then◌else◌}
use Rattle.std.specs.Int.{to_le_bytes, w16}
use Rattle.std.specs.List.{flat_map, range_with_len}
use Rattle.call_bytes.specs.Numbers.{number_at}

-- each code point in two bytes, the lowest first
abbrev pub words_text : List ℕ → List ℕ
words_text words = flat_map (to_le_bytes w16) words

abbrev pub word_at : List ℕ → ℕ → ℕ
word_at bytes k = number_at bytes (2 * k)

-- the places of code points in so many bytes
abbrev pub word_places : List ℕ → List ℕ
word_places bytes = range_with_len 0 (length bytes / 2)

-- the 256 code points whose bytes these are
abbrev pub words_in : List ℕ → Option (List ℕ)
words_in bytes =
    if length bytes == 512 then Some (map (word_at bytes) (word_places bytes)) else None
