-- A palette as bytes (ioctl_console(2), GIO_CMAP).
use Rattle.std.specs.Prelude.{ℕ, ◌+◌, ◌*◌, ◌/◌, ◌==◌, List, [], ◌∷◌, length, map, Option, Some, None, if◌then◌else◌}
use Rattle.std.specs.List.{flat_map, range_with_len}
use Rattle.call_bytes.specs.Numbers.{byte_at}
use Rattle.vt_cells.specs.Colours.{Rgb}

abbrev pub colour_bytes : Rgb → List ℕ
colour_bytes (red, green, blue) = red ∷ green ∷ blue ∷ []

-- red, green and blue of each colour
abbrev pub colours_text : List Rgb → List ℕ
colours_text colours = flat_map colour_bytes colours

abbrev pub colour_at : List ℕ → ℕ → Rgb
colour_at bytes k = (byte_at bytes (3 * k), byte_at bytes (3 * k + 1), byte_at bytes (3 * k + 2))

-- the places of colours in so many bytes
abbrev pub colour_places : List ℕ → List ℕ
colour_places bytes = range_with_len 0 (length bytes / 3)

-- the 16 colours whose bytes these are
abbrev pub colours_in : List ℕ → Option (List Rgb)
colours_in bytes =
    if length bytes == 48 then Some (map (colour_at bytes) (colour_places bytes)) else None
