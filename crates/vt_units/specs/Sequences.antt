-- The units of finished sequences (console_codes(4)).
use Rattle.std.specs.Prelude.{ℕ, Bool, true, false, ◌+◌, ◌-◌, ◌*◌, ◌==◌, ◌||◌, List, [], ◌∷◌, if◌then◌else◌}
use Rattle.std.specs.List.{list_all}
use Rattle.vt_chars.specs.Utf8.{within}
use Rattle.vt_units.specs.Bytes.{is_digit}
use Rattle.vt_units.specs.Numbers.{params_of}
use Rattle.vt_units.specs.declared.unit.Unit as units
use Rattle.vt_units.specs.declared.unit.Unit.TheVariants.{Esc, Csi, Colour, Ignored}

-- an escape sequence, by its intermediate bytes and its last one
abbrev pub escape_unit : List ℕ → ℕ → units.Unit
escape_unit [] last = Esc 0 last
escape_unit (mid ∷ []) last = Esc mid last
escape_unit (mid ∷ other ∷ mids) last = Ignored

abbrev pub is_parameter : ℕ → Bool
is_parameter b = is_digit b || b == 0x3B

abbrev pub numbered_unit : Bool → List ℕ → ℕ → units.Unit
numbered_unit private numbers last =
    if list_all is_parameter numbers then Csi private (params_of numbers) last else Ignored

-- a control sequence, by its body and its last byte: a question mark may begin the body
abbrev pub control_unit : List ℕ → ℕ → units.Unit
control_unit [] last = numbered_unit false [] last
control_unit (b ∷ body) last =
    if b == 0x3F then numbered_unit true body last else numbered_unit false (b ∷ body) last

-- the value of a hexadecimal digit
abbrev pub hex_value : ℕ → ℕ
hex_value b = if is_digit b then b - 0x30 else if within 0x41 0x46 b then b - 0x37 else b - 0x57

abbrev pub hex_pair : ℕ → ℕ → ℕ
hex_pair high low = hex_value high * 16 + hex_value low

-- a colour: its number, and two digits each of red, green and blue
abbrev pub colour_unit : List ℕ → units.Unit
colour_unit (n ∷ r ∷ s ∷ g ∷ h ∷ b ∷ c ∷ []) =
    Colour (hex_value n) (hex_pair r s, hex_pair g h, hex_pair b c)
colour_unit digits = Ignored
