-- The bytes that keys send (console_codes(4), ioctl_console(2)).
use Rattle.std.specs.Prelude.{ℕ, ◌+◌, ◌/◌, ◌%◌, Bool, ◌==◌, ◌&&◌, nat_lt, List, [], ◌∷◌, if◌then◌else◌}
use Rattle.std.specs.Char.{encode_utf8}
use Rattle.std.specs.List.{flat_map}
use Rattle.key_machine.specs.declared.key_out.KeyOut.{KeyOut}
use Rattle.key_machine.specs.declared.key_out.KeyOut.TheVariants.{Bytes, Nothing}
use Rattle.key_machine.specs.Numbers.{ESCPREFIX, MEDIUMRAW, UNICODE, XLATE}
use Rattle.key_syms.specs.Act.{is_surrogate}

-- bytes go out, if there are any
abbrev pub out_of : List ℕ → KeyOut
out_of [] = Nothing
out_of (b ∷ bytes) = Bytes (b ∷ bytes)

-- a character: in UTF-8 in K_UNICODE, as one byte in K_XLATE, and as no bytes if it has none
unfoldable pub character_bytes : ℕ → ℕ → List ℕ
character_bytes mode code =
    if mode == UNICODE then (if is_surrogate code then [] else encode_utf8 code)
    else if mode == XLATE && nat_lt code 256 then code ∷ []
    else []

-- characters, one after another
abbrev pub characters_bytes : ℕ → List ℕ → List ℕ
characters_bytes mode codes = flat_map (character_bytes mode) codes

-- a code in K_MEDIUMRAW: one byte below 128, otherwise three. The high bit of the first one is 1 if the key
-- goes up
unfoldable pub code_bytes : ℕ → Bool → List ℕ
code_bytes code down =
    let up = if down then 0 else 0x80 in
    if nat_lt code 0x80 then (code + up) ∷ []
    else up ∷ (0x80 + code / 0x80) ∷ (0x80 + code % 0x80) ∷ []

-- the bytes that go out if no key acts: the code in K_MEDIUMRAW
abbrev pub idle_bytes : ℕ → ℕ → Bool → List ℕ
idle_bytes mode code down = if mode == MEDIUMRAW then code_bytes code down else []

-- Meta: after ESC, or with the high bit
unfoldable pub meta_bytes : ℕ → ℕ → List ℕ
meta_bytes meta v = if meta == ESCPREFIX then 0x1B ∷ v ∷ [] else (v + 0x80) ∷ []

-- CR, in newline mode with LF
abbrev pub return_bytes : Bool → List ℕ
return_bytes newline = if newline then 0x0D ∷ 0x0A ∷ [] else 0x0D ∷ []
