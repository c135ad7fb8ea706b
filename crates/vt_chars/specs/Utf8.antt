-- UTF-8 on whole texts (the Unicode Standard, Table 3-6 and Table 3-7).
use Rattle.std.specs.Prelude.{◌≡◌, ◌≢◌, ◌↔◌, ℕ, Bool, false, ◌+◌, ◌-◌, ◌*◌, ◌==◌, ◌&&◌, nat_le, List, [], ◌∷◌, ◌++◌, IsTrue, if◌then◌else◌}
use Rattle.vt_chars.specs.declared.decoded.Decoded.{Decoded}
use Rattle.vt_chars.specs.declared.decoded.Decoded.TheVariants.{Character, Unfinished, Malformed}

abbrev pub within : ℕ → ℕ → ℕ → Bool
within low high b = nat_le low b && nat_le b high

-- a byte after the second one
abbrev pub is_tail : ℕ → Bool
is_tail b = within 0x80 0xBF b

-- the second bytes that a first byte allows: Table 3-7
abbrev pub is_second : ℕ → ℕ → Bool
is_second first b =
    if first == 0xE0 then within 0xA0 0xBF b
    else if first == 0xED then within 0x80 0x9F b
    else if first == 0xF0 then within 0x90 0xBF b
    else if first == 0xF4 then within 0x80 0x8F b
    else is_tail b

-- the bytes are one well-formed sequence: Table 3-7
abbrev pub is_well_formed : List ℕ → Bool
is_well_formed (a ∷ []) = nat_le a 0x7F
is_well_formed (a ∷ b ∷ []) = within 0xC2 0xDF a && is_tail b
is_well_formed (a ∷ b ∷ c ∷ []) = within 0xE0 0xEF a && is_second a b && is_tail c
is_well_formed (a ∷ b ∷ c ∷ d ∷ []) = within 0xF0 0xF4 a && is_second a b && is_tail c && is_tail d
is_well_formed _ = false

-- the bytes, at least one, begin a longer well-formed sequence: the first byte determines its length, and all
-- bytes so far match its row
abbrev pub is_begun : List ℕ → Bool
is_begun (a ∷ []) = within 0xC2 0xF4 a
is_begun (a ∷ b ∷ []) = within 0xE0 0xF4 a && is_second a b
is_begun (a ∷ b ∷ c ∷ []) = within 0xF0 0xF4 a && is_second a b && is_tail c
is_begun _ = false

-- the code point of a well-formed sequence: each byte after the first one adds six bits, Table 3-6
abbrev pub code_of : List ℕ → ℕ
code_of (a ∷ []) = a
code_of (a ∷ b ∷ []) = (a - 0xC0) * 0x40 + (b - 0x80)
code_of (a ∷ b ∷ c ∷ []) = ((a - 0xE0) * 0x40 + (b - 0x80)) * 0x40 + (c - 0x80)
code_of (a ∷ b ∷ c ∷ d ∷ []) = (((a - 0xF0) * 0x40 + (b - 0x80)) * 0x40 + (c - 0x80)) * 0x40 + (d - 0x80)
code_of _ = 0

-- the decoding of a text
abbrev pub decoding_of : List ℕ → Decoded
decoding_of text =
    if is_well_formed text then Character (code_of text)
    else if is_begun text then Unfinished
    else Malformed

-- the text is a proper prefix of a well-formed sequence
abbrev pub Begins : List ℕ → Type 0
Begins text = (more : List ℕ) × (more ≢ []) × IsTrue (is_well_formed (text ++ more))

-- the unfinished texts are the proper prefixes, except the empty text
abbrev pub UnfinishedBegins : Type 0
UnfinishedBegins =
    (text : List ℕ) → (decoding_of text ≡ Unfinished) ↔ ((text ≢ []) × Begins text)
