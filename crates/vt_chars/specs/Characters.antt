-- Texts cut into characters: well-formed sequences, and the maximal subparts of malformed bytes (the Unicode
-- Standard, 3.9, D93b).
use Rattle.std.specs.Prelude.{◌≡◌, ◌<◌, ◌-◌, ◌||◌, ℕ, zero, suc, Bool, List, [], ◌∷◌, ◌++◌, length, take, if◌then◌else◌}
use Rattle.std.specs.List.{concat}
use Rattle.vt_chars.specs.Utf8.{is_begun, is_well_formed}

-- the bytes are one well-formed sequence, or begin one
abbrev pub is_part : List ℕ → Bool
is_part text = is_well_formed text || is_begun text

-- the first character of a text: its longest prefix that is such a part, otherwise its first byte alone
abbrev pub first_of : List ℕ → List ℕ
first_of text =
    if is_part (take 4 text) then take 4 text
    else if is_part (take 3 text) then take 3 text
    else if is_part (take 2 text) then take 2 text
    else take 1 text

-- the characters of a text whose first bytes, so many, belong to the character before it
abbrev pub characters_past : ℕ → List ℕ → List (List ℕ)
characters_past inside [] = []
characters_past zero (b ∷ more) =
    let c : List ℕ = first_of (b ∷ more) in
    c ∷ characters_past (length c - 1) more
characters_past (suc inside) (b ∷ more) = characters_past inside more

-- the characters of a text, in order
abbrev pub characters : List ℕ → List (List ℕ)
characters text = characters_past 0 text

-- characters and one more byte: the last character continues with it, or it is a character of its own
abbrev pub with_byte : List (List ℕ) → ℕ → List (List ℕ)
with_byte [] b = (b ∷ []) ∷ []
with_byte (c ∷ []) b = if is_part (c ++ b ∷ []) then (c ++ b ∷ []) ∷ [] else c ∷ (b ∷ []) ∷ []
with_byte (c ∷ d ∷ more) b = c ∷ with_byte (d ∷ more) b

-- the characters of a text with one more byte
abbrev pub ByteMore : Type 0
ByteMore = (text : List ℕ) (b : ℕ) → characters (text ++ b ∷ []) ≡ with_byte (characters text) b

-- a byte below 80 is a character, and no other character contains it
abbrev pub AsciiCuts : Type 0
AsciiCuts =
    (before : List ℕ) (b : ℕ) (after : List ℕ) → b < 0x80
    → characters (before ++ b ∷ after) ≡ characters before ++ (b ∷ []) ∷ characters after

-- the characters of a text, joined, are the whole text
abbrev pub CharactersAreAll : Type 0
CharactersAreAll = (text : List ℕ) → concat (characters text) ≡ text
