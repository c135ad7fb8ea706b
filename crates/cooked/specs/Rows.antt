-- Worked lists of bytes. This project's own.
use Rattle.std.specs.Prelude.{◌≡◌, List, ℕ, [], ◌∷◌}
use Rattle.cooked.specs.Given.{Item, line, signal}
use Rattle.cooked.specs.Termios.{usual}
use Rattle.cooked.specs.Whole.{all_echo, all_items, rest}

-- the bytes, typed under the usual settings, give these items, keep these bytes, and echo those
pub record Comes (typed : List ℕ) (items : List Item) (left echo : List ℕ) : Type 0 where
  pub gives : all_items usual typed ≡ items
  pub keeps : rest usual typed ≡ left
  pub echoes : all_echo usual typed ≡ echo

-- `ab`, an erase, `c` and an end
abbrev pub ErasesOne : Type 0
ErasesOne =
    Comes (0x61 ∷ 0x62 ∷ 0x7F ∷ 0x63 ∷ 0x0A ∷ [])
    (line (0x61 ∷ 0x63 ∷ 0x0A ∷ []) ∷ [])
    []
    (0x61 ∷ 0x62 ∷ 0x08 ∷ 0x20 ∷ 0x08 ∷ 0x63 ∷ 0x0D ∷ 0x0A ∷ [])

-- `x`, an interrupt and an eof
abbrev pub Interrupts : Type 0
Interrupts =
    Comes (0x78 ∷ 0x03 ∷ 0x04 ∷ [])
    (signal 2 ∷ line [] ∷ [])
    []
    (0x78 ∷ 0x5E ∷ 0x43 ∷ [])

-- a wide character, and an erase
abbrev pub ErasesWide : Type 0
ErasesWide =
    Comes (0xE4 ∷ 0xB8 ∷ 0xAD ∷ 0x7F ∷ [])
    []
    []
    (0xE4 ∷ 0xB8 ∷ 0xAD ∷ 0x08 ∷ 0x20 ∷ 0x08 ∷ 0x08 ∷ 0x20 ∷ 0x08 ∷ [])

-- three bytes that would be a character if an erased byte didn't separate the first two: each is a character of
-- its own, and a second erase drops the last alone
abbrev pub KeepsParted : Type 0
KeepsParted =
    Comes (0xE4 ∷ 0x61 ∷ 0x7F ∷ 0xB8 ∷ 0xAD ∷ 0x7F ∷ [])
    []
    (0xE4 ∷ 0xB8 ∷ [])
    (0xE4 ∷ 0x61 ∷ 0x08 ∷ 0x20 ∷ 0x08 ∷ 0xB8 ∷ 0xAD ∷ 0x08 ∷ 0x20 ∷ 0x08 ∷ [])
