-- The characters that erases leave of the fresh bytes.
use Rattle.std.specs.Prelude.{ℕ, zero, suc, Bool, false, ◌==◌, List, [], ◌∷◌, if◌then◌else◌}
use Rattle.std.specs.List.{concat}
use Rattle.vt_chars.specs.Characters.{characters}
use Rattle.cooked.specs.declared.termios.Termios.{Termios}

-- the characters that are kept, and how many erases among them had no character to drop
pub record Reading : Type 0 where
  pub kept : List (List ℕ)
  pub debt : ℕ

-- the character is the erase byte. That is below 80, so it is a character of its own, and separates the bytes
-- before it from those after it
abbrev pub is_erase : ℕ → List ℕ → Bool
is_erase erase (b ∷ []) = b == erase
is_erase erase _ = false

-- a character that isn't an erase is dropped if there is a debt, and otherwise kept
abbrev pub read_data : List ℕ → List (List ℕ) → ℕ → Reading
read_data c kept zero = record { kept = c ∷ kept; debt = 0 }
read_data c kept (suc debt) = record { kept = kept; debt = debt }

-- a character, after those to its right were read: an erase adds one to the debt
abbrev pub read_character : ℕ → List ℕ → Reading → Reading
read_character erase c right =
    if is_erase erase c then record { kept = right.kept; debt = suc right.debt }
    else read_data c right.kept right.debt

-- characters, read from the right
abbrev pub read_all : ℕ → List (List ℕ) → Reading
read_all erase [] = record { kept = []; debt = 0 }
read_all erase (c ∷ more) = read_character erase c (read_all erase more)

-- the kept characters of fresh bytes
abbrev pub kept_characters : Termios → List ℕ → List (List ℕ)
kept_characters t bytes = (read_all t.erase (characters bytes)).kept

-- the kept bytes
abbrev pub kept_bytes : Termios → List ℕ → List ℕ
kept_bytes t bytes = concat (kept_characters t bytes)

-- the last character: no byte, if there is none
abbrev pub last_of : List (List ℕ) → List ℕ
last_of [] = []
last_of (c ∷ []) = c
last_of (c ∷ d ∷ more) = last_of (d ∷ more)

-- all characters except the last one
abbrev pub but_last : List (List ℕ) → List (List ℕ)
but_last [] = []
but_last (c ∷ []) = []
but_last (c ∷ d ∷ more) = c ∷ but_last (d ∷ more)
