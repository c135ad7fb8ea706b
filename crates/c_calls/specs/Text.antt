-- The results of a call that writes a text.
use Rattle.std.specs.Prelude.{◌≡◌, ◌⊎◌, ℕ, ◌<◌, ◌≤◌, ◌++◌, Bool, true, false, List, length, drop, nat_le}
use Rattle.c_calls.specs.Codes.{NO_MEMORY, NO_ROOM, OK}

-- OK: the text stands in the first places of the room, the other places stay unchanged, and its length is written
pub record IsWhole (text old new : List ℕ) (count code : ℕ) : Type 0 where
  pub fine : code ≡ OK
  pub size : count ≡ length text
  pub room : length text ≤ length old
  pub places : new ≡ text ++ drop (length text) old

-- no room: only its length is written
pub record LacksRoom (text old new : List ℕ) (count code : ℕ) : Type 0 where
  pub refused : code ≡ NO_ROOM
  pub size : count ≡ length text
  pub room : length old < length text
  pub places : new ≡ old

-- no memory: nothing is written
pub record LacksMemory (old new : List ℕ) (old_count count code : ℕ) : Type 0 where
  pub refused : code ≡ NO_MEMORY
  pub size : count ≡ old_count
  pub places : new ≡ old

-- the text is handed over whole, or there is no room
abbrev pub HandsOverFreely : List ℕ → List ℕ → List ℕ → ℕ → ℕ → Type 0
HandsOverFreely text old new count code = IsWhole text old new count code ⊎ LacksRoom text old new count code

-- the same, or memory ran out
abbrev pub HandsOver : List ℕ → List ℕ → List ℕ → ℕ → ℕ → ℕ → Type 0
HandsOver text old new old_count count code =
    IsWhole text old new count code ⊎ (LacksRoom text old new count code ⊎ LacksMemory old new old_count count code)

-- the length of the text is written
abbrev pub IsWritten : ℕ → Type 0
IsWritten code = (code ≡ OK) ⊎ (code ≡ NO_ROOM)

-- the room for a text, and its length, before or after a call
pub record Room : Type 0 where
  pub text : List ℕ
  pub length : ℕ

abbrev pub room_of : List ℕ → ℕ → Room
room_of text count = record { text = text; length = count }

-- the text is written if there is room for it; its length is written in both cases
abbrev pub HandsIf : Bool → List ℕ → ℕ → Room → Room → Type 0
HandsIf true text code old new =
    (code ≡ OK) × (new ≡ room_of (text ++ drop (length text) old.text) (length text))
HandsIf false text code old new = (code ≡ NO_ROOM) × (new ≡ room_of old.text (length text))

abbrev pub Hands : List ℕ → ℕ → Room → Room → Type 0
Hands text code old new = HandsIf (nat_le (length text) (length old.text)) text code old new
