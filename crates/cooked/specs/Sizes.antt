-- Characters as their bytes and the sizes of each.
use Rattle.std.specs.Prelude.{◌≡◌, ◌⊎◌, ◌+◌, ℕ, Bool, List, [], ◌∷◌, ◌++◌, length, take, drop, if◌then◌else◌}
use Rattle.cooked.specs.KeptText.{but_last, last_of}
use Rattle.vt_base.specs.Bytes.{Text}

-- the bytes cut into parts of these sizes
abbrev pub parts : List ℕ → List ℕ → List (List ℕ)
parts [] bytes = []
parts (n ∷ sizes) bytes = take n bytes ∷ parts sizes (drop n bytes)

-- how many bytes these parts have
abbrev pub total : List ℕ → ℕ
total [] = 0
total (n ∷ sizes) = n + total sizes

-- the sizes are of all the bytes; and there is room for a full line
pub record AreSizes (sizes bytes : Text) : Type 0 where
  pub whole : total sizes.bytes ≡ length bytes.bytes
  pub bytes_room : length bytes.bytes + bytes.room ≡ 4096
  pub sizes_room : length sizes.bytes + sizes.room ≡ 4096

-- the sizes are those before and then this one; if there are no sizes, none is before and this one is 0
abbrev pub EndsBy : List ℕ → List ℕ → ℕ → Type 0
EndsBy sizes before size =
    (sizes ≡ before ++ size ∷ []) ⊎ ((sizes ≡ []) × (before ≡ []) × (size ≡ 0))

-- the last character, with the byte added to it
abbrev pub with_joined : List (List ℕ) → ℕ → List (List ℕ)
with_joined cs b = but_last cs ++ (last_of cs ++ b ∷ []) ∷ []

-- the byte is added to the last character, or is a character of its own
abbrev pub with_put : Bool → List (List ℕ) → ℕ → List (List ℕ)
with_put joins cs b = if joins then with_joined cs b else cs ++ (b ∷ []) ∷ []
