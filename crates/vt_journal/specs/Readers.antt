-- The results of readers: the value that the next words spell, and the value that a text spells.
use Rattle.std.specs.Prelude.{◌≡◌, ◌≢◌, ℕ, List, [], ◌∷◌, ◌++◌, Option, Some, None}

-- the old words are those of the value and then the new ones; if there is no value, the old words begin with
-- those of no fit value
abbrev pub Takes : {X : Type 0} → (X → List (List ℕ)) → (X → Type 0) → List (List ℕ) → List (List ℕ) → Option X → Type 0
Takes words_of Fit old new (Some x) = old ≡ words_of x ++ new
Takes words_of Fit old new None = (x : _) (rest : List (List ℕ)) → Fit x → old ≢ words_of x ++ rest

-- the text is that of the value; if there is no value, the text is that of no fit value
abbrev pub Finds : {X T : Type 0} → (X → T) → (X → Type 0) → T → Option X → Type 0
Finds text_of Fit text (Some x) = text_of x ≡ text
Finds text_of Fit text None = (x : _) → Fit x → text_of x ≢ text

-- a value that was taken, if no word is left
abbrev pub if_none_left : {X : Type 0} → List (List ℕ) → Option X → Option X
if_none_left [] taken = taken
if_none_left (word ∷ words) taken = None
