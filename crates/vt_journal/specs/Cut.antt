-- Texts cut into words at their blanks.
use Rattle.std.specs.Prelude.{ℕ, ◌==◌, List, [], Option, Some, None}
use Rattle.std.specs.Borrow.{Bor}
use Rattle.std.specs.List.{slice_split}

-- the words of a text, each as long as there is no blank
abbrev pub words_of_text : List ℕ → List (List ℕ)
words_of_text text = slice_split (λ b. b == 0x20) text

-- the words of a text, if there is one
abbrev pub cut_of : Option (Bor (List ℕ)) → List (List ℕ)
cut_of None = []
cut_of (Some text) = words_of_text text.now
