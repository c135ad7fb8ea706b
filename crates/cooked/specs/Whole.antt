-- All bytes typed since the start, with their items and their echo.
use Rattle.std.specs.Prelude.{ℕ, List, [], ◌∷◌, ◌++◌}
use Rattle.cooked.specs.Echo.{echo_of}
use Rattle.cooked.specs.Fresh.{fresh}
use Rattle.cooked.specs.Given.{Item, items_after}
use Rattle.cooked.specs.KeptText.{kept_bytes}
use Rattle.cooked.specs.declared.termios.Termios.{Termios}

-- the results of f for each byte in order, by that byte and those before it
abbrev pub each : {A : Type 0} → (List ℕ → ℕ → List A) → List ℕ → List ℕ → List A
each f before [] = []
each f before (b ∷ more) = f before b ++ each f (before ++ b ∷ []) more

-- the items that all the bytes give
abbrev pub all_items : Termios → List ℕ → List Item
all_items t bytes = each (λ before b. items_after t (fresh t before) b) [] bytes

-- the echo of all the bytes
abbrev pub all_echo : Termios → List ℕ → List ℕ
all_echo t bytes = each (λ before b. echo_of t (fresh t before) b) [] bytes

-- the bytes that are kept of all the bytes, and not given yet
abbrev pub rest : Termios → List ℕ → List ℕ
rest t bytes = kept_bytes t (fresh t bytes)
