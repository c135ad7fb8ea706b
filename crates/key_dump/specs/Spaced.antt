-- Words with a blank after each. No public clause names this.
use Rattle.std.specs.Prelude.{ℕ, List, ◌++◌, codes}
use Rattle.std.specs.List.{flat_map}

abbrev pub blank_after_each : List (List ℕ) → List ℕ
blank_after_each words = flat_map (λ word. word ++ codes " ") words
