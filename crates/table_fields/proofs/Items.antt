-- The items of a text.
use Rattle.std.proofs.Common.{◌≡◌, ℕ, false, List, [], ◌∷◌, length, refl, true≢false}
use Rattle.std.specs.Prelude.{◌==◌}
use Rattle.std.specs.List.{slice_split}
use Rattle.table_fields.specs.Fields.{items_of}

-- a text that isn't empty has the parts between its blanks
pub items_some : (text : List ℕ) → (length text == 0) ≡ false
    → items_of text ≡ slice_split (λ b. b == 0x20) text
items_some [] none = absurd (true≢false none)
items_some (c ∷ text) some = refl
