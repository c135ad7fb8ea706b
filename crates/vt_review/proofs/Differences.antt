-- Rows that differ in a printable character of ASCII.
use Rattle.std.proofs.Common.{◌≡◌, ℕ, true, false, List, [], ◌∷◌, ◌++◌, drop, flat_map, get_or, sym, ap, ◌∙◌}
use Rattle.std.specs.Prelude.{bytes_eq}
use Rattle.std.proofs.lemmas.Bool.{false_from_ne_true}
use Rattle.std.proofs.lemmas.List.{append_cancel_left, append_cancel_right}
use Rattle.std.proofs.lemmas.Slice.Eq.{bytes_eq-Decides}
use Rattle.vt_cells.specs.declared.cell.Cell.{Cell}
use Rattle.vt_dump.specs.Rows.{cell_text, row_text}

same_text : (a b : Cell) → a.code ≡ b.code → cell_text a ≡ cell_text b
same_text a b same = ap (λ (code : ℕ). cell_text (record { code = code; attr = 0 })) same

-- if two cells have one code, the texts after them are as much alike as those from them on
pub alike_after : (a b : Cell) (was is : List Cell) → a.code ≡ b.code
    → flat_map cell_text (a ∷ was) ≡ flat_map cell_text (b ∷ is) → flat_map cell_text was ≡ flat_map cell_text is
alike_after a b was is same alike =
    append_cancel_left (cell_text a) (flat_map cell_text was) (flat_map cell_text is)
    (alike ∙ ap (λ (t : List ℕ). t ++ flat_map cell_text is) (sym (same_text a b same)))

alike_rows : (before after : List Cell) → row_text before ≡ row_text after
    → flat_map cell_text before ≡ flat_map cell_text after
alike_rows before after same =
    append_cancel_right (flat_map cell_text before) (flat_map cell_text after) (0x7C ∷ 0x0A ∷ [])
    (ap (λ (t : List ℕ). drop 1 t) same)

-- if they have two codes that are their texts, the rows have two texts
pub texts_differ : (a b : Cell) (was is before after : List Cell)
    → (flat_map cell_text before ≡ flat_map cell_text after
    → flat_map cell_text (a ∷ was) ≡ flat_map cell_text (b ∷ is))
    → cell_text a ≡ a.code ∷ [] → cell_text b ≡ b.code ∷ [] → (a.code ≡ b.code → ⊥)
    → bytes_eq (row_text before) (row_text after) ≡ false
texts_differ a b was is before after alike first second other =
    false_from_ne_true (bytes_eq (row_text before) (row_text after))
    (λ (yes : bytes_eq (row_text before) (row_text after) ≡ true).
    other (ap (λ (t : List ℕ). get_or t 0 0)
    (ap (λ (t : List ℕ). t ++ flat_map cell_text was) (sym first)
    ∙ alike (alike_rows before after ((bytes_eq-Decides (row_text before) (row_text after)).0 yes))
    ∙ ap (λ (t : List ℕ). t ++ flat_map cell_text is) second)))
