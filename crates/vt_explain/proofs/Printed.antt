-- The line of an item, made piece by piece.
use Rattle.std.proofs.Common.{◌≡◌, ℕ, List, [], ◌∷◌, ◌++◌, sym, ap, ◌∙◌, append_assoc}
use Rattle.vt_journal.proofs.Lines.{joined_by_blanks-cons}
use Rattle.vt_journal.specs.Journal.{line_text}
use Rattle.vt_journal.specs.Text.{blank_before_each}

in_order : (t a b c d e f : List ℕ)
    → (((((t ++ a) ++ b) ++ c) ++ d) ++ e) ++ f ≡ t ++ ((a ++ (b ++ (c ++ (d ++ e)))) ++ f)
in_order t a b c d e f = simp append_assoc

-- the line of an item, from its pieces
pub item_line : (at nth from to : List ℕ) (cause : List (List ℕ))
    (t0 t1 t2 t3 t4 t5 t6 : List ℕ)
    → t1 ≡ t0 ++ at → t2 ≡ t1 ++ 0x20 ∷ nth → t3 ≡ t2 ++ 0x20 ∷ from → t4 ≡ t3 ++ 0x20 ∷ to
    → t5 ≡ t4 ++ blank_before_each cause → t6 ≡ t5 ++ 0x0A ∷ []
    → t6 ≡ t0 ++ line_text (at ∷ nth ∷ from ∷ to ∷ cause)
item_line at nth from to cause t0 t1 t2 t3 t4 t5 t6 is1 is2 is3 is4 is5 is6 =
    simp (is6, is5, is4, is3, is2, is1)
    (in_order t0 at (0x20 ∷ nth) (0x20 ∷ from) (0x20 ∷ to) (blank_before_each cause) (0x0A ∷ [])
    ∙ ap (λ line. t0 ++ (line ++ 0x0A ∷ [])) (sym (joined_by_blanks-cons at (nth ∷ from ∷ to ∷ cause))))
