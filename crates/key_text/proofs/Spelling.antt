-- Words that are compared with keywords, byte by byte.
use Rattle.std.proofs.Common.{◌≡◌, ℕ, zero, suc, ◌+◌, ◌<◌, List, [], ◌∷◌, ◌++◌, length, get_or, set, take, refl, sym, ap, ◌∙◌, arith}
use Rattle.std.proofs.lemmas.List.{length-map, take_more, take_more_set}
use Rattle.key_text.specs.Words.{bytes}
use Rattle.key_text.specs.declared.placed.Placed.{Placed}

-- the first bytes of a word that are copied
byte_at : (word : List Placed) (i : ℕ) (d : Placed) → i < length word → (get_or word i d).byte ≡ get_or (bytes word) i 0
byte_at [] i d h = absurd (omega arith)
byte_at (p ∷ ps) zero d h = refl
byte_at (p ∷ ps) (suc i) d h = byte_at ps i d (omega arith)

pub copied_more : (text : List ℕ) (word : List Placed) (i : ℕ) (d : Placed) → i < length text → i < length word → take i text ≡ take i (bytes word) → take (i + 1) (set text i (get_or word i d).byte) ≡ take (i + 1) (bytes word)
copied_more text word i d h k same =
    take_more_set text i (get_or word i d).byte h
    ∙ ap (λ front. front ++ (get_or word i d).byte ∷ []) same
    ∙ ap (λ b. take i (bytes word) ++ b ∷ []) (byte_at word i d k)
    ∙ sym (take_more (bytes word) i 0 (let e = length-map word (λ p. p.byte) in omega arith))
