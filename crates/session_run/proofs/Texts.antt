-- A text made of a list piece by piece.
use Rattle.std.proofs.Common.{◌≡◌, ℕ, ◌+◌, ◌<◌, List, ◌++◌, drop, length, Some, sym, ap, ◌∙◌, append_assoc, add-one, drop-cons}
use Rattle.std.proofs.lemmas.Option.{slice_get_within, get_or_from_slice_get}
use Rattle.std.specs.List.{flat_map, slice_get}

-- the rest of a list has the next element's piece, and then the others'
flat_map-drop : {A : Type 0} (f : A → List ℕ) (xs : List A) (i : ℕ) (x : A)
    → slice_get xs i ≡ Some x
    → flat_map f (drop i xs) ≡ f x ++ flat_map f (drop (i + 1) xs)
flat_map-drop f xs i x is =
    let within : i < length xs = slice_get_within xs i x is in
    ap (flat_map f) (drop-cons xs i x within)
    ∙ (λ j. f (get_or_from_slice_get xs i x x is j) ++ flat_map f (drop (sym (add-one i) j) xs))

-- the text so far and the rest stay the whole when the next piece is added
pub text_more : {A : Type 0} (f : A → List ℕ) (xs : List A) (i : ℕ) (x : A)
    (old new whole : List ℕ) → slice_get xs i ≡ Some x
    → new ≡ old ++ f x → old ++ flat_map f (drop i xs) ≡ whole
    → new ++ flat_map f (drop (i + 1) xs) ≡ whole
text_more f xs i x old new whole is added so_far =
    ap (λ text. text ++ flat_map f (drop (i + 1) xs)) added
    ∙ append_assoc old (f x) (flat_map f (drop (i + 1) xs))
    ∙ sym (ap (λ rest. old ++ rest) (flat_map-drop f xs i x is))
    ∙ so_far
