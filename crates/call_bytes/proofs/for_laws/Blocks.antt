-- A text of pieces of the same length, read again.
use Rattle.std.proofs.Common.{◌≡◌, ℕ, suc, ◌+◌, ◌*◌, ◌<◌, List, [], ◌∷◌, length, get_or, take, refl, sym, ap, ◌∙◌, arith, length-append}
use Rattle.std.specs.Prelude.{map}
use Rattle.std.specs.List.{flat_map, range_with_len}
use Rattle.std.proofs.lemmas.List.{length-take-le}
use Rattle.std.proofs.lemmas.List.Concat.{get_or-flat_map}

pub length_of_pieces : {X : Type 0} (f : X → List ℕ) (each : ℕ) → ((x : X) → length (f x) ≡ each) → (xs : List X) → length (flat_map f xs) ≡ each * length xs
length_of_pieces f each same [] = grind arith
length_of_pieces f each same (x ∷ xs) =
    grind (arith, length-append (f x) (flat_map f xs), same x, length_of_pieces f each same xs)

-- byte j of piece i
pub byte_of_piece : {X : Type 0} (f : X → List ℕ) (each : ℕ) → ((x : X) → length (f x) ≡ each) → (xs : List X) (i j at : ℕ) (e : X) → i < length xs → j < each → at ≡ each * i + j → get_or (flat_map f xs) at 0 ≡ get_or (f (get_or xs i e)) j 0
byte_of_piece f each same xs i j at e h l is =
    let before : length (flat_map f (take i xs)) ≡ each * i =
    length_of_pieces f each same (take i xs) ∙ ap (λ n. each * n) (length-take-le i xs (omega arith)) in
    let m : j < length (f (get_or xs i e)) = rw (same (get_or xs i e)) l in
    ap (λ n. get_or (flat_map f xs) n 0) (is ∙ ap (λ n. n + j) (sym before))
    ∙ get_or-flat_map f xs i j e 0 h m

pub cons_same : {X : Type 0} (x y : X) (xs ys : List X) → x ≡ y → xs ≡ ys → x ∷ xs ≡ y ∷ ys
cons_same x y xs ys e f = cc

-- items that are read at their places
pub read_again : {X : Type 0} (read : ℕ → X) (xs : List X) (from : ℕ) → ((i : ℕ) (e : X) → i < length xs → read (from + i) ≡ get_or xs i e) → map read (range_with_len from (length xs)) ≡ xs
read_again read [] from each = refl
read_again read (x ∷ xs) from each =
    cons_same (read from) x (map read (range_with_len (from + 1) (length xs))) xs
    (ap read (let e : from ≡ from + 0 = omega arith in e) ∙ each 0 x (omega arith))
    (read_again read xs (from + 1) (λ i e h. ap read (let k : from + 1 + i ≡ from + suc i = omega arith in k) ∙ each (suc i) e (omega arith)))
