-- Lists that turn around their end.
use Rattle.std.proofs.Common.{◌≡◌, ℕ, ◌+◌, ◌-◌, ◌<◌, ◌≤◌, ◌⊎◌, List, ◌++◌, map, length, take, drop, set, get_or, sym, ap, ◌∙◌, subst, arith, rules}
use Rattle.std.proofs.lemmas.Bool.{cases_eq}
use Rattle.std.proofs.lemmas.List.{places, same_lists, get_or-set_same, length-set, map-append, take-map, drop-map, take-append-drop, length-append, length-take, length-drop}
use Rattle.std.proofs.lemmas.List.Sorted.{IsPermutation-append_comm, IsPermutation-append_left, IsPermutation-append_right}
use Rattle.std.specs.List.Sorted.{IsPermutation}
use Rattle.vt_grid.specs.Store.{rotation_by, part_turned}

-- a place n further on round the end
abbrev pub IsPlace : ℕ → ℕ → ℕ → ℕ → Type 0
IsPlace len head n place = (place ≡ head + n) ⊎ (place + len ≡ head + n)

pub length-rotation_by : {A : Type 0} (n : ℕ) (xs : List A) → length (rotation_by n xs) ≡ length xs
length-rotation_by n xs =
    omega (
      arith,
      length-append (drop n xs) (take n xs),
      length-drop n xs,
      length-take n xs,
    )

pub rotation_by-rotation_by : {A : Type 0} (head n place : ℕ) (xs : List A) → head < length xs → n ≤ length xs
    → place < length xs → IsPlace (length xs) head n place
    → rotation_by n (rotation_by head xs) ≡ rotation_by place xs
rotation_by-rotation_by head n place xs head_in n_in place_in is =
    same_lists _ _ (search (rules, places)) (λ k d k_in. grind (arith, places))

pub set-rotation_by : {A : Type 0} (head y place : ℕ) (xs : List A) (a : A) → head < length xs
    → y < length xs → place < length xs → IsPlace (length xs) head y place
    → set (rotation_by head xs) y a ≡ rotation_by head (set xs place a)
set-rotation_by head y place xs a head_in y_in place_in is =
    same_lists _ _ (search (rules, places, length-set))
    (λ k d k_in. grind (arith, places, length-set, get_or-set_same, cases_eq k y))

pub map-rotation_by : {A B : Type 0} (f : A → B) (n : ℕ) (xs : List A)
    → map f (rotation_by n xs) ≡ rotation_by n (map f xs)
map-rotation_by f n xs =
    map-append f (drop n xs) (take n xs)
    ∙ (λ i. sym (drop-map f n xs) i ++ sym (take-map f n xs) i)

pub map-part_turned : {A B : Type 0} (f : A → B) (top bottom n : ℕ) (xs : List A)
    → map f (part_turned top bottom n xs) ≡ part_turned top bottom n (map f xs)
map-part_turned f top bottom n xs =
    let part = take (bottom + 1 - top) (drop top xs) in
    let part_is : map f part ≡ take (bottom + 1 - top) (drop top (map f xs)) =
    sym (take-map f (bottom + 1 - top) (drop top xs))
    ∙ ap (take (bottom + 1 - top)) (sym (drop-map f top xs)) in
    map-append f (take top xs) (rotation_by n part ++ drop (bottom + 1) xs)
    ∙ (λ i. sym (take-map f top xs) i ++ map-append f (rotation_by n part) (drop (bottom + 1) xs) i)
    ∙ (λ i. take top (map f xs)
    ++ ((map-rotation_by f n part ∙ ap (rotation_by n) part_is) i ++ sym (drop-map f (bottom + 1) xs) i))

pub IsPermutation-rotation_by : {A : Type 0} (n : ℕ) (xs : List A) → IsPermutation xs (rotation_by n xs)
IsPermutation-rotation_by {A = A} n xs =
    subst (λ (ys : List A). IsPermutation ys (rotation_by n xs)) (take-append-drop n xs)
    (IsPermutation-append_comm (take n xs) (drop n xs))

-- a part that is turned between two others
IsPermutation_between : {A : Type 0} (before part after : List A) (n : ℕ)
    → IsPermutation (before ++ (part ++ after)) (before ++ (rotation_by n part ++ after))
IsPermutation_between before part after n =
    IsPermutation-append_right before _ _
    (IsPermutation-append_left after _ _ (IsPermutation-rotation_by n part))

-- a list is its elements before a part, the part, and those after it
parts_is : {A : Type 0} (top bottom : ℕ) (xs : List A) → top ≤ bottom → bottom < length xs
    → take top xs ++ (take (bottom + 1 - top) (drop top xs) ++ drop (bottom + 1) xs) ≡ xs
parts_is top bottom xs order last =
    same_lists _ _ (search (rules, places)) (λ k d k_in. grind (arith, places))

pub IsPermutation-part_turned : {A : Type 0} (top bottom n : ℕ) (xs : List A) → top ≤ bottom
    → bottom < length xs → IsPermutation xs (part_turned top bottom n xs)
IsPermutation-part_turned {A = A} top bottom n xs order last =
    subst (λ (ys : List A). IsPermutation ys (part_turned top bottom n xs))
    (parts_is top bottom xs order last)
    (IsPermutation_between (take top xs) (take (bottom + 1 - top) (drop top xs))
    (drop (bottom + 1) xs) n)

-- a part that is turned by its number is as it was
pub part_turned_whole : {A : Type 0} (top bottom n : ℕ) (xs : List A) → top ≤ bottom
    → bottom < length xs → n ≡ bottom + 1 - top → part_turned top bottom n xs ≡ xs
part_turned_whole top bottom n xs order last whole =
    same_lists _ _ (search (rules, places)) (λ k d k_in. grind (arith, places))

-- the pieces of a part in turned order
pub rotation_by_pieces : {A : Type 0} (top n len : ℕ) (xs : List A) → n ≤ len → top + len ≤ length xs
    → take (len - n) (drop (top + n) xs) ++ take n (drop top xs)
    ≡ rotation_by n (take len (drop top xs))
rotation_by_pieces top n len xs n_in within =
    same_lists _ _ (search (rules, places)) (λ k d k_in. grind (arith, places))
