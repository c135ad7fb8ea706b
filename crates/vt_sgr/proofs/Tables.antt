-- The tables of the indices' colours, looked at one by one.
use Rattle.std.proofs.Common.{◌≡◌, ℕ, ◌==◌, ◌<◌, ◌%◌, true, List, [], ◌∷◌, slice_index_or, refl}
use Rattle.std.specs.Prelude.{nat_le, nat_lt}
use Rattle.std.proofs.lemmas.Bool.{agree_below_at, eqb-true}
use Rattle.vt_sgr.specs.Sgr.{background_of, foreground_of}

abbrev inks : List ℕ
inks =
    0 ∷ 1 ∷ 2 ∷ 3 ∷ 4 ∷ 5 ∷ 6 ∷ 7 ∷ 8 ∷ 9 ∷ 10 ∷ 11 ∷ 12 ∷ 13 ∷ 14 ∷ 15 ∷
    0 ∷ 4 ∷ 4 ∷ 4 ∷ 4 ∷ 12 ∷ 2 ∷ 6 ∷ 4 ∷ 4 ∷ 4 ∷ 12 ∷ 2 ∷ 2 ∷ 6 ∷ 6 ∷
    4 ∷ 12 ∷ 2 ∷ 2 ∷ 6 ∷ 6 ∷ 6 ∷ 14 ∷ 2 ∷ 2 ∷ 2 ∷ 6 ∷ 6 ∷ 14 ∷ 10 ∷ 10 ∷
    10 ∷ 14 ∷ 14 ∷ 14 ∷ 1 ∷ 5 ∷ 4 ∷ 4 ∷ 4 ∷ 12 ∷ 3 ∷ 8 ∷ 4 ∷ 4 ∷ 4 ∷ 12 ∷
    2 ∷ 2 ∷ 6 ∷ 6 ∷ 4 ∷ 12 ∷ 2 ∷ 2 ∷ 6 ∷ 6 ∷ 6 ∷ 14 ∷ 2 ∷ 2 ∷ 2 ∷ 6 ∷
    6 ∷ 14 ∷ 10 ∷ 10 ∷ 10 ∷ 14 ∷ 14 ∷ 14 ∷ 1 ∷ 1 ∷ 5 ∷ 5 ∷ 4 ∷ 12 ∷ 1 ∷ 1 ∷
    5 ∷ 5 ∷ 4 ∷ 12 ∷ 3 ∷ 3 ∷ 8 ∷ 7 ∷ 4 ∷ 12 ∷ 3 ∷ 3 ∷ 7 ∷ 7 ∷ 6 ∷ 14 ∷
    2 ∷ 2 ∷ 2 ∷ 6 ∷ 6 ∷ 14 ∷ 10 ∷ 10 ∷ 10 ∷ 14 ∷ 14 ∷ 14 ∷ 1 ∷ 1 ∷ 5 ∷ 5 ∷
    5 ∷ 13 ∷ 1 ∷ 1 ∷ 5 ∷ 5 ∷ 5 ∷ 13 ∷ 3 ∷ 3 ∷ 7 ∷ 7 ∷ 5 ∷ 13 ∷ 3 ∷ 3 ∷
    7 ∷ 7 ∷ 7 ∷ 15 ∷ 3 ∷ 3 ∷ 3 ∷ 7 ∷ 7 ∷ 15 ∷ 11 ∷ 11 ∷ 11 ∷ 15 ∷ 15 ∷ 15 ∷
    1 ∷ 1 ∷ 1 ∷ 5 ∷ 5 ∷ 13 ∷ 1 ∷ 1 ∷ 1 ∷ 5 ∷ 5 ∷ 13 ∷ 1 ∷ 1 ∷ 1 ∷ 5 ∷
    5 ∷ 13 ∷ 3 ∷ 3 ∷ 3 ∷ 7 ∷ 7 ∷ 15 ∷ 3 ∷ 3 ∷ 3 ∷ 7 ∷ 7 ∷ 15 ∷ 11 ∷ 11 ∷
    11 ∷ 15 ∷ 15 ∷ 15 ∷ 9 ∷ 9 ∷ 9 ∷ 13 ∷ 13 ∷ 13 ∷ 9 ∷ 9 ∷ 9 ∷ 13 ∷ 13 ∷ 13 ∷
    9 ∷ 9 ∷ 9 ∷ 13 ∷ 13 ∷ 13 ∷ 11 ∷ 11 ∷ 11 ∷ 15 ∷ 15 ∷ 15 ∷ 11 ∷ 11 ∷ 11 ∷ 15 ∷
    15 ∷ 15 ∷ 11 ∷ 11 ∷ 11 ∷ 15 ∷ 15 ∷ 15 ∷ 8 ∷ 8 ∷ 8 ∷ 8 ∷ 8 ∷ 8 ∷ 8 ∷ 8 ∷
    7 ∷ 7 ∷ 7 ∷ 7 ∷ 7 ∷ 7 ∷ 7 ∷ 7 ∷ 7 ∷ 15 ∷ 15 ∷ 15 ∷ 15 ∷ 15 ∷ 15 ∷ 15 ∷ []

abbrev grounds : List ℕ
grounds =
    0 ∷ 1 ∷ 2 ∷ 3 ∷ 4 ∷ 5 ∷ 6 ∷ 7 ∷ 0 ∷ 1 ∷ 2 ∷ 3 ∷ 4 ∷ 5 ∷ 6 ∷ 7 ∷
    0 ∷ 0 ∷ 0 ∷ 0 ∷ 4 ∷ 4 ∷ 0 ∷ 0 ∷ 0 ∷ 0 ∷ 4 ∷ 4 ∷ 0 ∷ 0 ∷ 0 ∷ 0 ∷
    4 ∷ 4 ∷ 0 ∷ 0 ∷ 0 ∷ 0 ∷ 4 ∷ 4 ∷ 2 ∷ 2 ∷ 2 ∷ 2 ∷ 6 ∷ 6 ∷ 2 ∷ 2 ∷
    2 ∷ 2 ∷ 6 ∷ 6 ∷ 0 ∷ 0 ∷ 0 ∷ 0 ∷ 4 ∷ 4 ∷ 0 ∷ 0 ∷ 0 ∷ 0 ∷ 4 ∷ 4 ∷
    0 ∷ 0 ∷ 0 ∷ 0 ∷ 4 ∷ 4 ∷ 0 ∷ 0 ∷ 0 ∷ 0 ∷ 4 ∷ 4 ∷ 2 ∷ 2 ∷ 2 ∷ 2 ∷
    6 ∷ 6 ∷ 2 ∷ 2 ∷ 2 ∷ 2 ∷ 6 ∷ 6 ∷ 0 ∷ 0 ∷ 0 ∷ 0 ∷ 4 ∷ 4 ∷ 0 ∷ 0 ∷
    0 ∷ 0 ∷ 4 ∷ 4 ∷ 0 ∷ 0 ∷ 0 ∷ 0 ∷ 4 ∷ 4 ∷ 0 ∷ 0 ∷ 0 ∷ 0 ∷ 4 ∷ 4 ∷
    2 ∷ 2 ∷ 2 ∷ 2 ∷ 6 ∷ 6 ∷ 2 ∷ 2 ∷ 2 ∷ 2 ∷ 6 ∷ 6 ∷ 0 ∷ 0 ∷ 0 ∷ 0 ∷
    4 ∷ 4 ∷ 0 ∷ 0 ∷ 0 ∷ 0 ∷ 4 ∷ 4 ∷ 0 ∷ 0 ∷ 0 ∷ 0 ∷ 4 ∷ 4 ∷ 0 ∷ 0 ∷
    0 ∷ 0 ∷ 4 ∷ 4 ∷ 2 ∷ 2 ∷ 2 ∷ 2 ∷ 6 ∷ 6 ∷ 2 ∷ 2 ∷ 2 ∷ 2 ∷ 6 ∷ 6 ∷
    1 ∷ 1 ∷ 1 ∷ 1 ∷ 5 ∷ 5 ∷ 1 ∷ 1 ∷ 1 ∷ 1 ∷ 5 ∷ 5 ∷ 1 ∷ 1 ∷ 1 ∷ 1 ∷
    5 ∷ 5 ∷ 1 ∷ 1 ∷ 1 ∷ 1 ∷ 5 ∷ 5 ∷ 3 ∷ 3 ∷ 3 ∷ 3 ∷ 7 ∷ 7 ∷ 3 ∷ 3 ∷
    3 ∷ 3 ∷ 7 ∷ 7 ∷ 1 ∷ 1 ∷ 1 ∷ 1 ∷ 5 ∷ 5 ∷ 1 ∷ 1 ∷ 1 ∷ 1 ∷ 5 ∷ 5 ∷
    1 ∷ 1 ∷ 1 ∷ 1 ∷ 5 ∷ 5 ∷ 1 ∷ 1 ∷ 1 ∷ 1 ∷ 5 ∷ 5 ∷ 3 ∷ 3 ∷ 3 ∷ 3 ∷
    7 ∷ 7 ∷ 3 ∷ 3 ∷ 3 ∷ 3 ∷ 7 ∷ 7 ∷ 0 ∷ 0 ∷ 0 ∷ 0 ∷ 0 ∷ 0 ∷ 0 ∷ 0 ∷
    0 ∷ 0 ∷ 0 ∷ 0 ∷ 7 ∷ 7 ∷ 7 ∷ 7 ∷ 7 ∷ 7 ∷ 7 ∷ 7 ∷ 7 ∷ 7 ∷ 7 ∷ 7 ∷ []

pub ink_hue : (i : ℕ) → i < 256 → slice_index_or inks i 0 % 8 ≡ (foreground_of i).0
ink_hue i below =
    eqb-true _ _
    (agree_below_at (λ (k : ℕ). (slice_index_or inks k 0 % 8) == (foreground_of k).0) (λ _. true) 256 i refl below)

pub ink_bold : (i : ℕ) → i < 256 → nat_le 8 (slice_index_or inks i 0) ≡ (foreground_of i).1
ink_bold i below =
    agree_below_at (λ (k : ℕ). nat_le 8 (slice_index_or inks k 0)) (λ (k : ℕ). (foreground_of k).1) 256 i refl below

pub ground_is : (i : ℕ) → i < 256 → slice_index_or grounds i 0 ≡ background_of i
ground_is i below =
    eqb-true _ _
    (agree_below_at (λ (k : ℕ). slice_index_or grounds k 0 == background_of k) (λ _. true) 256 i refl below)

pub ground_low : (i : ℕ) → i < 256 → nat_lt (slice_index_or grounds i 0) 8 ≡ true
ground_low i below =
    agree_below_at (λ (k : ℕ). nat_lt (slice_index_or grounds k 0) 8) (λ _. true) 256 i refl below
