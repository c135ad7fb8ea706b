-- The parameters of a body, read from its start.
use Rattle.std.proofs.Common.{◌≡◌, ℕ, ◌==◌, ◌≤◌, ◌<◌, ◌+◌, ◌-◌, ◌*◌, min, true, false, List, [], ◌∷◌, ◌++◌, map, length, take, drop, get_or, sym, ap, ◌∙◌, arith, ⊎_elim}
use Rattle.std.proofs.lemmas.Bool.{cases_Bool, cases_lt, cond-true, cond-false}
use Rattle.std.proofs.lemmas.List.{length-take-le, take-append-le, take-take, take_all, take_at, append_assoc, drop_more}
use Rattle.vt_units.specs.Numbers.{Fields, numbers_after, fields_of, number_of, params_of, number_with_digit, with_digits}

abbrev from : ℕ → List ℕ → ℕ
from n digits = min 65535 (with_digits n digits)

large : (n : ℕ) (digits : List ℕ) → 65535 ≤ n → 65535 ≤ with_digits n digits
large n [] big = big
large n (d ∷ digits) big = large (n * 10 + (d - 0x30)) digits (omega arith)

-- a number that is cut is cut at the end too
from_cut : (n : ℕ) (digits : List ℕ) → from (min 65535 n) digits ≡ from n digits
from_cut n digits = ⊎_elim
    (λ (small : n < 65535). let e : min 65535 n ≡ n = omega arith in ap (λ k. from k digits) e)
    (λ (big : 65535 ≤ n).
    let e : min 65535 n ≡ 65535 = omega arith in
    let left : 65535 ≤ with_digits 65535 digits = large 65535 digits (omega arith) in
    let right : 65535 ≤ with_digits n digits = large n digits big in
    ap (λ k. from k digits) e ∙ omega arith)
    (cases_lt n 65535)

abbrev numbers_of : ℕ → Fields → List ℕ
numbers_of n fields = from n fields.first ∷ map number_of fields.others

pub numbers_after_is : (n : ℕ) (body : List ℕ) → n ≤ 65535 → numbers_after n body ≡ numbers_of n (fields_of body)
numbers_after_is n [] small = let e : n ≡ min 65535 n = omega arith in ap (λ k. k ∷ []) e
numbers_after_is n (b ∷ bs) small = ⊎_elim
    (λ (ends : (b == 0x3B) ≡ true).
    let e : n ≡ min 65535 n = omega arith in
    cond-true _ _ _ ends
    ∙ (λ i. e i ∷ numbers_after_is 0 bs (omega arith) i)
    ∙ ap (numbers_of n) (sym (cond-true _ _ _ ends)))
    (λ (goes : (b == 0x3B) ≡ false).
    let cut : min 65535 (n * 10 + (b - 0x30)) ≤ 65535 = omega arith in
    cond-false _ _ _ goes
    ∙ numbers_after_is (number_with_digit n b) bs cut
    ∙ ap (λ k. k ∷ map number_of (fields_of bs).others) (from_cut (n * 10 + (b - 0x30)) (fields_of bs).first)
    ∙ ap (numbers_of n) (sym (cond-false _ _ _ goes)))
    (cases_Bool (b == 0x3B))

pub numbers_after_all : (body : List ℕ) → take 16 (numbers_after 0 body) ≡ params_of body
numbers_after_all body = ap (take 16) (numbers_after_is 0 body (omega arith))

-- a list that was cut before another was added
pub cut_before : (n : ℕ) (xs ys : List ℕ) → take n (take n xs ++ ys) ≡ take n (xs ++ ys)
cut_before n xs ys = ⊎_elim
    (λ (long : n < length xs).
    let len : length (take n xs) ≡ n = length-take-le n xs (omega arith) in
    take-append-le n (take n xs) ys (omega arith)
    ∙ take-take n n xs (omega arith)
    ∙ sym (take-append-le n xs ys (omega arith)))
    (λ (short : length xs ≤ n). ap (λ zs. take n (zs ++ ys)) (take_all n xs short))
    (cases_lt n (length xs))

pub full : (xs : List ℕ) (n : ℕ) → length xs ≡ 16 → xs ≡ take 16 (xs ++ n ∷ [])
full xs n len = sym (take_at xs (n ∷ []) 16 len)

-- a step of the reading: a semicolon, or a digit
pub field_ends : (kept : List ℕ) (n b : ℕ) (rest all : List ℕ) → b ≡ 0x3B
    → take 16 (kept ++ numbers_after n (b ∷ rest)) ≡ all
    → take 16 (take 16 (kept ++ n ∷ []) ++ numbers_after 0 rest) ≡ all
field_ends kept n b rest all is before =
    cut_before 16 (kept ++ n ∷ []) (numbers_after 0 rest)
    ∙ ap (take 16) (append_assoc kept (n ∷ []) (numbers_after 0 rest))
    ∙ ap (λ x. take 16 (kept ++ numbers_after n (x ∷ rest))) (sym is)
    ∙ before

pub field_goes : (kept : List ℕ) (n b : ℕ) (rest all : List ℕ) → (b == 0x3B) ≡ false
    → take 16 (kept ++ numbers_after n (b ∷ rest)) ≡ all
    → take 16 (kept ++ numbers_after (number_with_digit n b) rest) ≡ all
field_goes kept n b rest all goes before =
    ap (λ ns. take 16 (kept ++ ns)) (sym (cond-false _ _ _ goes)) ∙ before

pub front_number : (kept body all : List ℕ) (n i : ℕ) → i < length body
    → take 16 (kept ++ numbers_after n (drop i body)) ≡ all
    → take 16 (kept ++ numbers_after n (get_or body i 0 ∷ drop (i + 1) body)) ≡ all
front_number kept body all n i within before =
    ap (λ xs. take 16 (kept ++ numbers_after n xs)) (sym (drop_more body i 0 within)) ∙ before

-- a parameter that is read as a whole, and those after it
pub field_more : (kept : List ℕ) (m : ℕ) (here after all : List ℕ) → here ≡ m ∷ after
    → take 16 (kept ++ here) ≡ all
    → take 16 (take 16 (kept ++ m ∷ []) ++ after) ≡ all
field_more kept m here after all is before =
    cut_before 16 (kept ++ m ∷ []) after
    ∙ ap (take 16) (append_assoc kept (m ∷ []) after)
    ∙ ap (λ ns. take 16 (kept ++ ns)) (sym is)
    ∙ before
