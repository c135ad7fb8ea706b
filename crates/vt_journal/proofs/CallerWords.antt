-- A word is one caller's.
use Rattle.std.proofs.Common.{◌≡◌, ◌≢◌, ℕ, ◌<◌, ◌≤◌, ◌^◌, ◌⊎◌, ⊎_elim, Bool, true, false, eqb, cond, List, ◌++◌, codes, decimal, refl, sym, ◌∙◌, arith}
use Rattle.std.proofs.lemmas.Fmt.{decimal_injective}
use Rattle.vt_journal.specs.Callers.{HasWord, caller_word, is_process, keyboard_number}
use Rattle.vt_journal.proofs.Clear.{is_clear, is_clear_high, is_high, is_high-decimal}

small : (version n : ℕ) → HasWord version n → n < 2 ^ 64
small version n fit = omega (arith, fit.0)

keyboard_small : (version n : ℕ) → HasWord version n → keyboard_number n < 2 ^ 64
keyboard_small version n fit = omega (arith, fit.0)

-- a caller that isn't a process is the first keyboard, or one after the processes
keyboards : (n : ℕ) → is_process n ≡ false → (n ≡ 0) ⊎ (64 < n)
keyboards n is = grind arith

same_keyboard : (m n : ℕ) → is_process m ≡ false → is_process n ≡ false
    → keyboard_number m ≡ keyboard_number n → m ≡ n
same_keyboard m n is_m is_n same =
    ⊎_elim
    (λ zero. ⊎_elim (λ none. zero ∙ (λ j. 0) ∙ (omega (arith, none))) (λ above. omega (arith, zero, above, same)) (keyboards n is_n))
    (λ above. ⊎_elim (λ none. omega (arith, above, none, same)) (λ high. omega (arith, above, high, same)) (keyboards n is_n))
    (keyboards m is_m)

-- a word is that of one caller
pub same_caller : (version m n : ℕ) → HasWord version m → HasWord version n
    → caller_word version m ≡ caller_word version n → m ≡ n
same_caller version m n fit_m fit_n = by_test (eqb version 1) (is_process m) (is_process n) refl refl
  where
    numbers : decimal m ≡ decimal n → m ≡ n
    numbers same = decimal_injective m n (small version m fit_m) (small version n fit_n) same

    by_test : (old p q : Bool) → is_process m ≡ p → is_process n ≡ q
        → cond old (decimal m) (cond p (codes "p" ++ decimal m) (codes "k" ++ decimal (keyboard_number m)))
        ≡ cond old (decimal n) (cond q (codes "p" ++ decimal n) (codes "k" ++ decimal (keyboard_number n)))
        → m ≡ n
    by_test true p q is_m is_n same = numbers same
    by_test false true true is_m is_n same =
        let digits : decimal m ≡ decimal n = cc in
        numbers digits
    by_test false false false is_m is_n same =
        let digits : decimal (keyboard_number m) ≡ decimal (keyboard_number n) = cc in
        same_keyboard m n is_m is_n
        (decimal_injective (keyboard_number m) (keyboard_number n) (keyboard_small version m fit_m)
        (keyboard_small version n fit_n) digits)
    by_test false true false is_m is_n same =
        let letters : ◌≡◌ {A = ℕ} 0x70 0x6B = cc in
        absurd (omega (arith, letters))
    by_test false false true is_m is_n same =
        let letters : ◌≡◌ {A = ℕ} 0x6B 0x70 = cc in
        absurd (omega (arith, letters))

-- the first keyboard is no process
pub no_process : (n p : ℕ) (digits : List ℕ) → n ≡ 0 → decimal n ≡ digits → is_process p ≡ true
    → decimal p ≢ digits
no_process n p digits zero is process same =
    let within : (1 ≤ p) × (p ≤ 64) = grind arith in
    let both : p ≡ n =
    decimal_injective p n (omega (arith, within.1)) (omega (arith, zero)) (same ∙ sym is) in
    omega (arith, within.0, both, zero)

-- the bytes of a caller's word are digits or letters, and no last line begins with one
pub is_high_caller : (version n : ℕ) → HasWord version n → is_high (caller_word version n) ≡ true
is_high_caller version n fit = by_test (eqb version 1) (is_process n)
  where
    by_test : (old p : Bool)
        → is_high
        (cond old (decimal n) (cond p (codes "p" ++ decimal n) (codes "k" ++ decimal (keyboard_number n))))
        ≡ true
    by_test true p = is_high-decimal n (small version n fit)
    by_test false true = is_high-decimal n (small version n fit)
    by_test false false = is_high-decimal (keyboard_number n) (keyboard_small version n fit)

-- it is clear of blanks
pub is_clear_caller : (version n : ℕ) → HasWord version n → is_clear (caller_word version n) ≡ true
is_clear_caller version n fit = is_clear_high (caller_word version n) (is_high_caller version n fit)
