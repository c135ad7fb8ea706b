-- At most one of all consoles passes a test.
use Rattle.std.proofs.Common.{◌≡◌, ◌≢◌, ℕ, zero, suc, ◌+◌, ◌<◌, ◌≤◌, Bool, false, cond, List, [], ◌∷◌, filter, refl, sym, ap, ◌∙◌, ⊎_elim, arith}
use Rattle.std.specs.List.{range_with_len}
use Rattle.std.proofs.lemmas.Bool.{cases_eq}
use Rattle.vt_review.specs.Announcements.{consoles}

-- no number passes
filter_none : (p : ℕ → Bool) (start len : ℕ)
    → ((n : ℕ) → start ≤ n → n < start + len → p n ≡ false)
    → filter p (range_with_len start len) ≡ []
filter_none p start zero fails = refl
filter_none p start (suc len) fails =
    ap (λ (b : Bool). cond b (start ∷ filter p (range_with_len (start + 1) len)) (filter p (range_with_len (start + 1) len)))
    (fails start (omega arith) (omega arith))
    ∙ filter_none p (start + 1) len (λ n low high. fails n (omega arith) (omega arith))

-- only the number c can pass
filter_one : (p : ℕ → Bool) (c start len : ℕ) → start ≤ c → c < start + len
    → ((n : ℕ) → start ≤ n → n < start + len → n ≢ c → p n ≡ false)
    → filter p (range_with_len start len) ≡ cond (p c) (c ∷ []) []
filter_one p c start zero low high others = absurd (omega arith)
filter_one p c start (suc len) low high others = ⊎_elim
    (λ (here : start ≡ c).
    ap (λ (rest : List ℕ). cond (p start) (start ∷ rest) rest)
    (filter_none p (start + 1) len (λ n above below. others n (omega arith) (omega arith) (omega arith)))
    ∙ ap (λ (n : ℕ). cond (p n) (n ∷ []) []) here)
    (λ (later : start ≢ c).
    ap (λ (b : Bool). cond b (start ∷ filter p (range_with_len (start + 1) len)) (filter p (range_with_len (start + 1) len)))
    (others start (omega arith) (omega arith) later)
    ∙ filter_one p c (start + 1) len (omega arith) (omega arith)
    (λ n above below. others n (omega arith) (omega arith)))
    (cases_eq start c)

all_from : (start len : ℕ) → start ≡ 1 → len ≡ 63 → consoles ≡ range_with_len start len
unfolding consoles
all_from start len one all =
    sym (ap (λ (n : ℕ). range_with_len n len) one ∙ ap (λ (n : ℕ). range_with_len 1 n) all)

one_in : (start len : ℕ) → start ≡ 1 → len ≡ 63 → (p : ℕ → Bool) (c : ℕ) → 1 ≤ c → c ≤ 63
    → ((n : ℕ) → 1 ≤ n → n ≤ 63 → n ≢ c → p n ≡ false)
    → filter p consoles ≡ cond (p c) (c ∷ []) []
one_in start len one all p c low high others =
    ap (filter p) (all_from start len one all)
    ∙ filter_one p c start len (omega arith) (omega arith)
    (λ n above below. others n (omega arith) (omega arith))

none_in : (start len : ℕ) → start ≡ 1 → len ≡ 63 → (p : ℕ → Bool)
    → ((n : ℕ) → 1 ≤ n → n ≤ 63 → p n ≡ false) → filter p consoles ≡ []
none_in start len one all p fails =
    ap (filter p) (all_from start len one all)
    ∙ filter_none p start len (λ n above below. fails n (omega arith) (omega arith))

pub one_console : (p : ℕ → Bool) (c : ℕ) → 1 ≤ c → c ≤ 63
    → ((n : ℕ) → 1 ≤ n → n ≤ 63 → n ≢ c → p n ≡ false)
    → filter p consoles ≡ cond (p c) (c ∷ []) []
one_console = one_in 1 63 refl refl

pub no_console : (p : ℕ → Bool) → ((n : ℕ) → 1 ≤ n → n ≤ 63 → p n ≡ false)
    → filter p consoles ≡ []
no_console = none_in 1 63 refl refl
