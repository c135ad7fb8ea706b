-- The bytes of key events in K_MEDIUMRAW, event by event.
use Rattle.std.proofs.Common.{◌≡◌, ℕ, ◌+◌, ◌/◌, ◌%◌, ◌<◌, ◌≤◌, Bool, true, false, cond, List, [], ◌∷◌, ◌++◌, get_or, drop, refl, sym, ap, ◌∙◌, ⊎_elim, arith, rules}
use Rattle.std.proofs.lemmas.Bool.{cases_lt}
use Rattle.std.proofs.lemmas.List.Elements.{All-head, All-tail}
use Rattle.key_machine.proofs.Places.{less, not-less}
use Rattle.key_machine.specs.Bytes.{code_bytes}
use Rattle.key_machine.specs.Histories.{MediumBytesTell, medium_bytes}
use Rattle.scan_codes.specs.declared.key_event.KeyEvent.{KeyEvent}

-- the high bit of a key that goes up
abbrev up_bit : Bool → ℕ
up_bit down = cond down 0 128

short : (code : ℕ) (down : Bool) → code < 128 → code_bytes code down ≡ (code + up_bit down) ∷ []
unfolding code_bytes
short code down low = rw (less code 128 low) refl

long : (code : ℕ) (down : Bool) → 128 ≤ code → code_bytes code down ≡ up_bit down ∷ (128 + code / 128) ∷ (128 + code % 128) ∷ []
unfolding code_bytes
long code down high = rw (not-less code 128 high) refl

-- a keycode of an event
abbrev IsKey : ℕ → Type 0
IsKey code = (1 ≤ code) × (code ≤ 255)

-- the same event begins the bytes, and the rest is the same
abbrev Same : ℕ → Bool → ℕ → Bool → List ℕ → List ℕ → Type 0
Same c a d b xs ys = (c ≡ d) × (a ≡ b) × (xs ≡ ys)

first_same : (x y : ℕ) (xs ys : List ℕ) → x ∷ xs ≡ y ∷ ys → x ≡ y
first_same x y xs ys e = ap (λ bs. get_or bs 0 0) e

rest_same : (x y : ℕ) (xs ys : List ℕ) → x ∷ xs ≡ y ∷ ys → xs ≡ ys
rest_same x y xs ys e = ap (drop 1) e

short-short : (c d : ℕ) (a b : Bool) → c < 128 → d < 128 → c + up_bit a ≡ d + up_bit b → (c ≡ d) × (a ≡ b)
short-short c d true true lc ld e = (omega arith, refl)
short-short c d true false lc ld e = absurd (omega arith)
short-short c d false true lc ld e = absurd (omega arith)
short-short c d false false lc ld e = (omega arith, refl)

short-long : (c : ℕ) (a b : Bool) → 1 ≤ c → c < 128 → c + up_bit a ≡ up_bit b → ⊥
short-long c true true some low e = omega arith
short-long c true false some low e = omega arith
short-long c false true some low e = omega arith
short-long c false false some low e = omega arith

bit_same : (a b : Bool) → up_bit a ≡ up_bit b → a ≡ b
bit_same true true e = refl
bit_same true false e = absurd (omega arith)
bit_same false true e = absurd (omega arith)
bit_same false false e = refl

event_same : (c d : ℕ) (a b : Bool) (xs ys : List ℕ) → IsKey c → IsKey d → code_bytes c a ++ xs ≡ code_bytes d b ++ ys → Same c a d b xs ys
event_same c d a b xs ys kc kd e = ⊎_elim
    (λ (lc : c < 128). ⊎_elim
    (λ (ld : d < 128).
    let f : (c + up_bit a) ∷ xs ≡ (d + up_bit b) ∷ ys = ap (λ bs. bs ++ xs) (sym (short c a lc)) ∙ e ∙ ap (λ bs. bs ++ ys) (short d b ld) in
    let same = short-short c d a b lc ld (first_same _ _ _ _ f) in
    (same.0, same.1, rest_same _ _ _ _ f))
    (λ (hd : 128 ≤ d).
    let f : (c + up_bit a) ∷ xs ≡ up_bit b ∷ (128 + d / 128) ∷ (128 + d % 128) ∷ ys = ap (λ bs. bs ++ xs) (sym (short c a lc)) ∙ e ∙ ap (λ bs. bs ++ ys) (long d b hd) in
    absurd (short-long c a b kc.0 lc (first_same _ _ _ _ f)))
    (cases_lt d 128))
    (λ (hc : 128 ≤ c). ⊎_elim
    (λ (ld : d < 128).
    let f : up_bit a ∷ (128 + c / 128) ∷ (128 + c % 128) ∷ xs ≡ (d + up_bit b) ∷ ys = ap (λ bs. bs ++ xs) (sym (long c a hc)) ∙ e ∙ ap (λ bs. bs ++ ys) (short d b ld) in
    absurd (short-long d b a kd.0 ld (sym (first_same _ _ _ _ f))))
    (λ (hd : 128 ≤ d).
    let f : up_bit a ∷ (128 + c / 128) ∷ (128 + c % 128) ∷ xs ≡ up_bit b ∷ (128 + d / 128) ∷ (128 + d % 128) ∷ ys = ap (λ bs. bs ++ xs) (sym (long c a hc)) ∙ e ∙ ap (λ bs. bs ++ ys) (long d b hd) in
    let g = rest_same _ _ _ _ f in
    let h = rest_same _ _ _ _ g in
    let low : 128 + c % 128 ≡ 128 + d % 128 = first_same _ _ _ _ h in
    (omega arith, bit_same a b (first_same _ _ _ _ f), rest_same _ _ _ _ h))
    (cases_lt d 128))
    (cases_lt c 128)

-- bytes of a key event are some
some_bytes : (c : ℕ) (a : Bool) (xs : List ℕ) → [] ≡ code_bytes c a ++ xs → ⊥
some_bytes c a xs e = grind (arith, short, long, cases_lt)

event_of : (e f : KeyEvent) → e.code ≡ f.code → e.down ≡ f.down → e ≡ f
event_of e f codes downs =
    ap (λ (n : ℕ). record { code = n; down = e.down }) codes ∙ ap (λ (b : Bool). record { code = f.code; down = b }) downs

pub medium_bytes_tell : MediumBytesTell
medium_bytes_tell [] [] keys more same = refl
medium_bytes_tell [] (f ∷ others) keys more same = absurd (some_bytes f.code f.down (medium_bytes others) same)
medium_bytes_tell (e ∷ events) [] keys more same = absurd (some_bytes e.code e.down (medium_bytes events) (sym same))
medium_bytes_tell (e ∷ events) (f ∷ others) keys more same =
    let first =
    event_same e.code f.code e.down f.down (medium_bytes events) (medium_bytes others)
    (All-head (λ (x : KeyEvent). IsKey x.code) e events keys) (All-head (λ (x : KeyEvent). IsKey x.code) f others more) same in
    ap (λ x. x ∷ events) (event_of e f first.0 first.1)
    ∙ ap (λ xs. f ∷ xs)
    (medium_bytes_tell events others (All-tail (λ (x : KeyEvent). IsKey x.code) e events keys)
    (All-tail (λ (x : KeyEvent). IsKey x.code) f others more) first.2)
