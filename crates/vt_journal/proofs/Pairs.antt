-- Bytes and their hexadecimal digits.
use Rattle.std.proofs.Common.{◌≡◌, ◌≢◌, ℕ, zero, suc, ◌+◌, ◌*◌, ◌/◌, ◌%◌, ◌<◌, ◌^◌, ◌-◌, true, false, cond, eqb, ltb, Option, Some, None, Result, Ok, Err, List, [], ◌∷◌, ◌++◌, codes, length, take, get_or, arith, sym, ap, refl, ◌∙◌, append_assoc}
use Rattle.std.specs.Prelude.{IfOk, option_map}
use Rattle.std.specs.Cmp.Lexicographic.{pointwise}
use Rattle.std.specs.List.{All, flat_map}
use Rattle.std.proofs.Math.Seq.{take-suc}
use Rattle.std.proofs.lemmas.Bool.Decides.{nat_tests}
use Rattle.std.proofs.lemmas.List.Concat.{flat_map-append}
use Rattle.std.proofs.lemmas.List.Elements.{All-cons}
use Rattle.vt_base.specs.Digits.{hex_byte, hex_digit}
use Rattle.vt_journal.specs.Hex.{hex_text}
use Rattle.vt_journal.specs.Readers.{Finds}

-- each byte has two digits
pub length_hex : (bytes : List ℕ) → length (flat_map hex_byte bytes) ≡ 2 * length bytes
length_hex [] = refl
length_hex (b ∷ bytes) = omega (arith, length_hex bytes)

-- bytes that are not none are spelled by their digits alone
pub hex_some : (word bytes : List ℕ) → word ≢ codes "-" → hex_text bytes ≡ word
    → (0 < length bytes) × (flat_map hex_byte bytes ≡ word)
hex_some word [] some is = absurd (some (sym is))
hex_some word (b ∷ bytes) some is = (omega arith, is)

-- the digits at the place of a byte are its own
hex_at : (bytes : List ℕ) (i : ℕ) → i < length bytes
    → (get_or (flat_map hex_byte bytes) (2 * i) 0 ≡ hex_digit (get_or bytes i 0 / 16))
    × (get_or (flat_map hex_byte bytes) (2 * i + 1) 0 ≡ hex_digit (get_or bytes i 0 % 16))
hex_at [] i within = absurd (omega arith)
hex_at (b ∷ bytes) zero within = (refl, refl)
hex_at (b ∷ bytes) (suc i) within =
    let high : 2 * suc i ≡ suc (suc (2 * i)) = omega arith in
    let low : 2 * suc i + 1 ≡ suc (suc (2 * i + 1)) = omega arith in
    let others = hex_at bytes i (omega arith) in (
      ap (λ n. get_or (flat_map hex_byte (b ∷ bytes)) n 0) high ∙ others.0,
      ap (λ n. get_or (flat_map hex_byte (b ∷ bytes)) n 0) low ∙ others.1,
    )

-- a word with no byte's digits at a place spells no bytes
pub no_hex : (word bytes : List ℕ) (i : ℕ) → i < length word / 2 → All (λ x. x < 2 ^ 8) bytes
    → flat_map hex_byte bytes ≡ word
    → ((b : ℕ) → b < 2 ^ 8
    → hex_byte b ≢ get_or word (2 * i) 0 ∷ get_or word (2 * i + 1) 0 ∷ [])
    → ⊥
no_hex word bytes i within fit is none =
    let inside : i < length bytes = omega (arith, length_hex bytes, ap length is) in
    let here = hex_at bytes i inside in
    none (get_or bytes i 0) (fit i 0 inside)
    (sym
    (ap (λ d. d ∷ get_or word (2 * i + 1) 0 ∷ []) (sym (ap (λ w. get_or w (2 * i) 0) is) ∙ here.0)
    ∙ ap (λ d. hex_digit (get_or bytes i 0 / 16) ∷ d ∷ [])
    (sym (ap (λ w. get_or w (2 * i + 1) 0) is) ∙ here.1)))

-- one more byte was read
pub hex_more : (word bytes : List ℕ) (i b : ℕ) → 2 * i + 1 < length word
    → flat_map hex_byte bytes ≡ take (2 * i) word
    → hex_byte b ≡ get_or word (2 * i) 0 ∷ get_or word (2 * i + 1) 0 ∷ []
    → flat_map hex_byte (bytes ++ b ∷ []) ≡ take (2 * (i + 1)) word
hex_more word bytes i b within so_far is =
    let twice : 2 * (i + 1) ≡ suc (suc (2 * i)) = omega arith in
    let next : 2 * i + 1 ≡ suc (2 * i) = omega arith in
    let high = get_or word (2 * i) 0 in
    let low = get_or word (2 * i + 1) 0 in
    let longer : take (2 * (i + 1)) word ≡ take (2 * i) word ++ (high ∷ low ∷ []) =
    ap (λ n. take n word) twice
    ∙ take-suc word (suc (2 * i)) 0 (omega arith)
    ∙ (λ j. take-suc word (2 * i) 0 (omega arith) j ++ get_or word (sym next j) 0 ∷ [])
    ∙ append_assoc (take (2 * i) word) (high ∷ []) (low ∷ []) in
    flat_map-append hex_byte bytes (b ∷ [])
    ∙ (λ j. so_far j ++ is j)
    ∙ sym longer

-- the bytes that were read have 8 bits
pub All_more : (bytes : List ℕ) (b : ℕ) → b < 2 ^ 8 → All (λ x. x < 2 ^ 8) bytes
    → All (λ x. x < 2 ^ 8) (bytes ++ b ∷ [])
All_more [] b fit all = All-cons (λ x. x < 2 ^ 8) b [] fit all
All_more (x ∷ bytes) b fit all =
    All-cons (λ x. x < 2 ^ 8) x (bytes ++ b ∷ []) (all 0 0 (omega arith))
    (All_more bytes b fit (λ k d inside. all (suc k) d (omega arith)))

-- digits are the text of the bytes that they spell
pub finds_hex : {X E : Type 0} (bytes_of : X → List ℕ) (word : List ℕ) (r : Result (Option X) E)
    → 0 < length word → word ≢ codes "-"
    → IfOk r (λ found. Finds (flat_map hex_byte) (All (λ x. x < 2 ^ 8)) word (option_map bytes_of found))
    → IfOk r (λ found. Finds hex_text (All (λ x. x < 2 ^ 8)) word (option_map bytes_of found))
finds_hex bytes_of word (Err e) some no_dash finds = tt
finds_hex bytes_of word (Ok None) some no_dash none = λ bytes fit is. none bytes fit (hex_some word bytes no_dash is).1
finds_hex bytes_of word (Ok (Some x)) some no_dash is = by_bytes (bytes_of x) is
  where
    by_bytes : (bytes : List ℕ) → flat_map hex_byte bytes ≡ word → hex_text bytes ≡ word
    by_bytes [] is = absurd (omega (arith, some, ap length is))
    by_bytes (b ∷ bytes) is = is

-- a word that compares as different from the dash is not the dash
pub no_dash : (word dash : List ℕ) → dash ≡ codes "-" → false ≡ pointwise eqb word dash
    → word ≢ codes "-"
no_dash word dash is apart same =
    let equal : pointwise eqb word dash ≡ true = λ j. pointwise eqb (same j) (is j) in
    cc

-- the number of a digit
unhex : ℕ → ℕ
unhex d = cond (ltb d 0x40) (d - 0x30) (d - 0x57)

unhex-hex_digit : (n : ℕ) → n < 16 → unhex (hex_digit n) ≡ n
unfolding unhex
unhex-hex_digit n below = grind (arith, nat_tests)

hex_byte_injective : (a b : ℕ) → a < 2 ^ 8 → b < 2 ^ 8 → hex_digit (a / 16) ≡ hex_digit (b / 16)
    → hex_digit (a % 16) ≡ hex_digit (b % 16) → a ≡ b
hex_byte_injective a b fit_a fit_b high low =
    let highs : a / 16 ≡ b / 16 =
    sym (unhex-hex_digit (a / 16) (omega arith))
    ∙ ap unhex high
    ∙ unhex-hex_digit (b / 16) (omega arith) in
    let lows : a % 16 ≡ b % 16 =
    sym (unhex-hex_digit (a % 16) (omega arith))
    ∙ ap unhex low
    ∙ unhex-hex_digit (b % 16) (omega arith) in
    omega (arith, highs, lows)

pairs_injective : (xs ys : List ℕ) → All (λ x. x < 2 ^ 8) xs → All (λ x. x < 2 ^ 8) ys
    → flat_map hex_byte xs ≡ flat_map hex_byte ys → xs ≡ ys
pairs_injective [] [] fit_a fit_b same = refl
pairs_injective [] (b ∷ ys) fit_a fit_b same = cc
pairs_injective (a ∷ xs) [] fit_a fit_b same = cc
pairs_injective (a ∷ xs) (b ∷ ys) fit_a fit_b same =
    let high : hex_digit (a / 16) ≡ hex_digit (b / 16) = cc in
    let low : hex_digit (a % 16) ≡ hex_digit (b % 16) = cc in
    let others : flat_map hex_byte xs ≡ flat_map hex_byte ys = cc in
    let head : a ≡ b =
    hex_byte_injective a b (fit_a 0 0 (omega arith)) (fit_b 0 0 (omega arith)) high low in
    let tail : xs ≡ ys =
    pairs_injective xs ys (λ k d within. fit_a (suc k) d (omega arith))
    (λ k d within. fit_b (suc k) d (omega arith)) others in
    λ j. head j ∷ tail j

-- bytes are read back from their digits
pub hex_injective : (xs ys : List ℕ) → All (λ x. x < 2 ^ 8) xs → All (λ x. x < 2 ^ 8) ys
    → hex_text xs ≡ hex_text ys → xs ≡ ys
hex_injective [] [] fit_a fit_b same = refl
hex_injective [] (b ∷ ys) fit_a fit_b same = cc
hex_injective (a ∷ xs) [] fit_a fit_b same = cc
hex_injective (a ∷ xs) (b ∷ ys) fit_a fit_b same =
    pairs_injective (a ∷ xs) (b ∷ ys) fit_a fit_b same
