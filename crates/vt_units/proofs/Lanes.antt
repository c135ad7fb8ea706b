-- A run of bytes that pass a test, found 16 at a time by the mask of those that don't.
use Rattle.std.proofs.Common.{◌≡◌, ℕ, ◌+◌, ◌-◌, ◌*◌, ◌%◌, ◌^◌, ◌<◌, ◌≤◌, Bool, true, false, not, cond, List, [], ◌∷◌, map, length, drop, replicate, refl, sym, ap, ◌∙◌, ⊎_elim, arith, w8, Fits}
use Rattle.std.specs.List.{prefix_len}
use Rattle.std.proofs.lemmas.Bool.{cases_lt, eq-eqb, ne_eqb}
use Rattle.std.proofs.lemmas.Bool.Decides.{nat_tests}
use Rattle.std.proofs.lemmas.List.{length-map}
use Rattle.std.proofs.lemmas.List.Folds.{prefix_len-append}
use Rattle.std.proofs.lemmas.List.Sums.{prefix_len-le-length}
use Rattle.std.proofs.lemmas.Simd.{chunk-drop, leading_from_mask_l, length-chunk, map-map, mask_l-mod, tops_compared, trailing_mask_l, zip2_splat_left}
use lib.Count.{count_trailing_zeros}
use lib.Dec.{eqb, leb}
use lib.Lanes.{Each1, chunk, mask_l, top, zip2}
use Rattle.vt_units.specs.Bytes.{is_printable}

abbrev pub is_other : ℕ → Bool
is_other b = not (is_printable b)

-- a byte isn't printable where, 32 less and modulo 256, it is 95 at least
other_byte : (b : ℕ) → b < 256 → leb 95 ((b + (256 - 32)) % 256) ≡ is_other b
other_byte b small = grind (arith, nat_tests)

not-not : (b : Bool) → b ≡ not (not b)
not-not true = refl
not-not false = refl

-- where all pass, no bit is set
no_bits : (xs : List ℕ) → prefix_len (λ x. not (is_other x)) xs ≡ length xs → mask_l (map is_other xs) ≡ 0
no_bits [] all = refl
no_bits (x ∷ xs) all = by (is_other x) (prefix_len-le-length (λ y. not (is_other y)) xs) all (no_bits xs)
  where
    by : (test : Bool) → prefix_len (λ y. not (is_other y)) xs ≤ length xs
        → cond (not test) (1 + prefix_len (λ y. not (is_other y)) xs) 0 ≡ length (x ∷ xs)
        → (prefix_len (λ y. not (is_other y)) xs ≡ length xs → mask_l (map is_other xs) ≡ 0)
        → cond test 1 0 + 2 * mask_l (map is_other xs) ≡ 0
    by true within same others = absurd (let e : ⊥ = omega arith in e)
    by false within same others = let none : mask_l (map is_other xs) ≡ 0 = others (omega arith) in omega arith

same_run : (xs : List ℕ) → prefix_len is_printable xs ≡ prefix_len (λ x. not (is_other x)) xs
same_run [] = refl
same_run (x ∷ xs) = λ i. cond (not-not (is_printable x) i) (1 + same_run xs i) 0

split : (text : List ℕ) (i n : ℕ) → prefix_len is_printable (drop i text)
    ≡ cond (eqb (prefix_len is_printable (chunk i n text)) (length (chunk i n text)))
    (length (chunk i n text) + prefix_len is_printable (drop (i + n) text)) (prefix_len is_printable (chunk i n text))
split text i n =
    ap (prefix_len is_printable) (chunk-drop i n text)
    ∙ prefix_len-append is_printable (chunk i n text) (drop (i + n) text)

-- no bit is set: the run goes through
pub run_through : (text : List ℕ) (i : ℕ) → i + 16 ≤ length text → mask_l (map is_other (chunk i 16 text)) ≡ 0
    → prefix_len is_printable (drop i text) ≡ 16 + prefix_len is_printable (drop (i + 16) text)
run_through text i room none =
    let part : List ℕ = chunk i 16 text in
    split text i 16
    ∙ ap (λ (b : Bool). cond b (length part + prefix_len is_printable (drop (i + 16) text)) (prefix_len is_printable part))
    (eq-eqb _ _ (same_run part ∙ leading_from_mask_l is_other part none))
    ∙ ap (λ (k : ℕ). k + prefix_len is_printable (drop (i + 16) text)) (length-chunk i 16 text room)

-- the lowest bit says where the run ends
pub run_stops : (text : List ℕ) (i : ℕ) → i + 16 ≤ length text → 0 < mask_l (map is_other (chunk i 16 text))
    → prefix_len is_printable (drop i text) ≡ count_trailing_zeros 64 (mask_l (map is_other (chunk i 16 text)))
run_stops text i room some =
    let part : List ℕ = chunk i 16 text in
    split text i 16
    ∙ ap (λ (b : Bool). cond b (length part + prefix_len is_printable (drop (i + 16) text)) (prefix_len is_printable part))
    (ne_eqb _ _ (λ (e : prefix_len is_printable part ≡ length part). omega (arith, no_bits part (sym (same_run part) ∙ e))))
    ∙ same_run part ∙ sym (trailing_mask_l is_other 64 part (omega (arith, length-chunk i 16 text room)) some)

abbrev lowered : ℕ → ℕ
lowered b = (b + (256 - 32)) % 256

each_byte : (v : List ℕ) → Each1 (Fits w8) v → map (λ b. leb 95 (lowered b)) v ≡ map is_other v
each_byte [] fits = refl
each_byte (b ∷ v) fits = λ i. other_byte b fits.0.fits i ∷ each_byte v fits.1 i

-- the mask that is computed is the mask of these bytes
pub stops_mask : (v lanes : List ℕ) → length v ≡ 16 → Each1 (Fits w8) v → lanes ≡ map lowered v
    → mask_l (map (top 7) (zip2 (λ a b. cond (leb a b) 255 0) (replicate 16 95) lanes)) % 2 ^ 64 ≡ mask_l (map is_other v)
stops_mask v lanes long fits low =
    let tests : map (top 7) (zip2 (λ a b. cond (leb a b) 255 0) (replicate 16 95) (map lowered v)) ≡ map is_other v =
    tops_compared w8 leb (replicate 16 95) (map lowered v)
    ∙ zip2_splat_left leb 95 16 (map lowered v) (length-map v lowered ∙ long)
    ∙ map-map (leb 95) lowered v ∙ each_byte v fits in
    ap (λ (xs : List ℕ). mask_l (map (top 7) (zip2 (λ a b. cond (leb a b) 255 0) (replicate 16 95) xs)) % 2 ^ 64) low
    ∙ ap (λ (bits : List Bool). mask_l bits % 2 ^ 64) tests
    ∙ mask_l-mod (map is_other v) 64 (omega (arith, length-map v is_other))
