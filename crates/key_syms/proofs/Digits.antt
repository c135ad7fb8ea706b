-- A number that is read digit by digit and kept at 65,536 if it is more.
use Rattle.std.proofs.Common.{◌≡◌, ◌≢◌, ℕ, zero, suc, ◌+◌, ◌*◌, ◌<◌, ◌≤◌, min, Option, Some, None, List, [], ◌∷◌, length, get_or, take, fold, refl, sym, ap, ◌∙◌, inl, inr, arith}
use Rattle.std.proofs.Math.Nat.{mul-le-mul_left}
use Rattle.std.proofs.lemmas.Bool.{cases_lt}
use Rattle.std.proofs.lemmas.List.Sums.{fold_more}
use Rattle.std.specs.Option.{option_map}
use Rattle.key_syms.specs.Numbers.{with_digit, digit_in, number_in_base}

-- what was read of the digits so far, and the number that is kept for it
pub record IsRead (base : ℕ) (text : List ℕ) (n kept : ℕ) : Type 0 where
  pub spells : fold (with_digit base) (Some 0) text ≡ Some n
  pub keeps : kept ≡ min 65536 n

pub capped : (n base v : ℕ) → 1 ≤ base → min 65536 (min 65536 n * base + v) ≡ min 65536 (n * base + v)
capped n base v h = elim (cases_lt 65536 n) [
  | inl more ↦
      let few : min 65536 n ≡ 65536 = omega arith in
      rw few (omega (arith, mul-le-mul_left n h, mul-le-mul_left 65536 h))
  | inr less ↦ let all : min 65536 n ≡ n = omega arith in rw all refl
]

fold_none : (base : ℕ) (text : List ℕ) → fold (with_digit base) None text ≡ None
fold_none base [] = refl
fold_none base (b ∷ bs) = fold_none base bs

fold_stops : (base n : ℕ) (acc : Option ℕ) (text : List ℕ) (i : ℕ) → i < length text → fold (with_digit base) acc (take i text) ≡ Some n → with_digit base (Some n) (get_or text i 0) ≡ None → fold (with_digit base) acc text ≡ None
fold_stops base n acc [] i h e stop = absurd (omega arith)
fold_stops base n acc (b ∷ bs) zero h e stop =
    ap (λ x. fold (with_digit base) (with_digit base x b) bs) e ∙ ap (λ x. fold (with_digit base) x bs) stop ∙ fold_none base bs
fold_stops base n acc (b ∷ bs) (suc i) h e stop = fold_stops base n (with_digit base acc b) bs i (omega arith) e stop

pub number_in_base-fold : (base : ℕ) (text : List ℕ) → length text ≢ 0 → number_in_base base text ≡ fold (with_digit base) (Some 0) text
number_in_base-fold base [] h = absurd (h refl)
number_in_base-fold base (b ∷ bs) h = refl

some_left : (text : List ℕ) (i : ℕ) → i < length text → length text ≡ 0 → ⊥
some_left text i h e = omega arith

pub number_in_base_stops : (base n kept : ℕ) (text : List ℕ) (i : ℕ) → IsRead base (take i text) n kept → i < length text → digit_in base (get_or text i 0) ≡ None → None ≡ option_map (min 65536) (number_in_base base text)
number_in_base_stops base n kept text i read h stop =
    sym (ap (option_map (min 65536)) (number_in_base-fold base text (λ e. some_left text i h e) ∙ fold_stops base n (Some 0) text i h read.spells (ap (option_map (λ value. n * base + value)) stop)))

pub read_more : (base n kept : ℕ) (text : List ℕ) (i v : ℕ) → IsRead base (take i text) n kept → i < length text → 1 ≤ base → digit_in base (get_or text i 0) ≡ Some v → IsRead base (take (i + 1) text) (n * base + v) (min (kept * base + v) 65536)
read_more base n kept text i v read h some e = record {
  spells = fold_more (with_digit base) (Some 0) text i 0 h ∙ ap (λ x. with_digit base x (get_or text i 0)) read.spells ∙ ap (option_map (λ value. n * base + value)) e;
  keeps = ap (λ k. min (k * base + v) 65536) read.keeps ∙ (let joined = capped n base v some in omega arith);
}
