-- Quoted text that is read a byte at a time.
use Rattle.std.proofs.Common.{◌≡◌, ◌≢◌, ℕ, suc, ◌+◌, ◌-◌, ◌<◌, ◌≤◌, cond, Option, Some, None, List, [], ◌∷◌, ◌++◌, length, take, append_assoc, refl, sym, ap, ◌∙◌, subst, inl, inr, arith}
use Rattle.std.proofs.lemmas.Bool.Decides.{eqb_tells}
use Rattle.std.specs.Option.{option_and_then, option_map}
use Rattle.key_text.specs.Quoted.{before_rest, escape_in, first_of, letter_escape, octal_escape, octal_len, unescaped_bytes, unescaped_whole}

pub escape_in_octal : (text : List ℕ) (n : ℕ) → n ≡ octal_len text → n ≢ 0 → octal_escape (take n text) ≡ escape_in text
unfolding escape_in
escape_in_octal text n e some = elim (eqb_tells (octal_len text) 0) [
  | inl none ↦ absurd (some (e ∙ none.1))
  | inr h ↦
      ap (λ m. octal_escape (take m text)) e
      ∙ sym (ap (λ t. cond t (letter_escape text) (octal_escape (take (octal_len text) text))) h.0)
]

-- what was read of the text is good, and stands for these bytes; the rest has as many bytes as
-- turns are left, or fewer
pub record IsUnescaped (text bytes rest : List ℕ) (turn : ℕ) : Type 0 where
  pub bound : length rest ≤ length text - turn
  pub same : unescaped_whole text ≡ option_map (λ bs. bytes ++ bs) (unescaped_bytes (length text - turn) rest)

joined_map : (bytes : List ℕ) (v : ℕ) (rest : Option (List ℕ)) → option_map (λ bs. bytes ++ bs) (option_map (λ bs. v ∷ bs) rest) ≡ option_map (λ bs. (bytes ++ v ∷ []) ++ bs) rest
joined_map bytes v None = refl
joined_map bytes v (Some bs) = ap Some (sym (append_assoc bytes (v ∷ []) bs))

unescaped_step : (m b : ℕ) (bs : List ℕ) (first : Option (ℕ × List ℕ)) → first_of b bs ≡ first → unescaped_bytes (suc m) (b ∷ bs) ≡ option_and_then (before_rest (unescaped_bytes m)) first
unescaped_step m b bs first e = ap (option_and_then (before_rest (unescaped_bytes m))) e

pub unescaped_more : (text bytes rest : List ℕ) (turn : ℕ) → IsUnescaped text bytes rest turn → turn < length text → (b : ℕ) (bs : List ℕ) → rest ≡ b ∷ bs → (v : ℕ) (left : List ℕ) → first_of b bs ≡ Some (v, left) → length left ≤ length bs → (pushed : List ℕ) → pushed ≡ bytes ++ v ∷ [] → IsUnescaped text pushed left (turn + 1)
unescaped_more text bytes rest turn so_far h b bs r v left e shorter pushed p =
    let m = length text - (turn + 1) in
    let turns : length text - turn ≡ suc m = omega arith in
    let long : suc (length bs) ≤ length text - turn = subst (λ (xs : List ℕ). length xs ≤ length text - turn) r so_far.bound in
    record {
      bound = omega arith;
      same =
          so_far.same
          ∙ ap (λ n. option_map (λ bs. bytes ++ bs) (unescaped_bytes n rest)) turns
          ∙ ap (λ xs. option_map (λ bs. bytes ++ bs) (unescaped_bytes (suc m) xs)) r
          ∙ ap (option_map (λ bs. bytes ++ bs)) (unescaped_step m b bs (Some (v, left)) e)
          ∙ joined_map bytes v (unescaped_bytes m left)
          ∙ ap (λ front. option_map (λ bs. front ++ bs) (unescaped_bytes m left)) (sym p);
    }

pub unescaped_stops : (text bytes rest : List ℕ) (turn : ℕ) → IsUnescaped text bytes rest turn → turn < length text → (b : ℕ) (bs : List ℕ) → rest ≡ b ∷ bs → first_of b bs ≡ None → unescaped_whole text ≡ None
unescaped_stops text bytes rest turn so_far h b bs r e =
    let m = length text - (turn + 1) in
    let turns : length text - turn ≡ suc m = omega arith in
    so_far.same
    ∙ ap (λ n. option_map (λ bs. bytes ++ bs) (unescaped_bytes n rest)) turns
    ∙ ap (λ xs. option_map (λ bs. bytes ++ bs) (unescaped_bytes (suc m) xs)) r
    ∙ ap (option_map (λ bs. bytes ++ bs)) (unescaped_step m b bs None e)
