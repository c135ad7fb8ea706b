-- The reading of an unfinished text with one more byte, within the bound of a sequence.
use Rattle.std.proofs.Common.{◌≡◌, ℕ, ◌≤◌, ◌<◌, ◌+◌, Bool, true, false, ◌&&◌, List, [], ◌∷◌, ◌++◌, length, take, drop, refl, sym, ap, ◌∙◌, subst, arith, ⊎_elim}
use Rattle.std.specs.Prelude.{nat_lt}
use Rattle.std.proofs.lemmas.Bool.{and_parts, and_from, cases_Bool, cases_lt, cond-true, cond-false, lt-ltb, ltb-true, false≢true}
use Rattle.std.proofs.lemmas.List.{drop_at, length-append, take-append-le, take_at}
use Rattle.vt_units.proofs.Follows.{After, follows_text, out_alone, out_none, out_dropped_or_none, dropped_or_none_some}
use Rattle.vt_units.specs.Reading.{Kind, unfinished, character, sequence, command, string, string_end, is_sequence, overlong, reading, dropped_or_none, text_reading}
use Rattle.vt_units.specs.declared.mode.Mode.{Mode}

abbrev is_long : Mode → List ℕ → Bool
is_long m t = nat_lt 256 (length t) && is_sequence (text_reading m (take 256 t))

overlong_out : (m : Mode) (xs : List ℕ) (k : Kind) → overlong m xs ≡ unfinished k → ⊥
overlong_out m [] k is = out_none k is
overlong_out m (x ∷ xs) k is = out_alone xs (dropped_or_none m x) (out_dropped_or_none m x) k is

-- an unfinished text is within the bound
pub within_bound : (m : Mode) (t : List ℕ) (k : Kind) → reading m t ≡ unfinished k
    → (is_long m t ≡ false) × (text_reading m t ≡ unfinished k)
within_bound m t k is = ⊎_elim
    (λ (long : is_long m t ≡ true). absurd (overlong_out m (drop 256 t) k (sym (cond-true _ _ _ long) ∙ is)))
    (λ (short : is_long m t ≡ false). (short, sym (cond-false _ _ _ short) ∙ is))
    (cases_Bool (is_long m t))

full_after : (m : Mode) (t : List ℕ) (b : ℕ) (k : Kind) → is_sequence (unfinished k) ≡ true
    → After m k b (dropped_or_none m b)
full_after m t b sequence is = (dropped_or_none_some m b, (λ e. refl))
full_after m t b character is = absurd (false≢true is)
full_after m t b command is = absurd (false≢true is)
full_after m t b string is = absurd (false≢true is)
full_after m t b string_end is = absurd (false≢true is)

pub follows_reading : (m : Mode) (b : ℕ) (t : List ℕ) (k : Kind) → reading m t ≡ unfinished k
    → After m k b (reading m (t ++ b ∷ []))
follows_reading m b t k is =
    let here : (is_long m t ≡ false) × (text_reading m t ≡ unfinished k) = within_bound m t k is in
    ⊎_elim
    (λ (long : is_long m (t ++ b ∷ []) ≡ true).
    let p : (nat_lt 256 (length (t ++ b ∷ [])) ≡ true)
    × (is_sequence (text_reading m (take 256 (t ++ b ∷ []))) ≡ true) = and_parts _ _ long in
    let over : 256 < length (t ++ b ∷ []) = ltb-true 256 (length (t ++ b ∷ [])) p.0 in
    let len : length (t ++ b ∷ []) ≡ length t + 1 = length-append t (b ∷ []) in
    ⊎_elim
    (λ (longer : 256 < length t).
    let same : take 256 (t ++ b ∷ []) ≡ take 256 t = take-append-le 256 t (b ∷ []) (omega arith) in
    let before : is_long m t ≡ true =
    and_from _ _ (lt-ltb 256 (length t) longer)
    (ap (λ xs. is_sequence (text_reading m xs)) (sym same) ∙ p.1) in
    absurd (false≢true (sym here.0 ∙ before)))
    (λ (not_longer : length t ≤ 256).
    let full : length t ≡ 256 = omega arith in
    let one : is_sequence (unfinished k) ≡ true =
    ap is_sequence (sym here.1)
    ∙ ap (λ xs. is_sequence (text_reading m xs)) (sym (take_at t (b ∷ []) 256 full)) ∙ p.1 in
    subst (After m k b)
    (sym (cond-true _ _ _ long ∙ ap (overlong m) (drop_at t (b ∷ []) 256 full)))
    (full_after m t b k one))
    (cases_lt 256 (length t)))
    (λ (short : is_long m (t ++ b ∷ []) ≡ false).
    subst (After m k b) (sym (cond-false _ _ _ short)) (follows_text m b t k here.1))
    (cases_Bool (is_long m (t ++ b ∷ [])))
