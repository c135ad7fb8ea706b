-- The rest after a word is shorter than the text that begins with the word.
use Rattle.std.proofs.Common.{◌≡◌, ℕ, suc, ◌-◌, ◌==◌, ◌≤◌, Bool, true, false, cond, Some, None, List, [], ◌∷◌, length, take, drop, refl, sym, ap, subst, arith}
use Rattle.std.proofs.lemmas.Bool.{eqb-false, false≢true}
use Rattle.std.proofs.lemmas.List.{length-drop}
use Rattle.std.specs.List.{prefix_len}
use Rattle.key_text.specs.Words.{is_blank, word_at, word_len}
use Rattle.key_text.specs.declared.placed.Placed.{Placed}

behind : (n : ℕ) (p : Placed) (ps : List Placed) → 1 ≤ n → suc (length (drop n (p ∷ ps))) ≤ suc (length ps)
behind n p ps some =
    let e : length (drop n (p ∷ ps)) ≡ length (p ∷ ps) - n = length-drop n (p ∷ ps) in
    let l : length (p ∷ ps) ≡ suc (length ps) = refl in
    omega arith

shorter_in : (x : List Placed) (v : List Placed × List Placed) (b : Bool) → (word_len x == 0) ≡ b → cond b None (Some (take (word_len x) x, drop (word_len x) x)) ≡ Some v → suc (length v.1) ≤ length x
shorter_in x v true e h = absurd (let none : None ≡ Some v = h in cc)
shorter_in [] v false e h = absurd (false≢true (sym e))
shorter_in (p ∷ ps) v false e h =
    let n = word_len (p ∷ ps) in
    let same : drop n (p ∷ ps) ≡ v.1 = (let s : Some (take n (p ∷ ps), drop n (p ∷ ps)) ≡ Some v = h in let t : (take n (p ∷ ps), drop n (p ∷ ps)) ≡ v = cc in ap (λ (u : List Placed × List Placed). u.1) t) in
    subst (λ (r : List Placed). suc (length r) ≤ suc (length ps)) same (behind n p ps (omega (arith, eqb-false n 0 e)))

pub shorter : (i : List Placed) (v : List Placed × List Placed) → word_at i ≡ Some v → suc (length v.1) ≤ length i
unfolding word_at
shorter i v e =
    let k = prefix_len (λ p. is_blank p.byte) i in
    let in_rest : suc (length v.1) ≤ length (drop k i) = shorter_in (drop k i) v (word_len (drop k i) == 0) refl e in
    let l : length (drop k i) ≡ length i - k = length-drop k i in
    omega arith
