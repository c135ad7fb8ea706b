-- Words that are numbers.
use Rattle.std.proofs.Common.{◌≡◌, ◌≢◌, ℕ, suc, ◌<◌, ◌≤◌, ◌^◌, List, [], ◌∷◌, ◌++◌, get_or, length, map, decimal, ap, ◌∙◌, arith}
use Rattle.std.proofs.lemmas.List.{length-map}
use Rattle.std.specs.List.{All}
use Rattle.vt_journal.specs.Replies.{Within}

-- after the first words comes the number at their place
number_at : (front words rest : List (List ℕ)) (ns : List ℕ) → length front < length ns
    → All (λ n. n < 2 ^ 16) ns → front ++ words ≡ map decimal ns ++ rest
    → (n : ℕ) × (more : List (List ℕ)) × (n < 2 ^ 16) × (words ≡ decimal n ∷ more)
number_at front words rest [] short fit same = absurd (omega arith)
number_at [] words rest (n ∷ ns) short fit same =
    (n, map decimal ns ++ rest, fit 0 0 (omega arith), same)
number_at (word ∷ front) words rest (n ∷ ns) short fit same =
    let others : front ++ words ≡ map decimal ns ++ rest = cc in
    number_at front words rest ns (omega arith) (λ k d inside. fit (suc k) d (omega arith)) others

-- words with no number at that place are not these numbers
pub no_number : (found : List ℕ) (words rest : List (List ℕ)) (ns : List ℕ)
    → length found < length ns → All (λ n. n < 2 ^ 16) ns
    → map decimal found ++ words ≡ map decimal ns ++ rest
    → ((n : ℕ) (more : List (List ℕ)) → n < 2 ^ 16 → words ≢ decimal n ∷ more) → ⊥
no_number found words rest ns short fit same none =
    let here =
    number_at (map decimal found) words rest ns (omega (arith, length-map found decimal)) fit
    same in
    none here.0 here.1 here.2 here.3

-- numbers one by one, each up to a most of its own
number_within : (front words rest : List (List ℕ)) (ns : List ℕ) → length front < length ns
    → front ++ words ≡ map decimal ns ++ rest
    → (more : List (List ℕ)) × (words ≡ decimal (get_or ns (length front) 0) ∷ more)
number_within front words rest [] short same = absurd (omega arith)
number_within [] words rest (n ∷ ns) short same = (map decimal ns ++ rest, same)
number_within (word ∷ front) words rest (n ∷ ns) short same =
    let others : front ++ words ≡ map decimal ns ++ rest = cc in
    number_within front words rest ns (omega arith) others

-- words with no such number at that place are not these numbers
pub none_within : (most found : List ℕ) (words rest : List (List ℕ)) (ns : List ℕ) (i : ℕ)
    → length found ≡ i → i < length most → Within most ns
    → map decimal found ++ words ≡ map decimal ns ++ rest
    → ((n : ℕ) (more : List (List ℕ)) → n ≤ get_or most i 0 → words ≢ decimal n ∷ more) → ⊥
none_within most found words rest ns i count short within same none =
    let len : length (map decimal found) ≡ i = length-map found decimal ∙ count in
    let inside : i < length ns = omega (arith, short, within.many) in
    let here = number_within (map decimal found) words rest ns (omega (arith, inside, len)) same in
    none (get_or ns i 0) here.0 (within.each i inside)
    (here.1 ∙ ap (λ k. decimal (get_or ns k 0) ∷ here.0) len)
