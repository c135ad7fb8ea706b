-- Turns, one after another.
use Rattle.std.proofs.Common.{◌≡◌, ℕ, ℤ, ◌+◌, ◌≤◌, ◌<◌, true, List, [], ◌∷◌, ◌++◌, Result, Ok, Err, drop, get_or, length, min, refl, sym, ap, ◌∙◌, arith}
use Rattle.std.proofs.lemmas.Bool.Decides.{nat_tests}
use Rattle.std.proofs.lemmas.List.{append_assoc, append-nil, at_drop_more, drop_all}
use Rattle.table_fields.specs.Checked.{collect, ◌>>=◌}
use Rattle.table_fields.specs.Collecting.{found_before}
use Rattle.table_fields.specs.declared.fault.TableFault.{TableFault}
use Rattle.session_text.specs.Collected.{TurnsSoFar}
use Rattle.session_text.specs.Turns.{is_there}

-- with few processes, and four keyboards at most, no turn is past 67
pub turn_low : (processes keyboards n : ℕ) → keyboards ≤ 4 → is_there processes keyboards n ≡ true
    → processes ≤ 64 → n ≤ 67
turn_low processes keyboards n some there few = grind (arith, nat_tests)

-- the byte of a turn that is kept is the number of a caller that is there
pub turn_there : (processes keyboards n : ℕ) → keyboards ≤ 4 → is_there processes keyboards n ≡ true
    → is_there processes keyboards (min n 67) ≡ true
turn_there processes keyboards n some there = grind (arith, nat_tests)

-- the turns that were found, one more, and those after it
behind_one : (found : List ℕ) (n : ℕ) (more : Result (List ℕ) TableFault)
    → found_before (found ++ n ∷ []) more ≡ found_before found (more >>= (λ ns. Ok (n ∷ ns)))
behind_one found n (Ok ns) = ap Ok (append_assoc found (n ∷ []) ns)
behind_one found n (Err e) = refl

collect_one : (f : ℕ → ℤ → Result ℕ TableFault) (k n : ℕ) (x : ℤ) (xs : List ℤ) → f k x ≡ Ok n
    → collect f k (x ∷ xs) ≡ (collect f (k + 1) xs >>= (λ ns. Ok (n ∷ ns)))
collect_one f k n x xs is = ap (λ r. r >>= (λ y. collect f (k + 1) xs >>= (λ ns. Ok (y ∷ ns)))) is

pub turns_more : (processes i : ℕ) (bytes : List ℕ) (f : ℕ → ℤ → Result ℕ TableFault) (xs : List ℤ)
    (whole : Result (List ℕ) TableFault) (d : ℤ) (n : ℕ) → i < length xs
    → TurnsSoFar processes bytes (collect f (i + 1) (drop i xs)) whole
    → f (i + 1) (get_or xs i d) ≡ Ok n → (processes ≤ 64 → n ≤ 67)
    → TurnsSoFar processes (bytes ++ min n 67 ∷ []) (collect f (i + 1 + 1) (drop (i + 1) xs)) whole
turns_more processes i bytes f xs whole d n within so_far is low = record {
  found = so_far.found ++ n ∷ [];
  bytes_are = λ few.
      let same : min n 67 ≡ n = omega (arith, low few) in
      (λ j. so_far.bytes_are few j ++ same j ∷ []);
  whole_is =
      behind_one so_far.found n (collect f (i + 1 + 1) (drop (i + 1) xs))
      ∙ ap (found_before so_far.found)
      (sym
      (at_drop_more (collect f (i + 1)) xs i d within
      ∙ collect_one f (i + 1) n (get_or xs i d) (drop (i + 1) xs) is))
      ∙ so_far.whole_is;
}

pub turns_end : (processes i : ℕ) (bytes : List ℕ) (f : ℕ → ℤ → Result ℕ TableFault) (xs : List ℤ)
    (whole : Result (List ℕ) TableFault) → length xs ≤ i
    → TurnsSoFar processes bytes (collect f (i + 1) (drop i xs)) whole
    → (turns : List ℕ) × (whole ≡ Ok turns) × (processes ≤ 64 → bytes ≡ turns)
turns_end processes i bytes f xs whole end so_far = (
  so_far.found,
  sym so_far.whole_is
      ∙ ap (λ ys. found_before so_far.found (collect f (i + 1) ys)) (drop_all i xs end)
      ∙ ap Ok (append-nil so_far.found),
  so_far.bytes_are,
)
