-- The lines of a dump have no fault.
use Rattle.std.proofs.Common.{◌≡◌, ℕ, ◌+◌, ◌≤◌, Bool, true, false, ◌||◌, cond, Some, None, List, [], ◌∷◌, ◌++◌, length, map, refl, ap, ◌∙◌, subst, arith}
use Rattle.std.proofs.lemmas.Bool.{le-ltb}
use Rattle.std.specs.List.{list_any}
use Rattle.std.specs.Option.{option_map, option_or}
use Rattle.key_syms.specs.declared.pair.Pair.{Pair}
use Rattle.key_text.specs.FaultKinds.{TOO_MANY_PAIRS}
use Rattle.key_text.specs.KeymapLine.{LineMeaning, KeymapLine, alt_is_meta, compose, keymaps, keys, one, string, usual_pairs, usual_strings}
use Rattle.key_compile.specs.Faults.{at_line, fault_of, first_fault, is_key, pairs_of_line}
use Rattle.key_dump.proofs.for_laws.Tellings.{tellings_of}

-- what is told has no fault, where there are n tables in the union, and so on as for `first_fault`
abbrev pub faultless : ℕ → Bool → ℕ → List LineMeaning → Type 0
faultless n seen count [] = Unit {0}
faultless n seen count (meaning ∷ meanings) =
    (fault_of n seen count meaning ≡ None)
    × faultless n (seen || is_key meaning) (count + pairs_of_line meaning) meanings

pub first_none : (n : ℕ) (seen : Bool) (count : ℕ) (lines : List KeymapLine) → faultless n seen count (tellings_of lines) → first_fault n seen count lines ≡ None
first_none n seen count [] free = refl
first_none n seen count (l ∷ ls) free =
    ap (λ fault. option_or (option_map (at_line l) fault) (first_fault n (seen || is_key l.meaning) (count + pairs_of_line l.meaning) ls)) free.0
    ∙ first_none n (seen || is_key l.meaning) (count + pairs_of_line l.meaning) ls free.1

-- lines that may have a fault
abbrev pub is_loud : LineMeaning → Bool
is_loud (keymaps tables) = true
is_loud (keys code actions) = true
is_loud (one table code action) = false
is_loud (string func bytes) = false
is_loud (compose pair) = true
is_loud alt_is_meta = true
is_loud usual_strings = true
is_loud usual_pairs = true

none_more : (n count : ℕ) (seen : Bool) (meanings : List LineMeaning) → faultless n seen count meanings → faultless n seen (count + 0) meanings
none_more n count seen meanings free = subst (λ (k : ℕ). faultless n seen k meanings) (let e : count ≡ count + 0 = omega arith in e) free

pub quiet_first : (n : ℕ) (seen : Bool) (count : ℕ) (us vs : List LineMeaning) → list_any is_loud us ≡ false → ((s : Bool) → faultless n s count vs) → faultless n seen count (us ++ vs)
quiet_first n seen count [] vs quiet free = free seen
quiet_first n seen count (keymaps tables ∷ us) vs quiet free = cc
quiet_first n seen count (keys code actions ∷ us) vs quiet free = cc
quiet_first n seen count (one table code action ∷ us) vs quiet free =
    (refl, none_more n count (seen || true) (us ++ vs) (quiet_first n (seen || true) count us vs quiet free))
quiet_first n seen count (string func bytes ∷ us) vs quiet free =
    (refl, none_more n count (seen || false) (us ++ vs) (quiet_first n (seen || false) count us vs quiet free))
quiet_first n seen count (compose pair ∷ us) vs quiet free = cc
quiet_first n seen count (alt_is_meta ∷ us) vs quiet free = cc
quiet_first n seen count (usual_strings ∷ us) vs quiet free = cc
quiet_first n seen count (usual_pairs ∷ us) vs quiet free = cc

pub pairs_few : (n : ℕ) (seen : Bool) (count : ℕ) (pairs : List Pair) → count + length pairs ≤ 256 → faultless n seen count (map compose pairs)
pairs_few n seen count [] few = tt
pairs_few n seen count (pair ∷ pairs) few = (
  ap (λ b. cond b (Some TOO_MANY_PAIRS) None) (le-ltb 256 (count + 1) (omega arith)),
  pairs_few n (seen || false) (count + 1) pairs (omega arith),
)
