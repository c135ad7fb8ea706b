-- A console of a set is at its place in the list of all consoles.
use Rattle.std.proofs.Common.{◌≡◌, ℕ, ◌<◌, true, arith, get_or, Some, None, ap, ◌∙◌}
use Rattle.std.proofs.lemmas.List.FromFn.{get_or-map-range_with_len}
use Rattle.std.specs.Prelude.{is_some, if◌then◌else◌}
use Rattle.vt_base.specs.ConsoleSet.{at_each, is_among}

-- a console of the set is at its place
pub among_taken : {A : Type 0} (consoles n : ℕ) (a : A) → n < 64 → is_among consoles n ≡ true
    → is_some (get_or (at_each consoles a) n None) ≡ true
among_taken consoles n a within among =
    ap is_some
    (get_or-map-range_with_len (λ k. if is_among consoles k then Some a else None) 0 64 n n None
    within (omega arith))
    ∙ ap (λ b. is_some (if b then Some a else None)) among
