-- The prefix of a list that is stored in two pieces.
use Rattle.std.proofs.Common.{◌≡◌, ℕ, ◌+◌, ◌-◌, min, List, ◌++◌, length, take, sym, ap, ◌∙◌, inl, inr, arith}
use Rattle.std.proofs.Math.Seq.{take-append-add, take-length}
use Rattle.std.proofs.lemmas.Bool.{cases_lt}
use Rattle.std.proofs.lemmas.Grind.{common_steps}
use Rattle.std.proofs.lemmas.List.{take-append-le}

-- the first n are the first m of the front piece, and the others of the back one
pub take_pieces : (n m : ℕ) (front back : List ℕ) → m ≡ min n (length front)
    → take n (front ++ back) ≡ take m front ++ take (n - m) back
take_pieces n m front back m-is = elim (cases_lt n (length front)) [
  | inl h ↦ grind (arith, common_steps, take-append-le n front back (omega arith))
  | inr h ↦
      let past : m ≡ length front = omega arith in
      let rest : n ≡ length front + (n - m) = omega arith in
      ap (λ k. take k (front ++ back)) rest
      ∙ take-append-add front back (n - m)
      ∙ ap (λ xs. xs ++ take (n - m) back) (sym (take-length front) ∙ ap (λ k. take k front) (sym past))
]
