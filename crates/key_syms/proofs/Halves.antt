-- A search by halves: the facts about the ranks on both sides of the part that is left.
use Rattle.std.proofs.Common.{◌≡◌, ℕ, ◌+◌, ◌<◌, ◌≤◌, List, sym, ap, ◌∙◌, subst, inl, inr, arith}
use Rattle.std.proofs.lemmas.Bool.{cases_lt}
use Rattle.std.proofs.lemmas.Cmp.{nat_list_cmp_total}
use Rattle.std.proofs.lemmas.Map.Text.{is_eq-slice_cmp}
use Rattle.std.proofs.lemmas.Slice.Eq.{bytes_eq-Decides}
use Rattle.std.specs.Cmp.Lexicographic.{slice_cmp}
use Rattle.std.specs.Ordering.{is_eq, nat_cmp, ordering_reverse}
use Rattle.std.specs.declared.cmp.Ordering.TheVariants.{Less, Equal, Greater}
use Rattle.key_syms.specs.Index.{name_at, place_of_rank}
use Rattle.key_syms.specs.declared.table.TheConstants.{NAME_COUNT}
use Rattle.key_syms.proofs.Places.{apart_from, rank_of, ranks_in_order}
use Rattle.key_syms.proofs.Ranks.{IsBefore}

abbrev pub ranked : ℕ → List ℕ
ranked rank = name_at (place_of_rank rank)

-- the names of the ranks below low come before the name, and the name before those from high on
pub record IsLeft (name : List ℕ) (low high : ℕ) : Type 0 where
  pub order : low ≤ high
  pub bound : high ≤ NAME_COUNT
  pub below : (rank : ℕ) → rank < low → IsBefore (ranked rank) name
  pub above : (rank : ℕ) → high ≤ rank → rank < NAME_COUNT → IsBefore name (ranked rank)

upto_middle : (name : List ℕ) (middle : ℕ) → middle < NAME_COUNT → IsBefore (ranked middle) name → (rank : ℕ) → rank < middle + 1 → IsBefore (ranked rank) name
upto_middle name middle h before rank k = elim (cases_lt rank middle) [
  | inl lt ↦ nat_list_cmp_total.trans (ranked rank) (ranked middle) name (ranks_in_order rank middle lt h) before
  | inr ge ↦ let same : middle ≡ rank = omega arith in subst (λ (r : ℕ). IsBefore (ranked r) name) same before
]

pub left_above : (name : List ℕ) (low high middle : ℕ) → IsLeft name low high → low ≤ middle → middle < high → slice_cmp nat_cmp (ranked middle) name ≡ Less → IsLeft name (middle + 1) high
left_above name low high middle left h k before = record {
  order = omega arith;
  bound = left.bound;
  below = upto_middle name middle (omega (arith, left.bound)) before;
  above = left.above;
}

from_middle : (name : List ℕ) (middle : ℕ) → middle < NAME_COUNT → IsBefore name (ranked middle) → (rank : ℕ) → middle ≤ rank → rank < NAME_COUNT → IsBefore name (ranked rank)
from_middle name middle h after rank k within = elim (cases_lt middle rank) [
  | inl lt ↦ nat_list_cmp_total.trans name (ranked middle) (ranked rank) after (ranks_in_order middle rank lt within)
  | inr ge ↦ let same : middle ≡ rank = omega arith in subst (λ (r : ℕ). IsBefore name (ranked r)) same after
]

pub left_below : (name : List ℕ) (low high middle : ℕ) → IsLeft name low high → low ≤ middle → middle < high → slice_cmp nat_cmp (ranked middle) name ≡ Greater → IsLeft name low middle
left_below name low high middle left h k after = record {
  order = h;
  bound = omega (arith, left.bound);
  below = left.below;
  above = from_middle name middle (omega (arith, left.bound))
      (nat_list_cmp_total.antisymm name (ranked middle) ∙ ap ordering_reverse after);
}

pub none_left : (name : List ℕ) (low high : ℕ) → IsLeft name low high → high ≤ low → (place : ℕ) → place < NAME_COUNT → name_at place ≡ name → ⊥
none_left name low high left done place h e =
    let rank = rank_of place h in
    let same : ranked rank.0 ≡ name = ap name_at rank.2 ∙ e in
    elim (cases_lt rank.0 low) [
      | inl lt ↦ apart_from _ _ same (left.below rank.0 lt)
      | inr ge ↦ apart_from _ _ (sym same) (left.above rank.0 (omega arith) rank.1)
    ]

pub tied_texts : (x y : List ℕ) → slice_cmp nat_cmp x y ≡ Equal → x ≡ y
tied_texts x y e = (bytes_eq-Decides x y).0 (sym (is_eq-slice_cmp x y) ∙ ap is_eq e)
