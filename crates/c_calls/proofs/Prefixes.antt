-- Places that are written one after another, from the first.
use Rattle.c_calls.specs.Places.{with_items}
use Rattle.std.proofs.Common.{◌≡◌, ℕ, zero, suc, ◌<◌, ◌≤◌, List, [], ◌∷◌, ◌++◌, length, take, drop, set, get_or, sym, ap, ◌∙◌, min, arith}
use Rattle.std.proofs.lemmas.List.{take_all, drop_all}

-- one more
pub written_more : {X : Type 0} (items start : List X) (n : ℕ) (x d : X) → n < length items → n < length start
    → x ≡ get_or items n d → set (take n items ++ drop n start) n x ≡ take (suc n) items ++ drop (suc n) start
written_more [] start n x d item place is = absurd (omega (arith, item))
written_more (i ∷ items) [] n x d item place is = absurd (omega (arith, place))
written_more (i ∷ items) (s ∷ start) zero x d item place is = ap (λ y. y ∷ start) is
written_more (i ∷ items) (s ∷ start) (suc n) x d item place is =
    ap (λ ys. i ∷ ys) (written_more items start n x d (omega (arith, item)) (omega (arith, place)) is)

-- as many as there are, and as there is room for
all_items : {X : Type 0} (items start : List X) (n : ℕ) → n ≡ length items → n ≤ length start
    → take n items ++ drop n start ≡ with_items items start
all_items items start n all room =
    ap (λ xs. xs ++ drop n start)
    (take_all n items (omega (arith, all)) ∙ sym (take_all (length start) items (omega (arith, all, room))))
    ∙ ap (λ k. take (length start) items ++ drop k start) all

all_places : {X : Type 0} (items start : List X) (n : ℕ) → n ≡ length start → n ≤ length items
    → take n items ++ drop n start ≡ with_items items start
all_places items start n all few =
    ap (λ k. take k items ++ drop n start) all
    ∙ ap (λ xs. take (length start) items ++ xs)
    (drop_all n start (omega (arith, all)) ∙ sym (drop_all (length items) start (omega (arith, all, few))))

pub written_all : {X : Type 0} (items start : List X) (n : ℕ) → n ≡ min (length items) (length start)
    → take n items ++ drop n start ≡ with_items items start
written_all [] start n least = all_items [] start n (omega (arith, least)) (omega (arith, least))
written_all (i ∷ items) [] n least = all_places (i ∷ items) [] n (omega (arith, least)) (omega (arith, least))
written_all (i ∷ items) (s ∷ start) zero least = absurd (omega (arith, least))
written_all (i ∷ items) (s ∷ start) (suc n) least =
    ap (λ xs. i ∷ xs) (written_all items start n (omega (arith, least)))
