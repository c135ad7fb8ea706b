-- Where the groups of cells begin and end.
use Rattle.std.proofs.Common.{◌≡◌, ℕ, zero, suc, ◌+◌, ◌-◌, ◌<◌, ◌≤◌, Bool, true, false, List, [], ◌∷◌, take, drop, length, Some, inl, inr, refl, ap, sym, subst, ◌∙◌, cond, arith}
use Rattle.std.proofs.lemmas.Bool.{cases_lt, cond-true, cond-false}
use Rattle.std.proofs.lemmas.Option.{slice_get_within}
use Rattle.std.specs.List.{slice_get}
use Rattle.vt_cells.specs.declared.cell.Cell.{Cell}
use Rattle.vt_picture.specs.Runs.{groups, with_left}
use Rattle.vt_picture.proofs.Texts.{slice_untake}

-- the groups begin with one that begins with this cell
record BeginsWith (cell : Cell) (all : List (List Cell)) : Type 0 where
  pub group : List Cell
  pub more : List (List Cell)
  pub is : all ≡ (cell ∷ group) ∷ more

with_left_begins : (belong : Cell → Cell → Bool) (cell : Cell) (others : List (List Cell))
    → BeginsWith cell (with_left belong cell others)
with_left_begins belong cell [] = record { group = []; more = []; is = refl }
with_left_begins belong cell ([] ∷ more) = record { group = []; more = more; is = refl }
with_left_begins belong cell ((d ∷ group) ∷ more) = by (belong cell d)
  where
    by : (test : Bool)
        → BeginsWith cell (cond test ((cell ∷ d ∷ group) ∷ more) ((cell ∷ []) ∷ (d ∷ group) ∷ more))
    by true = record { group = d ∷ group; more = more; is = refl }
    by false = record { group = []; more = (d ∷ group) ∷ more; is = refl }

-- a cell that doesn't belong together with the next one is a group of its own
alone : (belong : Cell → Cell → Bool) (c d : Cell) (rest : List Cell) → belong c d ≡ false
    → groups belong (c ∷ d ∷ rest) ≡ (c ∷ []) ∷ groups belong (d ∷ rest)
alone belong c d rest apart =
    let first = with_left_begins belong d (groups belong rest) in
    ap (with_left belong c) first.is
    ∙ cond-false (belong c d) ((c ∷ d ∷ first.group) ∷ first.more) ((c ∷ []) ∷ (d ∷ first.group) ∷ first.more) apart
    ∙ ap (λ all. (c ∷ []) ∷ all) (sym first.is)

-- a cell that belongs together with the next one is the first of its group
joined : (belong : Cell → Cell → Bool) (c d : Cell) (rest group : List Cell) (more : List (List Cell))
    → belong c d ≡ true → groups belong (d ∷ rest) ≡ (d ∷ group) ∷ more
    → groups belong (c ∷ d ∷ rest) ≡ (c ∷ d ∷ group) ∷ more
joined belong c d rest group more together is =
    ap (with_left belong c) is
    ∙ cond-true (belong c d) ((c ∷ d ∷ group) ∷ more) ((c ∷ []) ∷ (d ∷ group) ∷ more) together

-- from place x on, each cell before the place `end` belongs together with the next one before it
abbrev pub JoinedFrom : (Cell → Cell → Bool) → List Cell → ℕ → ℕ → Type 0
JoinedFrom belong cells x end =
    (i : ℕ) (l r : Cell) → x ≤ i → suc i < end
    → slice_get cells i ≡ Some l → slice_get cells (suc i) ≡ Some r → belong l r ≡ true

-- the cell at a place doesn't belong together with the next one
abbrev pub EndsAt : (Cell → Cell → Bool) → List Cell → ℕ → Type 0
EndsAt belong cells at =
    (l r : Cell) → slice_get cells at ≡ Some l → slice_get cells (suc at) ≡ Some r → belong l r ≡ false

cut : (belong : Cell → Cell → Bool) (cells : List Cell) (n : ℕ) → n < length cells → JoinedFrom belong cells 0 (suc n)
    → EndsAt belong cells n
    → groups belong cells ≡ take (suc n) cells ∷ groups belong (drop (suc n) cells)
cut belong [] n within all ends = absurd (omega (arith, within))
cut belong (c ∷ []) zero within all ends = refl
cut belong (c ∷ []) (suc n) within all ends = absurd (omega (arith, within))
cut belong (c ∷ d ∷ rest) zero within all ends = alone belong c d rest (ends c d refl refl)
cut belong (c ∷ d ∷ rest) (suc n) within all ends =
    let there : n < length (d ∷ rest) = omega (arith, within) in
    joined belong c d rest (take n rest) (groups belong (drop n rest))
    (all 0 c d (omega arith) (omega arith) refl refl)
    (cut belong (d ∷ rest) n there
    (λ i l r low high left right. all (suc i) l r (omega arith) (omega (arith, high)) left right)
    ends)

-- the group that begins at place x and has n + 1 cells, of which the last one is at place `at`
group_at : (belong : Cell → Cell → Bool) (row : List Cell) (x n at : ℕ) → x + n ≡ at → at < length row
    → JoinedFrom belong row x (suc at) → EndsAt belong row at
    → groups belong (drop x row) ≡ take (suc n) (drop x row) ∷ groups belong (drop (suc at) row)
group_at belong row zero n at sum within all ends =
    let same : at ≡ n = omega (arith, sum) in
    cut belong row at within all ends ∙ ap (λ (k : ℕ). take (suc k) row ∷ groups belong (drop (suc at) row)) same
group_at belong [] (suc x) n at sum within all ends = absurd (omega (arith, within))
group_at belong (c ∷ row) (suc x) n zero sum within all ends = absurd (omega (arith, sum))
group_at belong (c ∷ row) (suc x) n (suc at) sum within all ends =
    group_at belong row x n at (omega (arith, sum)) (omega (arith, within))
    (λ i l r low high left right. all (suc i) l r (omega (arith, low)) (omega (arith, high)) left right)
    ends

-- the group that begins at place x and has `count` cells, of which the last one is at place `last`
pub group_between : (belong : Cell → Cell → Bool) (row : List Cell) (x last count : ℕ) → x + count ≡ suc last
    → 0 < count → last < length row → JoinedFrom belong row x (suc last) → EndsAt belong row last
    → groups belong (drop x row) ≡ take count (drop x row) ∷ groups belong (drop (x + count) row)
group_between belong row x last zero sum some within all ends = absurd (omega (arith, some))
group_between belong row x last (suc n) sum some within all ends =
    let next : suc last ≡ x + suc n = omega (arith, sum) in
    group_at belong row x n last (omega (arith, sum)) within all ends
    ∙ ap (λ (k : ℕ). take (suc n) (drop x row) ∷ groups belong (drop k row)) next

-- one more cell belongs together with the one before it
pub joined_more : (belong : Cell → Cell → Bool) (row : List Cell) (x last : ℕ) (left right : Cell)
    → slice_get row last ≡ Some left → slice_get row (suc last) ≡ Some right → belong left right ≡ true
    → JoinedFrom belong row x (suc last) → JoinedFrom belong row x (suc (suc last))
joined_more belong row x last left right left_is right_is together all i l r low high l_is r_is =
    elim (cases_lt (suc i) (suc last)) [
      | inl before ↦ all i l r low before l_is r_is
      | inr after ↦
          let same : i ≡ last = omega (arith, after, high) in
          let l_same : Some l ≡ Some left =
          sym l_is ∙ ap (λ (k : ℕ). slice_get row k) same ∙ left_is in
          let r_same : Some r ≡ Some right =
          sym r_is ∙ ap (λ (k : ℕ). slice_get row (suc k)) same ∙ right_is in
          let lefts : l ≡ left = cc in
          let rights : r ≡ right = cc in
          ap (λ (c : Cell). belong c r) lefts ∙ ap (belong left) rights ∙ together
    ]

-- cells that belong together do so among the first cells
pub first_joined : (belong : Cell → Cell → Bool) (row : List Cell) (x count end : ℕ) → JoinedFrom belong row x end
    → JoinedFrom belong (take count row) x end
first_joined belong row x count end all i l r low high l_is r_is =
    all i l r low high (slice_untake row count i l l_is) (slice_untake row count (suc i) r r_is)

-- the group that ends before a cell that doesn't belong together with the one before it
pub group_before : (belong : Cell → Cell → Bool) (row : List Cell) (x last next : ℕ) (left right : Cell)
    → suc last ≡ next → x < next → next < length row → JoinedFrom belong row x next
    → slice_get row last ≡ Some left → slice_get row next ≡ Some right → belong left right ≡ false
    → groups belong (drop x row)
    ≡ take (next - x) (drop x row) ∷ groups belong (drop (x + (next - x)) row)
group_before belong row x last next left right one some within all left_is right_is apart =
    group_between belong row x last (next - x) (omega (arith, one, some)) (omega (arith, some))
    (omega (arith, one, within)) (subst (JoinedFrom belong row x) (sym one) all)
    (λ l r l_is r_is.
    let l_same : Some l ≡ Some left = sym l_is ∙ left_is in
    let r_same : Some r ≡ Some right = sym r_is ∙ ap (slice_get row) one ∙ right_is in
    let lefts : l ≡ left = cc in
    let rights : r ≡ right = cc in
    ap (λ (c : Cell). belong c r) lefts ∙ ap (belong left) rights ∙ apart)

-- the group that ends with the cells
pub group_last : (belong : Cell → Cell → Bool) (row : List Cell) (x last end : ℕ) → suc last ≡ end → x < end
    → end ≡ length row → JoinedFrom belong row x end
    → groups belong (drop x row) ≡ take (end - x) (drop x row) ∷ groups belong (drop (x + (end - x)) row)
group_last belong row x last end one some whole all =
    group_between belong row x last (end - x) (omega (arith, one, some)) (omega (arith, some))
    (omega (arith, one, whole)) (subst (JoinedFrom belong row x) (sym one) all)
    (λ l r l_is r_is. absurd (omega (arith, one, whole, slice_get_within row (suc last) r r_is)))
