-- Rows that are named by numbers.
use Rattle.std.proofs.Common.{◌≡◌, ◌≢◌, ℕ, zero, suc, ◌+◌, ◌<◌, ◌≤◌, Bool, false, cond, eqb, List, [], ◌∷◌, length, replicate, set, get_or, count_by, inl, inr, refl, sym, ap, ◌∙◌, subst, arith, rules}
use Rattle.std.proofs.lemmas.Bool.{cases_eq, cases_lt, eq-eqb, ne_eqb}
use Rattle.std.proofs.lemmas.Bool.Decides.{eqb_tells}
use Rattle.std.proofs.lemmas.List.{places, same_lists, get_or-set_same, get_or-set_other, length-set, length-map, get_or-map, get_or_default, get_or-replicate, length-replicate}
use Rattle.std.proofs.lemmas.List.Sums.{sum_by-cons}
use Rattle.std.proofs.lemmas.List.Elements.{All-from_get_or}
use Rattle.std.proofs.lemmas.List.Sorted.{All-permutation, length_permutation, sum_by-IsPermutation}
use Rattle.std.specs.List.{All}
use Rattle.std.specs.List.Sorted.{IsPermutation}
use Rattle.vt_grid.specs.StoredRow.{StoredRow}
use Rattle.vt_grid.specs.Ring.{RowSlot, no_slot, slot_at, rows_by_number, IsRising, IsNaming}
use Rattle.vt_grid.specs.Store.{Store, no_row, stored_row, with_stored_row, IsFit}

-- how often a number stands in a list
abbrev count_of : ℕ → List ℕ → ℕ
count_of p order = count_by (λ q. eqb p q) order

-- whether the first number is this one
abbrev one_if : Bool → ℕ
one_if b = cond b 1 0

count_cons : (p q : ℕ) (order : List ℕ)
    → count_of p (q ∷ order) ≡ one_if (eqb p q) + count_of p order
count_cons p q order = sum_by-cons (λ x. cond (eqb p x) 1 0) q order

-- a number at the head is counted
count_head : (q : ℕ) (order : List ℕ) → count_of q (q ∷ order) ≡ 1 + count_of q order
count_head q order =
    count_cons q q order ∙ ap (λ b. one_if b + count_of q order) (eq-eqb q q refl)

-- what stands somewhere is counted
count_stands : (order : List ℕ) (y : ℕ) → y < length order → 1 ≤ count_of (get_or order y 0) order
count_stands [] y within = absurd (omega arith)
count_stands (q ∷ order) zero within = omega (arith, count_head q order)
count_stands (q ∷ order) (suc y) within =
    let below = count_stands order y (omega arith) in
    omega (arith, count_cons (get_or order y 0) q order)

-- what is counted once stands in one place
once_apart : (order : List ℕ) (x y : ℕ) → x < length order → y < length order → x < y
    → count_of (get_or order x 0) order ≤ 1 → get_or order x 0 ≢ get_or order y 0
once_apart [] x y x_in y_in up once = absurd (omega arith)
once_apart (q ∷ order) x zero x_in y_in up once = absurd (omega arith)
once_apart (q ∷ order) zero (suc y) x_in y_in up once =
    λ same.
    let IsCounted : ℕ → Type 0 = λ p. 1 ≤ count_of p order in
    let more : IsCounted q = subst IsCounted (sym same) (count_stands order y (omega arith)) in
    omega (arith, count_head q order, more)
once_apart (q ∷ order) (suc x) (suc y) x_in y_in up once =
    once_apart order x y (omega arith) (omega arith) (omega arith)
    (omega (arith, count_cons (get_or order x 0) q order))

-- numbers that rise by one, from this one on
abbrev Rises : ℕ → List ℕ → Type 0
Rises from order = (y : ℕ) → y < length order → get_or order y 0 ≡ from + y

Rises_rest : (from q : ℕ) (order : List ℕ) → Rises from (q ∷ order) → Rises (from + 1) order
Rises_rest from q order rises y within =
    let here = rises (suc y) (omega arith) in omega arith

-- a number below all of them isn't counted
count_below : (order : List ℕ) (from p : ℕ) → Rises from order → p < from → count_of p order ≡ 0
count_below [] from p rises below = refl
count_below (q ∷ order) from p rises below =
    let first : q ≡ from + 0 = rises 0 (omega arith) in
    let other : eqb p q ≡ false = ne_eqb p q (λ e. absurd (omega arith)) in
    count_cons p q order
    ∙ ap (λ b. one_if b + count_of p order) other
    ∙ omega (arith, count_below order (from + 1) p (Rises_rest from q order rises) (omega arith))

-- each number is counted at most once
count_rises : (order : List ℕ) (from p : ℕ) → Rises from order → count_of p order ≤ 1
count_rises [] from p rises = omega arith
count_rises (q ∷ order) from p rises =
    let first : q ≡ from + 0 = rises 0 (omega arith) in
    let rest : Rises (from + 1) order = Rises_rest from q order rises in
    elim (eqb_tells p q) [
      | inl same ↦
          omega (
            arith,
            count_cons p q order ∙ ap (λ b. one_if b + count_of p order) same.0,
            count_below order (from + 1) p rest (omega (arith, same.1)),
          )
      | inr other ↦
          omega (
            arith,
            count_cons p q order ∙ ap (λ b. one_if b + count_of p order) other.0,
            count_rises order (from + 1) p rest,
          )
    ]

-- two places have two numbers
module _ (rows cols : ℕ) (order : List ℕ) (shelves : List RowSlot)
    (naming : IsNaming rows cols order shelves)
  where
    apart : (x y : ℕ) → x < rows → y < rows → x ≢ y → get_or order x 0 ≢ get_or order y 0
    apart x y x_in y_in differ same =
        elim (cases_lt x y) [
          | inl up ↦
              once_apart order x y (omega (arith, naming.numbers)) (omega (arith, naming.numbers)) up
              (naming.once (get_or order x 0)) same
          | inr down ↦
              once_apart order y x (omega (arith, naming.numbers)) (omega (arith, naming.numbers))
              (omega arith) (naming.once (get_or order y 0)) (sym same)
        ]

    -- the row at a place is the one that its number names
    pub rows_by_number_at : (y : ℕ) (d : StoredRow) → y < rows
        → get_or (rows_by_number shelves order) y d ≡ (slot_at shelves (get_or order y 0)).line
    rows_by_number_at y d y_in =
        get_or-map (λ p. (slot_at shelves p).line) order y 0 d (omega (arith, naming.numbers))

    -- a row that is kept anew is a row that is set
    pub rows_by_number-set : (y p : ℕ) (shelf : RowSlot) → y < rows → p ≡ get_or order y 0
        → rows_by_number (set shelves p shelf) order ≡ set (rows_by_number shelves order) y shelf.line
    rows_by_number-set y p shelf y_in p_is =
        let line : ℕ → StoredRow = λ q. (slot_at (set shelves p shelf) q).line in
        let p_in : p < length shelves =
        omega (arith, naming.within y y_in, naming.count) in
        same_lists _ _ (search (rules, places, length-set, length-map {B = StoredRow} order))
        (λ k d k_in.
        let k_rows : k < rows =
        omega (arith, length-map {B = StoredRow} order line, naming.numbers) in
        let new : get_or (rows_by_number (set shelves p shelf) order) k d ≡ line (get_or order k 0) =
        get_or-map line order k 0 d (omega (arith, naming.numbers)) in
        new
        ∙ elim (cases_eq k y) [
          | inl same ↦
              ap line (ap (λ j. get_or order j 0) same ∙ sym p_is)
              ∙ ap (λ (r : RowSlot). r.line) (get_or-set_same shelves p shelf no_slot p_in)
              ∙ sym (rw same (get_or-set_same (rows_by_number shelves order) y shelf.line d
              (omega (arith, length-map {B = StoredRow} order (λ q. (slot_at shelves q).line), naming.numbers))))
          | inr other ↦
              ap (λ (r : RowSlot). r.line) (get_or-set_other shelves p (get_or order k 0) shelf no_slot
              (λ e. apart k y k_rows y_in other (e ∙ p_is)))
              ∙ sym (get_or-set_other (rows_by_number shelves order) y k shelf.line d other
              ∙ rows_by_number_at k d k_rows)
        ])

    pub IsNaming-set : (p : ℕ) (shelf : RowSlot) → p < rows → shelf.room ≡ cols
        → length shelf.line.stored ≤ cols
        → IsNaming rows cols order (set shelves p shelf)
    IsNaming-set p shelf p_in room short =
        let p_shelves : p < length shelves = omega (arith, naming.count) in
        let same = get_or-set_same shelves p shelf no_slot p_shelves in
        record {
          numbers = naming.numbers;
          count = length-set shelves p shelf ∙ naming.count;
          within = naming.within;
          once = naming.once;
          room = λ q q_in.
              elim (cases_eq q p) [
                | inl e ↦ rw e (ap (λ (r : RowSlot). r.room) same ∙ room)
                | inr other ↦
                    ap (λ (r : RowSlot). r.room) (get_or-set_other shelves p q shelf no_slot other)
                    ∙ naming.room q q_in
              ];
          short = λ q q_in.
              elim (cases_eq q p) [
                | inl e ↦ rw (e, same) short
                | inr other ↦
                    rw (get_or-set_other shelves p q shelf no_slot other) (naming.short q q_in)
              ];
        }

    pub IsNaming_moved : (moved : List ℕ) → IsPermutation order moved → IsNaming rows cols moved shelves
    IsNaming_moved moved is =
        let len : length moved ≡ length order = length_permutation order moved is in
        let within : All (λ p. p < rows) order =
        All-from_get_or (λ p. p < rows) order 0
        (λ y y_in. naming.within y (omega (arith, naming.numbers))) in
        record {
          numbers = len ∙ naming.numbers;
          count = naming.count;
          within = λ y y_in.
              All-permutation (λ p. p < rows) order moved is within y 0
              (omega (arith, len, naming.numbers));
          once = λ p.
              rw (sum_by-IsPermutation (λ q. cond (eqb p q) 1 0) order moved is) (naming.once p);
          room = naming.room;
          short = naming.short;
        }

    pub IsFit-rows_by_number : IsFit (record { rows = rows; cols = cols; lines = rows_by_number shelves order })
    IsFit-rows_by_number =
        let fits : StoredRow → Type 0 = λ line. length line.stored ≤ cols in
        record {
          tall = length-map order (λ p. (slot_at shelves p).line) ∙ naming.numbers;
          short =
              All-from_get_or fits (rows_by_number shelves order) no_row
              (λ y y_in.
              let y_rows : y < rows =
              omega (
                arith,
                length-map {B = StoredRow} order (λ p. (slot_at shelves p).line),
                naming.numbers,
              ) in
              subst fits (sym (rows_by_number_at y no_row y_rows))
              (naming.short (get_or order y 0) (naming.within y y_rows)));
        }

    -- the row that a number names has room for every column, and stores no more cells
    pub read_is : (y p : ℕ) (old : RowSlot) → y < rows → p ≡ get_or order y 0
        → old ≡ get_or shelves p old → (old.room ≡ cols) × (length old.line.stored ≤ cols)
    read_is y p old y_in p_is old_is =
        let p_in : p < rows = omega (arith, naming.within y y_in) in
        let is : old ≡ slot_at shelves p =
        old_is ∙ get_or_default shelves p old no_slot (omega (arith, naming.count)) in
        let IsShort : RowSlot → Type 0 = λ r. length r.line.stored ≤ cols in (
          ap (λ (r : RowSlot). r.room) is ∙ naming.room p p_in,
          subst IsShort (sym is) (naming.short p p_in),
        )

    -- a row that is changed in its place
    pub changed_is : (s : Store) (y p : ℕ) (old new : RowSlot) (line : StoredRow → StoredRow)
        → record { rows = rows; cols = cols; lines = rows_by_number shelves order } ≡ s → y < s.rows
        → p ≡ get_or order y 0 → old ≡ get_or shelves p old → new.line ≡ line old.line
        → record { rows = rows; cols = cols; lines = rows_by_number (set shelves p new) order }
        ≡ with_stored_row s y (line (stored_row s y))
    changed_is s y p old new line s_is y_row p_is old_is new_is =
        let y_in : y < rows = omega (arith, ap (λ (t : Store). t.rows) s_is) in
        let p_in : p < length shelves = omega (arith, naming.within y y_in, naming.count) in
        let read : old ≡ slot_at shelves p =
        old_is ∙ get_or_default shelves p old no_slot p_in in
        let stands : old.line ≡ stored_row s y =
        ap (λ (r : RowSlot). r.line) (read ∙ ap (slot_at shelves) p_is)
        ∙ sym (rows_by_number_at y no_row y_in)
        ∙ ap (λ (t : Store). stored_row t y) s_is in
        ap (λ (lines : List StoredRow). record { rows = rows; cols = cols; lines = lines })
        (rows_by_number-set y p new y_in p_is)
        ∙ (λ i. with_stored_row (s_is i) y ((new_is ∙ ap line stands) i))

-- new rows, named from the first on
pub IsNaming_new : (rows cols : ℕ) (order : List ℕ) (shelf : RowSlot) → IsRising rows order
    → shelf.room ≡ cols → length shelf.line.stored ≤ cols
    → IsNaming rows cols order (replicate rows shelf)
IsNaming_new rows cols order shelf rising room short =
    let at : (p : ℕ) → p < rows → slot_at (replicate rows shelf) p ≡ shelf =
    λ p p_in. get_or-replicate rows p shelf no_slot p_in in
    record {
      numbers = rising.count;
      count = length-replicate rows shelf;
      within = λ y y_in. omega (arith, rising.each y y_in);
      once = λ p.
          count_rises order 0 p
          (λ y y_in. omega (arith, rising.each y (omega (arith, rising.count))));
      room = λ p p_in. ap (λ (r : RowSlot). r.room) (at p p_in) ∙ room;
      short = λ p p_in. rw (at p p_in) short;
    }

pub rows_by_number_new : (rows : ℕ) (order : List ℕ) (shelf : RowSlot) → IsRising rows order
    → rows_by_number (replicate rows shelf) order ≡ replicate rows shelf.line
rows_by_number_new rows order shelf rising =
    let line : ℕ → StoredRow = λ p. (slot_at (replicate rows shelf) p).line in
    same_lists _ _
    (length-map order line ∙ rising.count ∙ sym (length-replicate rows shelf.line))
    (λ k d k_in.
    let k_rows : k < rows = omega (arith, length-map {B = StoredRow} order line, rising.count) in
    get_or-map line order k 0 d (omega (arith, rising.count))
    ∙ ap line (rising.each k k_rows)
    ∙ ap (λ (r : RowSlot). r.line) (get_or-replicate rows k shelf no_slot k_rows)
    ∙ sym (get_or-replicate rows k shelf.line d k_rows))
