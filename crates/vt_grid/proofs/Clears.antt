-- Rows that are made blank by their numbers.
use Rattle.std.proofs.Common.{◌≡◌, ℕ, zero, suc, ◌+◌, ◌-◌, ◌<◌, ◌≤◌, List, [], ◌∷◌, ◌++◌, length, take, drop, replicate, map, set, get_or, refl, sym, ap, ◌∙◌, subst, arith, rules}
use Rattle.std.proofs.lemmas.List.{places, same_lists, length-append, length-map, length-set, length-take-le, length-drop, length-replicate, get_or-drop, get_or-map, get_or-replicate, take_more}
use Rattle.vt_grid.proofs.Naming.{IsNaming-set, rows_by_number-set}
use Rattle.vt_grid.proofs.Scrolls.{cleared_more, cleared_none}
use Rattle.vt_grid.proofs.Turns.{IsPlace}
use Rattle.vt_grid.proofs.Parts.{map_onto_more}
use Rattle.vt_grid.specs.StoredRow.{StoredRow, blank_row, cut_at}
use Rattle.vt_grid.specs.Ring.{RowSlot, IsNaming, blank_slot, cut_all, rows_by_number, no_slot, slot_at}
use Rattle.vt_grid.specs.Store.{with_run_of, rotation_by}
use Rattle.vt_cells.specs.declared.cell.Cell.{Cell}

-- one row is cleared as it is set
pub cleared_one : (from : ℕ) (line : StoredRow) (lines : List StoredRow) → from < length lines
    → set lines from line ≡ with_run_of from 1 line lines
cleared_one from line lines within =
    let none : with_run_of from 0 line lines ≡ lines = cleared_none from line lines (omega arith) in
    let at : from ≡ from + 0 = omega arith in
    (λ i. set (sym none i) (at i) line) ∙ cleared_more from 0 line lines (omega arith)

pub length-cut_all : (order : List ℕ) (c : Cell) (shelves : List RowSlot)
    → length (cut_all order c shelves) ≡ length shelves
length-cut_all [] c shelves = refl
length-cut_all (p ∷ order) c shelves =
    length-cut_all order c (set shelves p (blank_slot c (slot_at shelves p)))
    ∙ length-set shelves p (blank_slot c (slot_at shelves p))

pub cut_all-append : (front back : List ℕ) (c : Cell) (shelves : List RowSlot)
    → cut_all back c (cut_all front c shelves) ≡ cut_all (front ++ back) c shelves
cut_all-append [] back c shelves = refl
cut_all-append (p ∷ front) back c shelves =
    cut_all-append front back c (set shelves p (blank_slot c (slot_at shelves p)))

length-rows_by_number : (order : List ℕ) (shelves : List RowSlot) → length (rows_by_number shelves order) ≡ length order
length-rows_by_number order shelves = length-map {B = StoredRow} order (λ p. (slot_at shelves p).line)

-- the numbers of two pieces name rows
pub pieces_within : (order front back : List ℕ) (from count n : ℕ)
    → front ++ back ≡ take count (drop from order) → from + count ≤ length order
    → ((y : ℕ) → y < length order → get_or order y 0 < n)
    → ((i : ℕ) → i < length front → get_or front i 0 < n)
    × ((i : ℕ) → i < length back → get_or back i 0 < n)
pieces_within order front back from count n is within names =
    let len : length front + length back ≡ count =
    sym (length-append front back) ∙ ap (λ (xs : List ℕ). length xs) is
    ∙ length-take-le count (drop from order) (omega (arith, length-drop from order)) in
    let at : (k : ℕ) → get_or (front ++ back) k 0 ≡ get_or (take count (drop from order)) k 0 =
    λ k. ap (λ (xs : List ℕ). get_or xs k 0) is in (
      (λ i i_in.
          let same : get_or front i 0 ≡ get_or order (from + i) 0 =
          let here = at i in grind (arith, places) in
          subst (λ (p : ℕ). p < n) (sym same) (names (from + i) (omega arith))),
      (λ i i_in.
          let same : get_or back i 0 ≡ get_or order (from + (length front + i)) 0 =
          let here = at (length front + i) in grind (arith, places) in
          subst (λ (p : ℕ). p < n) (sym same) (names (from + (length front + i)) (omega arith))),
    )

-- the pieces of a ring
pub one_piece : (head from start count : ℕ) (numbers : List ℕ) → head < length numbers
    → from ≤ length numbers → start < length numbers → IsPlace (length numbers) head from start
    → from + count ≤ length numbers → start + count ≤ length numbers
    → take count (drop start numbers) ++ [] ≡ take count (drop from (rotation_by head numbers))
one_piece head from start count numbers head_in from_in start_in is within fits =
    same_lists _ _ (search (rules, places)) (λ k d k_in. grind (arith, places))

pub two_pieces : (head from start count : ℕ) (numbers : List ℕ) → head < length numbers
    → from ≤ length numbers → start < length numbers → IsPlace (length numbers) head from start
    → from + count ≤ length numbers → length numbers ≤ start + count
    → take (length numbers - start) (drop start numbers) ++ take (count - (length numbers - start)) numbers
    ≡ take count (drop from (rotation_by head numbers))
two_pieces head from start count numbers head_in from_in start_in is within past =
    same_lists _ _ (search (rules, places)) (λ k d k_in. grind (arith, places))

module _ (rows cols : ℕ) (order : List ℕ) (shelves : List RowSlot)
    (naming : IsNaming rows cols order shelves) (c : Cell) (from : ℕ)
  where
    -- after the rows of the first i numbers are made blank
    abbrev now : ℕ → List RowSlot
    now i = cut_all (take i (drop from order)) c shelves

    pub clears : (i : ℕ) → from + i ≤ rows
        → IsNaming rows cols order (now i)
        × (rows_by_number (now i) order ≡ with_run_of from i (blank_row c) (rows_by_number shelves order))
    clears zero within =
        let tall : from ≤ length (rows_by_number shelves order) =
        omega (arith, naming.numbers, length-rows_by_number order shelves) in
        (naming, sym (cleared_none from (blank_row c) (rows_by_number shelves order) tall))
    clears (suc i) within =
        let before = clears i (omega arith) in
        let next : suc i ≡ i + 1 = omega arith in
        let p : ℕ = get_or order (from + i) 0 in
        let shelf : RowSlot = blank_slot c (slot_at (now i) p) in
        let p_in : p < rows = naming.within (from + i) (omega arith) in
        let more : now (suc i) ≡ set (now i) p shelf =
        ap now next
        ∙ ap (λ (ps : List ℕ). cut_all ps c shelves)
        (take_more (drop from order) i 0 (omega (arith, length-drop from order, naming.numbers))
        ∙ ap (λ (q : ℕ). take i (drop from order) ++ q ∷ []) (get_or-drop from order i 0))
        ∙ sym (cut_all-append (take i (drop from order)) (p ∷ []) c shelves) in
        let tall : from + i < length (rows_by_number shelves order) =
        omega (arith, naming.numbers, length-rows_by_number order shelves) in (
          subst (λ (kept : List RowSlot). IsNaming rows cols order kept) (sym more)
              (IsNaming-set rows cols order (now i) before.0 p shelf p_in (before.0.room p p_in) (omega arith)),
          ap (λ (kept : List RowSlot). rows_by_number kept order) more
              ∙ rows_by_number-set rows cols order (now i) before.0 (from + i) p shelf (omega arith) refl
              ∙ ap (λ (lines : List StoredRow). set lines (from + i) (blank_row c)) before.1
              ∙ cleared_more from i (blank_row c) (rows_by_number shelves order) tall
              ∙ ap (λ (n : ℕ). with_run_of from n (blank_row c) (rows_by_number shelves order)) (sym next),
        )

-- all rows, where each is made blank: one more is
pub blank_more : (c : Cell) (shelves now : List RowSlot) (i : ℕ) (old new : RowSlot) → i < length shelves
    → now ≡ map (blank_slot c) (take i shelves) ++ drop i shelves → old ≡ get_or now i old
    → new ≡ record old { line = cut_at 0 c old.line }
    → set now i new ≡ map (blank_slot c) (take (i + 1) shelves) ++ drop (i + 1) shelves
blank_more c shelves now i old new i_in now_is old_is new_is =
    let front : List RowSlot = map (blank_slot c) (take i shelves) in
    let len : length front ≡ i =
    length-map (take i shelves) (blank_slot c) ∙ length-take-le i shelves (omega arith) in
    let read : old ≡ get_or shelves i old =
    old_is ∙ ap (λ (all : List RowSlot). get_or all i old) now_is ∙ grind (arith, places, len) in
    let slot : new ≡ blank_slot c old = new_is in
    (λ j. set (now_is j) i (slot j))
    ∙ map_onto_more (blank_slot c) shelves shelves i old i_in refl read

module _ (rows cols : ℕ) (order : List ℕ) (shelves : List RowSlot)
    (naming : IsNaming rows cols order shelves) (c : Cell)
  where
    at-blank : (p : ℕ) → p < rows
        → slot_at (map (blank_slot c) shelves) p ≡ blank_slot c (slot_at shelves p)
    at-blank p p_in = get_or-map (blank_slot c) shelves p no_slot no_slot (omega (arith, naming.count))

    pub IsNaming_blank : IsNaming rows cols order (map (blank_slot c) shelves)
    IsNaming_blank =
        record {
          numbers = naming.numbers;
          count = length-map shelves (blank_slot c) ∙ naming.count;
          within = naming.within;
          once = naming.once;
          room = λ p p_in. ap (λ (r : RowSlot). r.room) (at-blank p p_in) ∙ naming.room p p_in;
          short = λ p p_in. rw (at-blank p p_in) (omega arith);
        }

    pub rows_by_number_blank : rows_by_number (map (blank_slot c) shelves) order ≡ replicate rows (blank_row c)
    rows_by_number_blank =
        let line : ℕ → StoredRow = λ p. (slot_at (map (blank_slot c) shelves) p).line in
        same_lists _ _
        (length-map order line ∙ naming.numbers ∙ sym (length-replicate rows (blank_row c)))
        (λ y d y_in.
        let y_rows : y < rows = omega (arith, length-map {B = StoredRow} order line, naming.numbers) in
        get_or-map line order y 0 d (omega (arith, naming.numbers))
        ∙ ap (λ (r : RowSlot). r.line) (at-blank (get_or order y 0) (naming.within y y_rows))
        ∙ sym (get_or-replicate rows y (blank_row c) d y_rows))
