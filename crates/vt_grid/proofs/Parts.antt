-- The first cells of a row, of which some are written.
use Rattle.std.proofs.Common.{◌≡◌, ◌≢◌, ℕ, ◌+◌, ◌-◌, ◌<◌, ◌≤◌, List, [], ◌∷◌, ◌++◌, map, length, take, drop, set, get_or, sym, ap, ◌∙◌, append_assoc, arith, rules, min, replicate}
use Rattle.std.proofs.lemmas.Bool.{cases_eq}
use Rattle.std.proofs.lemmas.List.{places, same_lists, get_or-set_same, length-set, length-map, length-take-le, set_at, drop-drop, length-drop, take-take, take_all, drop_more, map_more}
use borrow.Rule.Slice.PartMut.{put_mid}
use Rattle.vt_grid.specs.Grid.{overlaid}
use Rattle.vt_grid.specs.StoredRow.{with_stored_inserted, with_stored_cells}
use Rattle.vt_grid.specs.Ring.{RowSlot}
use Rattle.vt_cells.specs.declared.cell.Cell.{Cell}

-- one cell among the stored ones is written
pub stored_set : (x len : ℕ) (c : Cell) (cells : List Cell) → x < len → len ≤ length cells
    → take len (set cells x c) ≡ overlaid x (c ∷ []) (take len cells)
stored_set x len c cells x_in len_in =
    same_lists _ _ (search (rules, places, length-set))
    (λ k d k_in. grind (arith, places, length-set, get_or-set_same, cases_eq k x))

pub length-overlaid : (x : ℕ) (new cells : List Cell) → x + length new ≤ length cells
    → length (overlaid x new cells) ≡ length cells
length-overlaid x new cells new_in = search (rules, places)

-- cells among the stored ones are written
pub stored_overlaid : (x len : ℕ) (new cells : List Cell) → x + length new ≤ len
    → len ≤ length cells
    → take len (overlaid x new cells) ≡ overlaid x new (take len cells)
stored_overlaid x len new cells new_in len_in =
    same_lists _ _ (search (rules, places)) (λ k d k_in. grind (arith, places))

-- what a write to a part of a slice leaves
pub put_mid-overlaid : (x n : ℕ) (new cells : List Cell) → n ≡ length new
    → put_mid x (x + n - x) cells new ≡ overlaid x new cells
put_mid-overlaid x n new cells n_is =
    ap (λ rest. take x cells ++ (new ++ rest))
    (drop-drop (x + n - x) x cells ∙ ap (λ k. drop k cells) (omega arith))

-- a row as its cells and the number of those that are stored
abbrev pub shelf_of : List Cell → ℕ → Cell → RowSlot
shelf_of cells len rest =
    record { room = length cells; line = record { stored = take len cells; rest = rest } }

-- the row with these cells in place of those from x on
abbrev pub rewritten : ℕ → List Cell → RowSlot → RowSlot
rewritten x new shelf = record shelf { line = with_stored_cells x new shelf.line }

pub shelf_set : (x len : ℕ) (c rest : Cell) (cells : List Cell) (shelf : RowSlot) → x ≢ len
    → x ≤ length shelf.line.stored → len ≤ length cells → shelf_of cells len rest ≡ shelf
    → shelf_of (set cells x c) len rest ≡ rewritten x (c ∷ []) shelf
shelf_set x len c rest cells shelf other place len_in is =
    let stored : length shelf.line.stored ≡ len =
    ap (λ (s : RowSlot). length s.line.stored) (sym is) ∙ length-take-le len cells len_in in
    (λ i. record {
      room = length-set cells x c i;
      line = record {
        stored = stored_set x len c cells (omega arith) len_in i;
        rest = rest;
      };
    })
    ∙ ap (rewritten x (c ∷ [])) is

pub shelf_overlaid : (x len : ℕ) (rest : Cell) (new cells : List Cell) (shelf : RowSlot)
    → x + length new ≤ len → len ≤ length cells → shelf_of cells len rest ≡ shelf
    → shelf_of (overlaid x new cells) len rest ≡ rewritten x new shelf
shelf_overlaid x len rest new cells shelf new_in len_in is =
    (λ i. record {
      room = length-overlaid x new cells (omega arith) i;
      line = record { stored = stored_overlaid x len new cells new_in len_in i; rest = rest };
    })
    ∙ ap (rewritten x new) is

-- what stands of a part behind the cells that come in
part_moved : (x count end : ℕ) (cells : List Cell) → x ≤ end → end ≤ length cells
    → take (length (take (end - x) (drop x cells)) - count) (take (end - x) (drop x cells))
    ≡ take (end - x - count) (drop x cells)
part_moved x count end cells x_in end_in =
    let len : length (take (end - x) (drop x cells)) ≡ end - x =
    length-take-le (end - x) (drop x cells) (omega (arith, length-drop x cells)) in
    ap (λ n. take (n - count) (take (end - x) (drop x cells))) len
    ∙ take-take (end - x - count) (end - x) (drop x cells) (omega arith)

-- cells come in among the stored ones
stored_inserted : (x len count end : ℕ) (c : Cell) (cells : List Cell) → x ≤ len
    → len ≤ length cells → x + count ≤ length cells → end ≡ min (length cells) (len + count)
    → take end (put_mid x (end - x) cells
    (replicate count c ++ take (end - x - count) (drop x cells)))
    ≡ take (length cells) (take x (take len cells) ++ (replicate count c ++ drop x (take len cells)))
stored_inserted x len count end c cells x_in len_in fits end_is =
    same_lists _ _ (search (rules, places)) (λ k d k_in. grind (arith, places))

length_inserted : (x len count end : ℕ) (c : Cell) (cells : List Cell) → x ≤ len
    → len ≤ length cells → x + count ≤ length cells → end ≡ min (length cells) (len + count)
    → length (put_mid x (end - x) cells
    (replicate count c ++ take (end - x - count) (drop x cells))) ≡ length cells
length_inserted x len count end c cells x_in len_in fits end_is = search (rules, places)

pub shelf_inserted : (x len count end : ℕ) (c rest : Cell) (new cells : List Cell) (shelf : RowSlot)
    → x ≤ length shelf.line.stored → x + count ≤ length cells → len ≤ length cells
    → end ≡ min (length cells) (len + count)
    → new
    ≡ replicate count c
    ++ take (length (take (end - x) (drop x cells)) - count) (take (end - x) (drop x cells))
    → shelf_of cells len rest ≡ shelf
    → (length (put_mid x (end - x) cells new) ≡ length cells)
    × (shelf_of (put_mid x (end - x) cells new) end rest
    ≡ record shelf { line = with_stored_inserted shelf.room x count c shelf.line })
shelf_inserted x len count end c rest new cells shelf place fits len_in end_is new_is is =
    let stored : length shelf.line.stored ≡ len =
    ap (λ (s : RowSlot). length s.line.stored) (sym is) ∙ length-take-le len cells len_in in
    let moved : new ≡ replicate count c ++ take (end - x - count) (drop x cells) =
    new_is ∙ ap (λ row. replicate count c ++ row)
    (part_moved x count end cells (omega arith) (omega arith)) in
    let len_is : length (put_mid x (end - x) cells new) ≡ length cells =
    ap (λ row. length (put_mid x (end - x) cells row)) moved
    ∙ length_inserted x len count end c cells (omega arith) len_in fits end_is in (
      len_is,
      (λ i. record {
        room = len_is i;
        line = record {
          stored =
              (ap (λ row. take end (put_mid x (end - x) cells row)) moved
              ∙ stored_inserted x len count end c cells (omega arith) len_in fits end_is) i;
          rest = rest;
        };
      })
          ∙ ap (λ (s : RowSlot). record s { line = with_stored_inserted s.room x count c s.line }) is,
    )

-- one more element is mapped over another list
pub map_onto_more : {X Y : Type 0} (f : X → Y) (from : List X) (onto : List Y) (i : ℕ) (x : X)
    → i < length from → length from ≡ length onto → x ≡ get_or from i x
    → set (map f (take i from) ++ drop i onto) i (f x)
    ≡ map f (take (i + 1) from) ++ drop (i + 1) onto
map_onto_more {X = X} {Y = Y} f from onto i x i_in same x_is =
    let front : List Y = map f (take i from) in
    let rest : List Y = drop (i + 1) onto in
    let len : length front ≡ i =
    length-map {B = Y} (take i from) f ∙ length-take-le i from (omega arith) in
    let more : map f (take (i + 1) from) ≡ front ++ f x ∷ [] =
    map_more f from i x i_in ∙ ap (λ y. front ++ f y ∷ []) (sym x_is) in
    ap (λ ys. set (front ++ ys) i (f x)) (drop_more onto i (f x) (omega arith))
    ∙ set_at front (get_or onto i (f x)) rest (f x) i len
    ∙ sym (append_assoc front (f x ∷ []) rest)
    ∙ ap (λ ys. ys ++ rest) (sym more)

-- all elements are mapped
pub written_all : {X Y : Type 0} (f : X → Y) (from : List X) (onto : List Y) (i : ℕ)
    → length from ≡ i → length from ≡ length onto → take i onto ≡ map f (take i from)
    → onto ≡ map f from
written_all f from onto i all same is =
    sym (take_all i onto (omega arith)) ∙ is ∙ ap (map f) (take_all i from (omega arith))
