-- Stored rows that take the cells of others.
use Rattle.std.proofs.Common.{◌≡◌, ℕ, ◌+◌, ◌-◌, ◌≤◌, min, List, ◌++◌, length, take, drop, replicate, ap, ◌∙◌, arith, rules}
use Rattle.std.proofs.lemmas.List.{places, same_lists}
use Rattle.vt_grid.proofs.Parts.{shelf_of}
use Rattle.vt_grid.specs.Grid.{overlaid}
use Rattle.vt_grid.specs.StoredRow.{with_prefix_of, cut_at}
use Rattle.vt_grid.specs.Ring.{RowSlot}
use Rattle.vt_cells.specs.declared.cell.Cell.{Cell}

stored_copied : (count len end : ℕ) (cells over : List Cell) → end ≡ min len count
    → len ≤ length over → count ≤ length cells
    → take end (take end over ++ drop (length (take end over)) cells) ≡ take count (take len over)
stored_copied count len end cells over end_is len_in count_in =
    same_lists _ _ (search (rules, places)) (λ k d k_in. grind (arith, places))

length_copied : (count len end : ℕ) (cells over : List Cell) → end ≡ min len count
    → len ≤ length over → count ≤ length cells
    → length (take end over ++ drop (length (take end over)) cells) ≡ length cells
length_copied count len end cells over end_is len_in count_in = search (rules, places)

-- all stored cells are those of another row
pub shelf_copied : (count len end : ℕ) (rest : Cell) (cells over new : List Cell) (shelf from : RowSlot)
    → end ≡ min len count → len ≤ length over → count ≤ length cells
    → new ≡ take end over ++ drop (length (take end over)) cells → length cells ≡ shelf.room
    → shelf_of over len rest ≡ from
    → (length new ≡ length cells)
    × (shelf_of new end rest ≡ record shelf { line = cut_at count from.line.rest from.line })
shelf_copied count len end rest cells over new shelf from end_is len_in count_in new_is room is =
    let len_is : length new ≡ length cells =
    ap length new_is ∙ length_copied count len end cells over end_is len_in count_in in (
      len_is,
      (λ i. record {
        room = (len_is ∙ room) i;
        line = record {
          stored = (ap (take end) new_is ∙ stored_copied count len end cells over end_is len_in count_in) i;
          rest = rest;
        };
      })
          ∙ ap (λ (f : RowSlot). record shelf { line = cut_at count f.line.rest f.line }) is,
    )

stored_with_prefix_of : (count len other front end : ℕ) (rest : Cell) (cells over : List Cell)
    → front ≡ min other count → end ≡ len + (count - len) → other ≤ length over → len ≤ length cells
    → count ≤ length cells
    → take end ((take front over ++ replicate (count - length (take front over)) rest) ++ drop count cells)
    ≡ overlaid 0 (take count (take other over ++ replicate (count - length (take other over)) rest)) (take len cells)
stored_with_prefix_of count len other front end rest cells over front_is end_is other_in len_in count_in =
    same_lists _ _ (search (rules, places)) (λ k d k_in. grind (arith, places))

length-with_prefix_of : (count other front : ℕ) (rest : Cell) (cells over : List Cell)
    → front ≡ min other count → other ≤ length over → count ≤ length cells
    → length ((take front over ++ replicate (count - length (take front over)) rest) ++ drop count cells)
    ≡ length cells
length-with_prefix_of count other front rest cells over front_is other_in count_in = search (rules, places)

-- the first cells are those of another row
pub shelf_with_prefix_of : (count len other front end : ℕ) (tail rest : Cell) (cells over new : List Cell)
    (shelf from : RowSlot) → front ≡ min other count → end ≡ len + (count - len) → other ≤ length over
    → len ≤ length cells → count ≤ length cells
    → new ≡ (take front over ++ replicate (count - length (take front over)) rest) ++ drop count cells
    → shelf_of cells len tail ≡ shelf → shelf_of over other rest ≡ from
    → (length new ≡ length cells)
    × (shelf_of new end tail ≡ record shelf { line = with_prefix_of count from.line shelf.line })
shelf_with_prefix_of count len other front end tail rest cells over new shelf from front_is end_is other_in len_in count_in new_is is from_is =
    let len_is : length new ≡ length cells =
    ap length new_is ∙ length-with_prefix_of count other front rest cells over front_is other_in count_in in (
      len_is,
      (λ i. record {
        room = len_is i;
        line = record {
          stored =
              (ap (take end) new_is
              ∙ stored_with_prefix_of count len other front end rest cells over front_is end_is other_in len_in count_in) i;
          rest = tail;
        };
      })
          ∙ (λ i. record (is i) { line = with_prefix_of count (from_is i).line (is i).line }),
    )
