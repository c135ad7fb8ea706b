-- Rows that are copied one after another, from the top.
use Rattle.std.proofs.Common.{◌≡◌, ℕ, zero, suc, ◌<◌, List, [], ◌∷◌, ◌++◌, length, take, drop, set, get_or, refl, ap, arith, rules}
use Rattle.std.proofs.lemmas.List.{places, same_lists}
use Rattle.vt_grid.specs.Grid.{overlaid}
use Rattle.vt_cells.specs.declared.cell.Cell.{Cell}

-- one row more is copied
pub copied_more : (new old : List (List Cell)) (y : ℕ) → y < length new → length old ≡ length new
    → set (take y new ++ drop y old) y (get_or new y []) ≡ take (suc y) new ++ drop (suc y) old
copied_more [] old y within same = absurd (omega arith)
copied_more (row ∷ new) [] y within same = absurd (omega arith)
copied_more (row ∷ new) (was ∷ old) zero within same = refl
copied_more (row ∷ new) (was ∷ old) (suc y) within same =
    ap (λ rest. row ∷ rest) (copied_more new old y (omega arith) (omega arith))

-- the next row isn't copied yet
pub get_or_copied : (new old : List (List Cell)) (y : ℕ) → y < length new → length old ≡ length new
    → get_or (take y new ++ drop y old) y [] ≡ get_or old y []
get_or_copied [] old y within same = absurd (omega arith)
get_or_copied (row ∷ new) [] y within same = absurd (omega arith)
get_or_copied (row ∷ new) (was ∷ old) zero within same = refl
get_or_copied (row ∷ new) (was ∷ old) (suc y) within same =
    get_or_copied new old y (omega arith) (omega arith)

-- cells laid over a row of their number
pub overlaid_all : (cells row : List Cell) → length row ≡ length cells → overlaid 0 cells row ≡ cells
overlaid_all cells row same =
    same_lists _ _ (search (rules, places)) (λ k d k_in. grind (arith, places))
