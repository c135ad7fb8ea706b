use Rattle.std.proofs.Common.{◌≡◌, ◌+◌, ◌++◌, drop, map}
use Rattle.std.specs.List.{flat_map}
use Rattle.c_calls.specs.Places.{filled, with_items}
use Rattle.c_cells.specs.Cells.{c_cell}
use Rattle.c_cells.proofs.placing.put_all.Given as goal

abbrev pub invariant-loop-y : goal.invariant-loop-y
invariant-loop-y l =
    filled l.n (flat_map (map c_cell) (drop l.y l.grid.cells)) l.places
    ≡ with_items (flat_map (map c_cell) l.grid.cells) l.fn.places

abbrev pub invariant-loop-cell : goal.invariant-loop-cell
invariant-loop-cell l =
    filled l.n (map c_cell l.cell-iterator ++ flat_map (map c_cell) (drop (l.y + 1) l.grid.cells)) l.places
    ≡ with_items (flat_map (map c_cell) l.grid.cells) l.fn.places
