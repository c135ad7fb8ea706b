use Rattle.std.proofs.Common.{◌≡◌, ◌++◌, drop, take}
use Rattle.std.specs.List.{flat_map}
use Rattle.vt_grid.specs.Grid.{row_at}
use Rattle.vt_picture.specs.Characters.{cell_text}
use Rattle.vt_picture.proofs.letters.add_cells.Given as goal

abbrev pub invariant-loop-i : goal.invariant-loop-i
invariant-loop-i l =
    let run = take l.count (drop l.x (row_at l.g l.y)) in
    l.text.bytes ++ flat_map cell_text (drop l.i run) ≡ l.fn.text.bytes ++ flat_map cell_text run
