use Rattle.std.proofs.Common.{◌≡◌, length, drop}
use Rattle.vt_grid.specs.Ring.{cut_all}
use Rattle.vt_grid.proofs.rows.store.scrolls.cut_rows.Given as goal

abbrev pub invariant-loop-number : goal.invariant-loop-number
invariant-loop-number l = record {
  rows : cut_all (drop l.number-index l.numbers) l.c l.rows ≡ cut_all l.numbers l.c l.fn.rows;
  count : length l.rows ≡ length l.fn.rows;
}
