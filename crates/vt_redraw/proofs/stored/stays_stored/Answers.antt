use Rattle.std.proofs.Common.{ap, arith}
use Rattle.vt_grid.specs.Grid.{GridView}
use Rattle.vt_redraw.proofs.stored.stays_stored.Goals as goal

pub returns : goal.returns
returns c = record {
  whole = c.grid.ensures.whole;
  rows = omega (arith, c.stays_full.ensures.rows, ap (λ (g : GridView). g.rows) c.grid.ensures.cells);
  cols = omega (arith, c.stays_full.ensures.cols, ap (λ (g : GridView). g.cols) c.grid.ensures.cells);
  stops = c.stops_stay.ensures;
  colours = c.colours_stay.ensures.many;
  parts = c.colours_stay.ensures.parts;
  look = (c.look_stays.ensures.underline, c.look_stays.ensures.dim);
}
