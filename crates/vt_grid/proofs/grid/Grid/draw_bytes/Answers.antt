use Rattle.std.proofs.Common.{arith}
use Rattle.vt_grid.proofs.Narrow.{bytes_narrow}
use Rattle.vt_grid.proofs.grid.Grid.draw_bytes.Goals as goal

pub put_run-requires-clause-narrow : goal.put_run-requires-clause-narrow
put_run-requires-clause-narrow c = λ is. bytes_narrow c.args.bytes.now (λ i. omega (arith, c.type_inv.bytes i))
