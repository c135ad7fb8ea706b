use Rattle.vt_grid.proofs.Narrow.{plain_codes_narrow}
use Rattle.vt_grid.proofs.grid.Grid.draw_plain.Goals as goal

pub put_run-requires-clause-narrow : goal.put_run-requires-clause-narrow
put_run-requires-clause-narrow c = λ is. plain_codes_narrow c.args.codes.now c.requires.plain
