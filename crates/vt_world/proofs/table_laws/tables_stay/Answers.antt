use Rattle.vt_world.proofs.for_laws.Mapping.{tables_stay}
use Rattle.vt_world.proofs.table_laws.tables_stay.Goals as goal

pub returns : goal.returns
returns c = tables_stay
