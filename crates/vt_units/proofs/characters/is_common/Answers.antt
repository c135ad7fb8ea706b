use Rattle.std.proofs.Common.{ap, ◌∙◌, arith}
use Rattle.vt_units.proofs.Commons.{flag_is}
use Rattle.vt_units.specs.Characters.{is_common}
use Rattle.vt_units.proofs.characters.is_common.Goals as goal

pub returns : goal.returns
returns c = flag_is c.from.result (omega (arith, c.from.ensures)) ∙ ap is_common c.from.ensures
