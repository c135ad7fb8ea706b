use Rattle.std.proofs.Common.{refl}
use Rattle.vt_tool.proofs.commands.typing.lines.add_typed.Goals as goal

pub loop-b-init : goal.loop-b-init
loop-b-init c = (c.start-typist.ensures c.args.tables.now, refl)
