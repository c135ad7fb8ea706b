use Rattle.std.proofs.Common.{◌∙◌, sym}
use Rattle.vt_units.proofs.Joined.{ground_csi}
use Rattle.vt_units.proofs.ground.ground.Goals as goal

pub returns-then-is_csi : goal.returns-then-is_csi
returns-then-is_csi c = ground_csi c.args.mode c.args.b (sym c.is_csi.ensures ∙ c.if-is_csi.true)
