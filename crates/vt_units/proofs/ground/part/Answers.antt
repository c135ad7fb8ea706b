use Rattle.std.proofs.Common.{◌∙◌, sym}
use Rattle.vt_units.proofs.Joined.{part_csi}
use Rattle.vt_units.proofs.ground.part.Goals as goal

pub returns-then-begins_csi : goal.returns-then-begins_csi
returns-then-begins_csi c =
    part_csi c.args.mode c.args.text.now c.args.b c.requires.0 c.requires.1
    (sym c.begins_csi.ensures ∙ c.if-begins_csi.true)
