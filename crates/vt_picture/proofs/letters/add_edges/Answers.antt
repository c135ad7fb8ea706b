use Rattle.std.proofs.Common.{◌≡◌, ◌*◌, ◌++◌}
use Rattle.std.specs.Prelude.{decimal}
use Rattle.vt_picture.proofs.Texts.{edges_more}
use Rattle.vt_picture.proofs.letters.add_edges.Goals as goal

pub loop-column-preserved : goal.loop-column-preserved
loop-column-preserved c =
    let edge : c.add_decimal.new.self.bytes ≡ c.add.new.self.bytes ++ decimal (8 * c.loop-column.column) =
    cc (c.in_ok-add_decimal.ensures) in
    edges_more c.loop-column.column c.args.end c.loop-column.text.bytes c.add.new.self.bytes c.add_decimal.new.self.bytes _
    c.loop-column-test.true c.in_ok-add.ensures edge c.loop-column.invariant
