use Rattle.vt_tool.proofs.Drawing.{drawn_past}
use Rattle.vt_tool.proofs.streaming.screen_stream.Goals as goal

pub returns-then-count-left-clause-ends : goal.returns-then-count-left-clause-ends
returns-then-count-left-clause-ends g c =
    drawn_past c.any_cut.ensures _ _ _ _ _ _ _ _ c.in-Ok.count c.read.new.buf c.reads.invariant.drawn
    c.in-Ok.ensures.bytes.0 c.if-count-left.true c.in-Ok.ensures.bound.0 c.write.ensures
