use Rattle.std.proofs.Common.{arith}
use Rattle.vt_explain.proofs.Listening.{next_read}
use Rattle.vt_world.proofs.Stated.{traces_tell_news-moments, traces_tell_news-news}
use Rattle.vt_explain.proofs.reader.ReaderWitness.see.Goals as goal

pub read-requires-clause-new : goal.read-requires-clause-new
read-requires-clause-new c =
    c.requires.seen.fresh c.args.place (omega (arith, c.requires.next.place_is))

pub returns-clause-seen : goal.returns-clause-seen
returns-clause-seen c = λ first start before was next.
    next_read traces_tell_news-news traces_tell_news-moments start before c.args.place
    c.args._entry.now c.args.after.now c.trace.result.now c.args.self.now c.read.new.self was next
    c.trace.ensures.marks c.in_ok-read.ensures
