use Rattle.std.proofs.Common.{sym, subst}
use Rattle.vt_tool.specs.Run.{Tells}
use Rattle.vt_tool.specs.declared.status.Status.{Status}
use Rattle.vt_tool.proofs.telling.write_status.Goals as goal

pub returns-in-Refused : goal.returns-in-Refused
returns-in-Refused g c =
    subst (λ (first : Status). Tells first (g.E.Sink.stream c.args.err.now)
    (g.E.Sink.stream c.write_line-in-Refused.new.err) c.write_line-in-Refused.result)
    (sym c.in-Refused.is) c.write_line-in-Refused.ensures

pub returns-in-JournalFull : goal.returns-in-JournalFull
returns-in-JournalFull g c =
    subst (λ (first : Status). Tells first (g.E.Sink.stream c.args.err.now)
    (g.E.Sink.stream c.write_line-in-JournalFull.new.err) c.write_line-in-JournalFull.result)
    (sym c.in-JournalFull.is) c.write_line-in-JournalFull.ensures

pub returns-in-Illegal : goal.returns-in-Illegal
returns-in-Illegal g c =
    subst (λ (first : Status). Tells first (g.E.Sink.stream c.args.err.now)
    (g.E.Sink.stream c.write_line-in-Illegal.new.err) c.write_line-in-Illegal.result)
    (sym c.in-Illegal.is) c.write_line-in-Illegal.ensures
