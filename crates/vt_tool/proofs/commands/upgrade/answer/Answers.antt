use Rattle.std.proofs.Common.{inl}
use Rattle.vt_tool.proofs.Oks.{ok_more}
use Rattle.vt_tool.proofs.Upgrades.{is_old}
use Rattle.vt_tool.proofs.commands.upgrade.answer.Goals as goal

pub returns-in-Ok : goal.returns-in-Ok
returns-in-Ok c =
    ok_more _ _ c.answer_printed.result
    (λ answer is. inl (record {
      entries = c.in-Ok.journal.entries;
      end = c.in-Ok.journal.tail;
      says =
          is_old c.args.input.now c.in-Ok.journal (c.is_newer.ensures.no c.if-is_newer.false)
          c.in-Ok.ensures.says;
      is = is;
    })) c.answer_printed.ensures
