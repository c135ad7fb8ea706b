use Rattle.std.proofs.Common.{inl}
use Rattle.vt_tool.proofs.Oks.{ok_more}
use Rattle.vt_tool.proofs.commands.judging.answer.Goals as goal

pub returns-in-Ok : goal.returns-in-Ok
returns-in-Ok c =
    let (value, said, is) = c.in-Ok.ensures in
    ok_more _ _ c.answer_read.result
    (λ answer read. inl (record {
      text = c.cut-parts.result.text.now;
      after = c.cut-parts.result.after.now;
      cut = c.cut-parts.ensures;
      value = value;
      session = c.in-Ok.session;
      said = said;
      is = is;
      read = read;
    })) c.answer_read.ensures
