use Rattle.std.proofs.Common.{inl}
use Rattle.vt_tool.proofs.Oks.{ok_more}
use Rattle.vt_tool.proofs.commands.race.answer.Goals as goal

pub returns-in-Ok : goal.returns-in-Ok
returns-in-Ok g c =
    let (value, said, is) = c.in-Ok.ensures in
    ok_more _ _ c.answer_raced.result
    (λ answer raced. inl (record {
      value = value;
      session = c.in-Ok.session;
      said = said;
      is = is;
      raced = raced;
    })) c.answer_raced.ensures
