use Rattle.std.proofs.Common.{inl}
use Rattle.vt_tool.proofs.Oks.{ok_more}
use Rattle.vt_tool.proofs.commands.play.answer.Goals as goal

pub returns-in-Ok : goal.returns-in-Ok
returns-in-Ok c =
    let (value, said, is) = c.in-Ok.ensures in
    ok_more _ _ c.answer_played.result
    (λ answer played. inl (record {
      value = value;
      session = c.in-Ok.session;
      said = said;
      is = is;
      played = played;
    })) c.answer_played.ensures
