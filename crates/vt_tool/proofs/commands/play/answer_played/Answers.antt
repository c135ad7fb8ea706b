use Rattle.std.proofs.Common.{List, Option, ◌∙◌}
use Rattle.session_text.specs.Sessions.{SessionView}
use Rattle.vt_events.specs.declared.entry.Entry.{Entry}
use Rattle.vt_journal.specs.Room.{tail_at}
use Rattle.vt_journal.specs.declared.full.Full.{Full}
use Rattle.vt_tool.proofs.Oks.{ok_more}
use Rattle.vt_tool.proofs.Sessions.{right_run, run_printed}
use Rattle.vt_world.specs.State.{WorldState}
use Rattle.vt_tool.proofs.commands.play.answer_played.Goals as goal

pub returns : goal.returns
returns c =
    let s : SessionView = c.args.session.now in
    let world : WorldState = c.in_ok-run.run'.world in
    let entries : List Entry = c.in_ok-run.run'.log.entries in
    let stop : Option Full = c.in_ok-run.run'.stop in
    let facts = c.in_ok-run.ensures in
    ok_more _ _ c.answer_run.result
    (λ answer is. record {
      history = entries;
      stop = stop;
      serial = facts.serial;
      right = right_run s world entries (tail_at entries stop) facts.right;
      printed =
          run_printed s world entries stop facts.right.world _ (c.as_slice.ensures ∙ c.in_ok-last.ensures)
          answer is;
    }) c.answer_run.ensures
