use Rattle.std.proofs.Common.{◌∙◌, List, Option, ap}
use Rattle.session_text.specs.Sessions.{SessionView}
use Rattle.vt_events.specs.declared.entry.Entry.{Entry}
use Rattle.vt_journal.specs.Room.{tail_at}
use Rattle.vt_journal.specs.declared.full.Full.{Full}
use Rattle.vt_tool.proofs.Sessions.{right_run}
use Rattle.vt_tool.specs.Commands.Drill.{drill_text}
use Rattle.vt_tool.specs.Commands.Session.{status_of}
use Rattle.vt_tool.specs.Outcome.{Outcome}
use Rattle.vt_world.specs.State.{WorldState}
use Rattle.vt_tool.proofs.commands.drill.answer.Goals as goal

pub returns : goal.returns
returns c =
    let s : SessionView = c.in_ok-session.session in
    let world : WorldState = c.in_ok-run.run'.world in
    let entries : List Entry = c.in_ok-run.run'.log.entries in
    let stop : Option Full = c.in_ok-run.run'.stop in
    let facts = c.in_ok-run.ensures in
    record {
      session = s;
      is = c.in_ok-session.ensures;
      history = entries;
      stop = stop;
      serial = facts.serial;
      right = right_run s world entries (tail_at entries stop) facts.right;
      status_is =
          ap (λ (o : Outcome). o.status) c.new.ensures
          ∙ c.status_of-status.ensures.status
          ∙ ap status_of c.tail.ensures;
      text =
          ap (λ (o : Outcome). o.text) c.new.ensures
          ∙ c.in_ok-text.ensures
          ∙ ap (drill_text entries) facts.right.world;
    }
