-- Positions after histories: a machine, and how far each caller is. No public clause names this.
use Rattle.std.specs.Prelude.{◌≡◌, ℕ, false, List, [], ◌∷◌, ◌++◌}
use Rattle.vt_explore.specs.declared.position.Position.{Position}
use Rattle.session_order.specs.Ends.{Setup}
use Rattle.session_order.specs.Serial.{entry_at}
use Rattle.session_order.specs.Standing.{AreAfter}
use Rattle.vt_events.specs.Plain.{plain_reply}
use Rattle.vt_events.specs.declared.entry.Entry.{Entry}
use Rattle.vt_events.specs.declared.event.Event.{Event}
use Rattle.vt_events.specs.declared.reply.Reply.{Reply}
use Rattle.vt_world.specs.Heard.{without_marks}
use Rattle.vt_world.specs.History.{replay}
use Rattle.vt_world.specs.Step.{step}

-- the same machines, except for the marks of the last call, with each caller at the same place
pub record AreSame (one other : Position) : Type 0 where
  pub world : without_marks one.world ≡ without_marks other.world
  pub walks : one.standing.walks ≡ other.standing.walks

-- the machine and the callers are those after this history, and the tables are those of the start unless a call
-- set them
pub record IsAfter (o : Setup) (history : List Entry) (m : Position) : Type 0 where
  pub replayed : m.world ≡ replay o.start history
  pub standing : AreAfter o.programs history m.standing
  pub tables : m.tables_set ≡ false → m.world.board.tables ≡ o.start.board.tables

-- both machines have the same tables unless a call set them
abbrev pub HaveSameTables : Position → Position → Type 0
HaveSameTables one other =
    one.tables_set ≡ false → other.tables_set ≡ false → one.world.board.tables ≡ other.world.board.tables

-- p made the call e after this history, with this answer
pub record HasMade (o : Setup) (history : List Entry) (p : ℕ) (e : Event) (r : Reply) (m : Position) : Type 0 where
  pub reply : plain_reply r ≡ (step (replay o.start history) p e).reply
  pub world : m.world ≡ (step (replay o.start history) p e).world
  pub after : IsAfter o (history ++ entry_at o.start history p e ∷ []) m
