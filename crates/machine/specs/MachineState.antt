-- A machine with the journal of its last calls. This project's own.
use Rattle.std.specs.Prelude.{◌≡◌, ◌≤◌, ◌<◌, ◌+◌, ℕ, List, [], ◌∷◌, ◌++◌, length, min, None, option_map, slice_index_or, slice_set}
use Rattle.machine.specs.History.{IsAfter, Start, world_of}
use Rattle.vt_events.specs.Charge.{greatest_reply, text_of_reply}
use Rattle.vt_events.specs.declared.entry.Entry.{Entry}
use Rattle.vt_events.specs.declared.event.Event.{Event}
use Rattle.vt_events.specs.declared.reply.Reply.{Reply}
use Rattle.vt_journal.specs.Journal.{journal_text}
use Rattle.vt_journal.specs.Log.{Logged}
use Rattle.vt_journal.specs.Room.{tail_at}
use Rattle.vt_switch.specs.Law.{IsLawful}
use Rattle.vt_world.specs.Laws.{moments}
use Rattle.vt_world.specs.State.{WorldState}
use Rattle.vt_world.specs.Step.{HasOutcome, step}
use Rattle.vt_world.specs.Tapes.{screen_of, tape_of}
use Rattle.vt_world.specs.Terminals.{emu_of, terminal_at}

-- the start, the world after all calls, how many calls each caller made, the journal of the last calls, and how many
-- earlier calls are gone from it
pub record MachineState : Type 0 where
  pub start : Start
  pub world : WorldState
  pub made : List ℕ
  pub gone : ℕ
  pub log : Logged

-- the greatest number of calls that are counted as gone
abbrev pub most_gone : ℕ
most_gone = 18446744073709551615

-- there are calls that are gone from the journal, and with them its calls are a legal history from the start, which
-- leaves the world
pub record IsContinued (m : MachineState) : Type 0 where
  pub before : List Entry
  pub size : m.gone ≡ min (length before) most_gone
  pub after : IsAfter m.start (before ++ m.log.entries) m.world m.made

-- that history has the display law and the screen law
pub record ObeysLaws (m : MachineState) : Type 0 where
  pub calls : IsContinued m
  pub displays : IsLawful (moments (world_of m.start) (calls.before ++ m.log.entries))
  pub screens :
      (c : ℕ) → c < 64
      → emu_of (terminal_at m.world.terminals c)
      ≡ option_map (screen_of m.start.config.size.rows m.start.config.size.cols)
      (tape_of c (world_of m.start) (calls.before ++ m.log.entries))

-- how many calls the caller made
abbrev pub made_by : MachineState → ℕ → ℕ
made_by m p = slice_index_or m.made p 0

-- the entry of the caller's next call, with its answer
abbrev pub next_entry : MachineState → ℕ → Event → Reply → Entry
next_entry m caller event reply =
    record { caller = caller; seq = made_by m caller; event = event; reply = reply }

-- the world took the call, and the journal ends with its entry
pub record HasCalled (caller : ℕ) (event : Event) (old new : MachineState) : Type 0 where
  pub reply : Reply
  pub step : HasOutcome (step old.world caller event) new.world reply
  pub bytes : length (text_of_reply reply) ≤ greatest_reply event
  pub start : new.start ≡ old.start
  pub made : new.made ≡ slice_set old.made caller (made_by old caller + 1)
  pub gone : new.gone ≡ old.gone
  pub log : new.log ≡ record old.log { entries = old.log.entries ++ next_entry old caller event reply ∷ [] }

-- the greatest number of an entry
abbrev pub greatest_number : ℕ
greatest_number = 4294967295

-- the machine with an empty journal
abbrev pub forgotten : MachineState → MachineState
forgotten m = record m {
  gone = min (m.gone + length m.log.entries) most_gone;
  log = record m.log { entries = [] };
}

-- the text of the journal, in version 2
abbrev pub text_of : MachineState → List ℕ
text_of m = journal_text 2 m.log.entries (tail_at m.log.entries None)
