-- The calls of a session's callers in a history. Programs are those of a session, in its order. This
-- project's own.
use Rattle.std.specs.Prelude.{ℕ, ◌==◌, Bool, true, false, List, filter, map, Option, Some, None}
use Rattle.std.specs.List.{list_all, range_with_len}
use Rattle.session_text.specs.Programs.{Call, call, next, program_of}
use Rattle.session_text.specs.declared.program.Program.{Program}
use Rattle.vt_base.specs.Limits.{callers}
use Rattle.vt_events.specs.Plain.{plain_event, plain_reply}
use Rattle.vt_events.specs.declared.entry.Entry.{Entry}
use Rattle.vt_events.specs.declared.event.Event.{Event}

-- a call with its answer, without the spare room of their bytes
abbrev pub as_meant : Call → Call
as_meant c = call (plain_event c.event) (plain_reply c.reply)

-- the call of an entry
abbrev pub call_of : Entry → Call
call_of entry = as_meant (call entry.event entry.reply)

-- the entries of caller p, in order
abbrev pub made_by : ℕ → List Entry → List Entry
made_by p history = filter (λ entry. entry.caller == p) history

-- the calls that caller p made, in order
abbrev pub calls_by : ℕ → List Entry → List Call
calls_by p history = map call_of (made_by p history)

-- the next call after those that were made; no program has none
abbrev pub next_of : Option Program → List Call → Option Event
next_of None made = None
next_of (Some program) made = next program made

-- the next call of caller p after a history, None if its program is over
abbrev pub next_by : List Program → ℕ → List Entry → Option Event
next_by programs p history = next_of (program_of programs p) (calls_by p history)

abbrev pub is_none : Option Event → Bool
is_none None = true
is_none (Some e) = false

-- every program is over
abbrev pub all_over : List Program → List Entry → Bool
all_over programs history =
    list_all (λ p. is_none (next_by programs p history)) (range_with_len 0 callers)
