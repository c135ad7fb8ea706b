-- An answer, a mark, a wait, the display and a console as C gets them. Spare places are 0.
use Rattle.std.specs.Prelude.{ℕ, ◌+◌, [], ◌∷◌, length, replicate, Option, None, unwrap_or, if◌then◌else◌}
use Rattle.c_calls.specs.Flags.{c_flag}
use Rattle.machine.specs.MachineState.{MachineState}
use Rattle.machine_c.specs.declared.vt_console.VtConsole.{VtConsole}
use Rattle.machine_c.specs.declared.vt_display.VtDisplay.{VtDisplay}
use Rattle.machine_c.specs.declared.vt_mark.VtMark.{VtMark}
use Rattle.machine_c.specs.declared.vt_reply.VtReply.{VtReply}
use Rattle.vt_base.specs.Errno.{number_of}
use Rattle.vt_events.specs.declared.reply.Reply.{Reply}
use Rattle.vt_events.specs.declared.reply.Reply.TheVariants as reply
use Rattle.vt_procs.specs.declared.waiting.Waiting.{Waiting}
use Rattle.vt_procs.specs.declared.waiting.Waiting.TheVariants as waiting
use Rattle.vt_switch.specs.Display.{console, owner_of}
use Rattle.vt_switch.specs.declared.cause.Cause.{Cause}
use Rattle.vt_switch.specs.declared.cause.Cause.TheVariants as cause
use Rattle.vt_switch.specs.declared.mark.Mark.{Mark}
use Rattle.vt_switch.specs.declared.mark.Mark.TheVariants as mark
use Rattle.vt_world.specs.Inputs.{input_at}
use Rattle.vt_world.specs.Spare.{is_console}
use Rattle.vt_world.specs.State.{WorldState}
use Rattle.vt_world.specs.Terminals.{TerminalState, terminal_at}

-- an answer with neither bytes nor words
abbrev pub plain_answer : ℕ → ℕ → ℕ → VtReply
plain_answer kind number mask = record {
  mask = mask;
  length = 0;
  number = number;
  words = replicate 6 0;
  kind = kind;
  spare = replicate 19 0;
}

-- 0 is ok, 1 a number, 2 the console in front with the set of consoles, 3 bytes, 4 a mode, 5 an action, 6 a wait, 7 a
-- set of signals, and 8 the number of an error
abbrev pub c_reply : Reply → VtReply
c_reply reply.Done = plain_answer 0 0 0
c_reply (reply.Num n) = plain_answer 1 n 0
c_reply (reply.State front mask) = plain_answer 2 front mask
c_reply (reply.Text b) = record (plain_answer 3 0 0) { length = length b.bytes }
c_reply (reply.Mode m) =
    record (plain_answer 4 0 0) { words = m.mode ∷ m.waitv ∷ m.relsig ∷ m.acqsig ∷ m.frsig ∷ 0 ∷ [] }
c_reply (reply.Act kind value) =
    record (plain_answer 5 0 0) { words = kind ∷ value ∷ 0 ∷ 0 ∷ 0 ∷ 0 ∷ [] }
c_reply reply.Wait = plain_answer 6 0 0
c_reply (reply.Sigs signals) = plain_answer 7 0 signals
c_reply (reply.Err errno) = plain_answer 8 (number_of errno) 0

-- 0 if nobody had to let the display go; the process that let it go; and 128 more if it died
abbrev pub c_cause : Cause → ℕ
c_cause cause.Free = 0
c_cause (cause.Released p) = p
c_cause (cause.Died p) = 128 + p

abbrev pub make_mark : ℕ → ℕ → ℕ → ℕ → VtMark
make_mark kind a b cause = record { kind = kind; a = a; b = b; cause = cause; spare = replicate 4 0 }

-- 1 is a request for console a, 2 signal b raised to caller a, 3 a switch from console a to console b, 4 the end of
-- caller a
abbrev pub c_mark : Mark → VtMark
c_mark (mark.Asked n) = make_mark 1 n 0 0
c_mark (mark.Raised to signal) = make_mark 2 to signal 0
c_mark (mark.Hopped hop) = make_mark 3 hop.from hop.to (c_cause hop.cause)
c_mark (mark.Ended p) = make_mark 4 p 0 0

-- 0 is no wait, 1 an open one, 2 one that ended with success, 3 a broken one
abbrev pub c_wait : Waiting → ℕ
c_wait waiting.Nothing = 0
c_wait (waiting.Open ticket) = 1
c_wait waiting.Done = 2
c_wait waiting.Broken = 3

-- the switches so far, the entries that are gone from the journal and those in it, the console in front, the one that
-- waits for the display, or 0, and whether switching is locked
abbrev pub c_display : MachineState → VtDisplay
c_display m = record {
  hops = m.world.trace.hops;
  gone = m.gone;
  entries = length m.log.entries;
  front = m.world.display.front;
  pending = unwrap_or m.world.display.pending 0;
  locked = c_flag m.world.display.locked;
  spare = replicate 17 0;
}

-- the terminal of console n, if there is such a console and it is allocated
abbrev pub console_at : WorldState → ℕ → Option TerminalState
console_at w n = if is_console n then terminal_at w.terminals n else None

-- console n, whose terminal is this
abbrev pub c_console : WorldState → ℕ → TerminalState → VtConsole
c_console w n t = record {
  bells = t.bells;
  queued = length (input_at w.inputs n).queue.bytes;
  rows = t.emu.state.grid.rows;
  cols = t.emu.state.grid.cols;
  y = t.emu.state.state.y;
  x = t.emu.state.state.x;
  owner = unwrap_or (owner_of (console w.display n).handling) 0;
  graphics = c_flag (console w.display n).graphics;
  visible = c_flag t.emu.state.state.visible;
  spare = replicate 13 0;
}
