-- Programs: the next call of a caller, by the calls that it made and their answers. This project's
-- own.
use Rattle.std.specs.Prelude.{◌≡◌, ℕ, ◌-◌, Bool, true, false, not, ◌&&◌, ◌||◌, Option, Some, None, List, [], ◌∷◌, ◌++◌, filter, filter_map, slice_get, if◌then◌else◌}
use Rattle.std.specs.List.{range_with_len}
use Rattle.sig_hooks.specs.Hooks.{act_of}
use Rattle.sig_hooks.specs.declared.act.Act.{Act}
use Rattle.sig_hooks.specs.declared.act.Act.TheVariants as acts
use Rattle.vt_base.specs.Keyboards.{keyboard_of}
use Rattle.vt_base.specs.Signals.{has_signal}
use Rattle.vt_base.specs.declared.errno.Errno.{Errno}
use Rattle.vt_base.specs.declared.errno.Errno.TheVariants as errno
use Rattle.vt_events.specs.Kinds.{text}
use Rattle.vt_events.specs.Plain.{plain_event}
use Rattle.vt_events.specs.Waits.{is_wait}
use Rattle.vt_events.specs.declared.event.Event.{Event}
use Rattle.vt_events.specs.declared.event.Event.TheVariants as event
use Rattle.vt_events.specs.declared.reply.Reply.{Reply}
use Rattle.vt_events.specs.declared.reply.Reply.TheVariants as reply
use Rattle.session_text.specs.declared.program.Program.{Program}
use Rattle.session_text.specs.declared.program.Program.TheVariants as program

-- a call that was made, and its answer
pub record Call : Type 0 where
  pub event : Event
  pub reply : Reply

abbrev pub call : Event → Reply → Call
call event reply = record { event = event; reply = reply }

abbrev pub is_exit : Event → Bool
is_exit event.Exit = true
is_exit e = false

abbrev pub is_kill : Event → Bool
is_kill (event.Kill p s) = true
is_kill e = false

abbrev pub is_srch : Errno → Bool
is_srch errno.Srch = true
is_srch e = false

-- the answer ESRCH, which a caller that isn't alive gets
abbrev pub is_gone : Reply → Bool
is_gone (reply.Err e) = is_srch e
is_gone r = false

-- a call that ends its program: exit, and any call except kill with the answer ESRCH; the answer of a kill
-- doesn't distinguish a dead target from a dead caller
abbrev pub ends : Event → Reply → Bool
ends e r = is_exit e || (not (is_kill e) && is_gone r)

-- the call e, and the calls after it; between them waitend as often as the answer is wait
abbrev pub calls : Event → (List Call → Option Event) → List Call → Option Event
calls e behind [] = Some e
calls e behind (c ∷ made) =
    if ends c.event c.reply then None
    else (if is_wait c.reply then calls event.WaitEnd behind made else behind made)

-- each of these calls, and the calls after them
abbrev pub all_calls : List Event → (List Call → Option Event) → List Call → Option Event
all_calls [] behind = behind
all_calls (e ∷ events) behind = calls e (all_calls events behind)

abbrev pub nothing : List Call → Option Event
nothing made = None

abbrev pub exits : List Call → Option Event
exits = calls event.Exit nothing

-- the call that an act makes, None if the act is nothing
abbrev pub act_call : Act → Option Event
act_call acts.Nothing = None
act_call (acts.Disp fd arg) = Some (event.RelDisp fd arg)
act_call (acts.Put fd byte) = Some (event.Write fd (text (byte ∷ [])))
act_call acts.Leave = Some event.Exit

-- the act at signal s, nothing if the set doesn't contain s
abbrev pub act_at : List Act → ℕ → ℕ → Act
act_at table set s = if has_signal set s then act_of table s else acts.Nothing

-- the calls at the signals of the set from s on, rising
unfoldable pub calls_from : List Act → ℕ → ℕ → List Event
calls_from table set s =
    filter_map (λ n. act_call (act_at table set n)) (range_with_len s (65 - s))

-- the signals that an answer gives
abbrev pub signals_in : Reply → ℕ
signals_in (reply.Sigs set) = set
signals_in r = 0

-- the signals are taken; the acts at the signals of the answer follow, and the calls after them
abbrev pub takes : List Act → (List Call → Option Event) → List Call → Option Event
takes table behind [] = Some event.TakeSignals
takes table behind (c ∷ made) =
    calls event.TakeSignals (all_calls (calls_from table (signals_in c.reply) 1) behind) (c ∷ made)

-- each item, after which the signals are taken; then exit
abbrev pub script : List Act → List Event → List Call → Option Event
script table [] = exits
script table (item ∷ items) = calls (plain_event item) (takes table (script table items))

-- each scan byte; then exit
abbrev pub scans : List ℕ → List Call → Option Event
scans [] = exits
scans (b ∷ bytes) = calls (event.Scan b) (scans bytes)

-- the next call of a program, None if it is over
abbrev pub next : Program → List Call → Option Event
next (program.Keys bytes) = scans bytes.bytes
next (program.Script items table) = script table items.events

abbrev pub is_keys : Program → Bool
is_keys (program.Keys bytes) = true
is_keys (program.Script items table) = false

-- the program, if it is a script
abbrev pub script_in : Option Program → Option Program
script_in None = None
script_in (Some (program.Keys bytes)) = None
script_in (Some (program.Script items table)) = Some (program.Script items table)

abbrev pub program_by : List Program → ℕ → Option ℕ → Option Program
program_by programs p None = script_in (slice_get programs p)
program_by programs p (Some k) = slice_get (filter is_keys programs) k

-- the program of caller p: a process has the script at the place of its number, and keyboard k the
-- k-th program of scan bytes, counted from 0
abbrev pub program_of : List Program → ℕ → Option Program
program_of programs p = program_by programs p (keyboard_of p)

-- a program has no next call after these calls
abbrev pub IsOver : Program → List Call → Type 0
IsOver p made = next p made ≡ None

-- after a call with the answer wait, a program has waitend or no call
abbrev pub WaitsAreEnded : Type 0
WaitsAreEnded =
    (p : Program) (made : List Call) (c : Call) (e : Event) → is_wait c.reply ≡ true
    → next p (made ++ c ∷ []) ≡ Some e → e ≡ event.WaitEnd
