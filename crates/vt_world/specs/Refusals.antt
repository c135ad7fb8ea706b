-- The tests that may refuse an event, each with its error (ioctl_console(2)).
use Rattle.std.specs.Prelude.{ℕ, ◌==◌, ◌&&◌, ◌||◌, ◌%◌, Bool, true, not, nat_le, nat_lt, List, [], ◌∷◌, length, Option, Some, None, Result, Ok, Err, false, is_some, unwrap_or, if◌then◌else◌}
use Rattle.vt_base.specs.Keyboards.{is_keyboard}
use Rattle.vt_base.specs.declared.errno.Errno.{Errno}
use Rattle.vt_base.specs.declared.errno.Errno.TheVariants.{Srch, Intr, Nxio, Badf, Inval, Notty, Perm}
use Rattle.vt_base.specs.declared.vt_mode.VtMode.{VtMode}
use Rattle.vt_events.specs.declared.event.Event.{Event}
use Rattle.vt_events.specs.declared.event.Event.TheVariants as event
use Rattle.vt_procs.specs.Callers.{caller_at, console_of, has_open, is_live, is_opened}
use Rattle.vt_procs.specs.Tickets.{waited_of}
use Rattle.vt_procs.specs.declared.process.Process.{Process}
use Rattle.vt_procs.specs.declared.waited.Waited.{Waited}
use Rattle.vt_procs.specs.declared.waited.Waited.TheVariants as waited
use Rattle.vt_switch.specs.Calls.{is_held}
use Rattle.vt_world.specs.Inputs.{input_at}
use Rattle.vt_world.specs.Spare.{is_console}
use Rattle.vt_world.specs.State.{WorldState}

-- a test: if it applies, it refuses the event with an error
pub record Refusal : Type 0 where
  pub applies : Bool
  pub with : Errno

abbrev pub refusal : Bool → Errno → Refusal
refusal applies with = record { applies = applies; with = with }

-- the error of the first test that applies
abbrev pub first_refusal : List Refusal → Option Errno
first_refusal [] = None
first_refusal (r ∷ refusals) = if r.applies then Some r.with else first_refusal refusals

-- the error of a refused event, None if it isn't refused
abbrev pub error_of : {T : Type 0} → Result T Errno → Option Errno
error_of (Ok value) = None
error_of (Err errno) = Some errno

-- the caller of number p
abbrev pub caller : WorldState → ℕ → Process
caller w p = caller_at w.callers p

-- the console of p's descriptor; 0 if the descriptor isn't open, and then every event that names it
-- is refused
abbrev pub target : WorldState → ℕ → ℕ → ℕ
target w p fd = unwrap_or (console_of w.callers p fd) 0

-- the console that a number names: 0 names the one in front
abbrev pub console_by_number : WorldState → ℕ → ℕ
console_by_number w n = if n == 0 then w.display.front else n

-- EBADF: the descriptor isn't open
abbrev pub needs_open : WorldState → ℕ → ℕ → Refusal
needs_open w p fd = refusal (not (is_some (console_of w.callers p fd))) Badf

-- p is privileged, or console c is its home
abbrev pub may_handle : WorldState → ℕ → ℕ → Bool
may_handle w p c = (caller w p).privileged || c == (caller w p).home

-- EPERM: p is neither privileged, nor is the descriptor's console its home
abbrev pub needs_right : WorldState → ℕ → ℕ → Refusal
needs_right w p fd = refusal (not (may_handle w p (target w p fd))) Perm

-- EPERM: p isn't privileged
abbrev pub needs_privilege : WorldState → ℕ → Refusal
needs_privilege w p = refusal (not (caller w p).privileged) Perm

-- p is privileged, or has console c open
abbrev pub sees : WorldState → ℕ → ℕ → Bool
sees w p c = (caller w p).privileged || is_console c && has_open (caller w p).opens c

-- EPERM: p is neither privileged, nor has it the console open
abbrev pub needs_sight : WorldState → ℕ → ℕ → Refusal
needs_sight w p c = refusal (not (sees w p c)) Perm

-- ENXIO: no console has the number
abbrev pub needs_console : ℕ → Refusal
needs_console n = refusal (not (is_console n)) Nxio

-- ENXIO: the number is neither that of a console nor 0, which stands for the console in front or
-- for all
abbrev pub needs_console_or_0 : ℕ → Refusal
needs_console_or_0 n = refusal (nat_lt 63 n) Nxio

-- EINVAL: the request makes no sense
abbrev pub needs_sense : Bool → Refusal
needs_sense makes_sense = refusal (not makes_sense) Inval

-- EINTR: p would have to wait, and a signal is pending for it
abbrev pub needs_no_signal : WorldState → ℕ → Bool → Refusal
needs_no_signal w p waits = refusal (waits && not ((caller w p).pending == 0)) Intr

abbrev pub is_taken : {T E : Type 0} → Result T E → Bool
is_taken (Ok value) = true
is_taken (Err refused) = false

abbrev pub mode_of : ℕ → ℕ → ℕ → ℕ → ℕ → VtMode
mode_of m w r a f = record { mode = m; waitv = w; relsig = r; acqsig = a; frsig = f }

-- the most bytes of one write, and of one read; this project's own
abbrev pub transfer_limit : ℕ
transfer_limit = 4096

-- the queue of console c is empty
abbrev pub is_empty : WorldState → ℕ → Bool
is_empty w c = length (input_at w.inputs c).queue.bytes == 0

-- console n can't be freed: it is console 1, it is in front or waits for the display, a process
-- handles its switches, or a process has it open
abbrev pub is_in_use : WorldState → ℕ → Bool
is_in_use w n = n == 1 || is_held w.display n || is_opened w.callers n

-- the number of a signal
abbrev pub is_signal : ℕ → Bool
is_signal s = nat_le 1 s && nat_le s 64

-- the number of a process
abbrev pub is_process : ℕ → Bool
is_process q = nat_le 1 q && nat_le q 64

-- flags and flags of a reset: three bits each, the first from bit 0 on, the second from bit 4 on
abbrev pub is_flags : ℕ → Bool
is_flags v = nat_lt v 128 && nat_lt (v % 16) 8

-- a keycode that key tables have an entry for
abbrev pub is_keycode : ℕ → Bool
is_keycode code = nat_le 1 code && nat_le code 255

-- p has a wait, open or ended
abbrev pub has_ticket : Waited → Bool
has_ticket waited.None = false
has_ticket waited.Still = true
has_ticket waited.Done = true
has_ticket waited.Broken = true

abbrev pub holds_ticket : WorldState → ℕ → Bool
holds_ticket w p = has_ticket (waited_of (caller w p).waiting)

-- the tests of a call that sets something of the descriptor's console
abbrev pub sets : WorldState → ℕ → ℕ → Bool → List Refusal
sets w p fd makes_sense = needs_open w p fd ∷ needs_right w p fd ∷ needs_sense makes_sense ∷ []

-- the tests of a call that needs no right to it
abbrev pub gets : WorldState → ℕ → ℕ → Bool → List Refusal
gets w p fd makes_sense = needs_open w p fd ∷ needs_sense makes_sense ∷ []

-- keyboards make scans, processes make all other events, and both may exit
abbrev pub may_make : ℕ → Event → Bool
may_make p (event.Scan b) = is_keyboard p
may_make p event.Exit = true
may_make p e = not (is_keyboard p)

-- the only event that a caller with a wait may make: it asks how the wait ended
abbrev pub ends_wait : Event → Bool
ends_wait event.WaitEnd = true
ends_wait e = false

-- the tests of every event: the caller isn't alive, it can't make such an event, or it has a wait
abbrev pub common_refusals : WorldState → ℕ → Event → List Refusal
common_refusals w p e =
    refusal (not (is_live w.callers p)) Srch ∷ refusal (not (may_make p e)) Notty
    ∷ refusal (holds_ticket w p && not (ends_wait e)) Inval ∷ []
