-- Signals and waits. A wait is a ticket: it is open, or it ended with success or by a signal, until
-- its process collects it. The rules are this project's own.
use Rattle.std.specs.List.{list_any}
use Rattle.std.specs.Prelude.{ℕ, ◌==◌, ◌&&◌, Bool, true, false, not, List, map, Some, if◌then◌else◌}
use Rattle.vt_base.specs.Signals.{with_signal}
use Rattle.vt_procs.specs.Callers.{Callers, caller_at, with_caller}
use Rattle.vt_procs.specs.declared.ending.Ending.{Ending}
use Rattle.vt_procs.specs.declared.ending.Ending.TheVariants.{Shown, Filled, Idle}
use Rattle.vt_procs.specs.declared.process.Process.{Process}
use Rattle.vt_procs.specs.declared.ticket.Ticket.{Ticket}
use Rattle.vt_procs.specs.declared.ticket.Ticket.TheVariants.{Active, Input, AnySignal}
use Rattle.vt_procs.specs.declared.waited.Waited.{Waited}
use Rattle.vt_procs.specs.declared.waited.Waited.TheVariants as waited
use Rattle.vt_procs.specs.declared.waiting.Waiting.{Waiting}
use Rattle.vt_procs.specs.declared.waiting.Waiting.TheVariants.{Nothing, Open, Done, Broken}

abbrev pub is_open : Waiting → Bool
is_open Nothing = false
is_open (Open ticket) = true
is_open Done = false
is_open Broken = false

-- the answer to a process about its ticket
abbrev pub waited_of : Waiting → Waited
waited_of Nothing = waited.None
waited_of (Open ticket) = waited.Still
waited_of Done = waited.Done
waited_of Broken = waited.Broken

-- the ticket after that answer: an open one stays
abbrev pub waiting_after_report : Waiting → Waiting
waiting_after_report Nothing = Nothing
waiting_after_report (Open ticket) = Open ticket
waiting_after_report Done = Nothing
waiting_after_report Broken = Nothing

-- an open ticket ends by a signal
abbrev pub after_signal : Waiting → Waiting
after_signal Nothing = Nothing
after_signal (Open ticket) = Broken
after_signal Done = Done
after_signal Broken = Broken

-- the ticket waits until console c has the display, or until bytes come to it
abbrev pub is_for_display : ℕ → Ticket → Bool
is_for_display c (Active n) = n == c
is_for_display c (Input n) = false
is_for_display c AnySignal = false

abbrev pub is_for_input : ℕ → Ticket → Bool
is_for_input c (Active n) = false
is_for_input c (Input n) = n == c
is_for_input c AnySignal = false

-- there is an open ticket that passes the test
abbrev pub waits_for : (Ticket → Bool) → Waiting → Bool
waits_for ends Nothing = false
waits_for ends (Open ticket) = ends ticket
waits_for ends Done = false
waits_for ends Broken = false

-- an open ticket that passes the test ends with success
abbrev pub after_success : (Ticket → Bool) → Waiting → Waiting
after_success ends waiting = if waits_for ends waiting then Done else waiting

-- an open ticket ends for this reason
abbrev pub ended_by : Ending → Waiting → Waiting
ended_by (Shown c) waiting = after_success (is_for_display c) waiting
ended_by (Filled c) waiting = after_success (is_for_input c) waiting
ended_by Idle waiting = after_signal waiting

abbrev pub with_waiting : Process → Waiting → Process
with_waiting process waiting = record process { waiting = waiting }

-- every open ticket ends that this reason ends
abbrev pub all_ended_by : Ending → List Process → List Process
all_ended_by ending list =
    map (λ process. with_waiting process (ended_by ending process.waiting)) list

abbrev pub with_ended : Ending → Callers → Callers
with_ended ending callers = record callers { list = all_ended_by ending callers.list }

-- the callers after console c got the display
abbrev pub after_display_of : ℕ → Callers → Callers
after_display_of c callers = with_ended (Shown c) callers

-- the callers after bytes came to console c
abbrev pub after_input_on : ℕ → Callers → Callers
after_input_on c callers = with_ended (Filled c) callers

-- p begins a wait
abbrev pub waits : ℕ → Ticket → Callers → Callers
waits p ticket callers = with_caller callers p (with_waiting (caller_at callers p) (Open ticket))

-- p has had the answer about its ticket
abbrev pub after_wait_report : ℕ → Callers → Callers
after_wait_report p callers =
    with_caller callers p (with_waiting (caller_at callers p) (waiting_after_report (caller_at callers p).waiting))

-- a signal is pending for a process, and its open ticket ends
abbrev pub with_signal_pending : Process → ℕ → Process
with_signal_pending process s =
    record process {
      pending = with_signal process.pending s;
      waiting = after_signal process.waiting;
    }

-- raise: a signal is pending for p, and its open ticket ends
abbrev pub after_raise : ℕ → ℕ → Callers → Callers
after_raise p s callers = with_caller callers p (with_signal_pending (caller_at callers p) s)

abbrev pub without_pending : Process → Process
without_pending process = record process { pending = 0 }

-- p has taken its pending signals
abbrev pub after_taking_signals : ℕ → Callers → Callers
after_taking_signals p callers = with_caller callers p (without_pending (caller_at callers p))

-- p accepts the key signal, in place of an earlier caller
abbrev pub with_accepter : ℕ → ℕ → Callers → Callers
with_accepter p s callers = record callers { accepter = Some (p, s) }

-- a live caller without an open ticket
abbrev pub can_go : Process → Bool
can_go process = process.live && not (is_open process.waiting)

-- the idle rule: if no live caller is without an open ticket, every open ticket ends as by a signal
abbrev pub after_idle_rule : Callers → Callers
after_idle_rule callers = if list_any can_go callers.list then callers else with_ended Idle callers
