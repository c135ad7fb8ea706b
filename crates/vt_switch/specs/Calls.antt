-- The answer of each call of the switch, and the display after it (ioctl_console(2)). The rules of the
-- handshake are this project's own.
use Rattle.std.specs.Prelude.{◌≡◌, ⊤, ℕ, Bool, true, false, not, ◌==◌, ◌||◌, Option, Some, None, Result, Ok, Err, slice_set, is_some, if◌then◌else◌}
use Rattle.vt_base.specs.ConsoleSet.{at_each}
use Rattle.vt_base.specs.Range.{in_range}
use Rattle.vt_base.specs.declared.inval.Inval.{Inval}
use Rattle.vt_base.specs.declared.vt_mode.VtMode.{VtMode}
use Rattle.vt_switch.specs.Display.{Display, MayWait, fresh, console, or_fresh, is_allocated, owner_of, place, with_console}
use Rattle.vt_switch.specs.declared.asked.Asked.{Asked}
use Rattle.vt_switch.specs.declared.asked.Asked.TheVariants.{Hopped, Signalled, Ignored}
use Rattle.vt_switch.specs.declared.cause.Cause.{Cause}
use Rattle.vt_switch.specs.declared.cause.Cause.TheVariants.{Free, Released}
use Rattle.vt_switch.specs.declared.handling.Handling.{Handling}
use Rattle.vt_switch.specs.declared.handling.Handling.TheVariants.{Auto, Process}
use Rattle.vt_switch.specs.declared.hop.Hop.{Hop}

abbrev pub inval : Inval
inval = record {}

-- every console is new, one is in front, and it counts as the previous one too
abbrev pub first_display : ℕ → ℕ → Display
first_display consoles front = record {
  front = front;
  last = front;
  locked = false;
  pending = None;
  consoles = at_each consoles fresh;
}

-- allocate: a console that isn't allocated becomes a new one
abbrev pub allocate : Display → ℕ → Display
allocate d n = record d { consoles = slice_set d.consoles n (Some (or_fresh (place d n))) }

-- the display switches: the previous console is the one that was in front, and nothing is pending
abbrev pub hop_from : Display → ℕ → Cause → Hop
hop_from d n cause = record { from = d.front; to = n; cause = cause }

abbrev pub with_hop : Display → Hop → Display
with_hop d hop = record d { front = hop.to; last = hop.from; pending = None }

abbrev pub asked_of : Display → ℕ → Bool → Handling → Asked
asked_of d n graphics (Process handshake) = Signalled handshake.owner handshake.relsig
asked_of d n graphics (Auto words) = if graphics then Ignored else Hopped (hop_from d n Free)

-- request: ignored if the console isn't allocated or is in front, if switching is locked, or if the front
-- handles its switches itself and shows graphics. If the front handles them itself, the display switches;
-- if a process does, it is asked by its release signal
abbrev pub request_outcome : Display → ℕ → Asked
request_outcome d n =
    if not (is_allocated d n) || n == d.front || d.locked then Ignored
    else asked_of d n (console d d.front).graphics (console d d.front).handling

abbrev pub after_asked : Display → ℕ → Asked → Display
after_asked d n (Hopped hop) = with_hop d hop
after_asked d n (Signalled owner signal) = record d { pending = Some n }
after_asked d n Ignored = d

-- the display after a request; a request that waits replaces an earlier one
abbrev pub request : Display → ℕ → Display
request d n = after_asked d n (request_outcome d n)

-- if a request isn't ignored, the console that it names is allocated
abbrev pub HasTarget : Display → ℕ → Asked → Type 0
HasTarget d n (Hopped hop) = is_allocated d hop.to ≡ true
HasTarget d n (Signalled owner signal) = MayWait d n
HasTarget d n Ignored = ⊤

-- the console that waits for the display, if console c has the display
abbrev pub pending_at : Display → ℕ → Option ℕ
pending_at d c = if c == d.front then d.pending else None

-- there is a number, and it is n
abbrev pub names : ℕ → Option ℕ → Bool
names n None = false
names n (Some number) = number == n

-- p handles the switches of console c
abbrev pub owns : Display → ℕ → ℕ → Bool
owns d p c = names p (owner_of (console d c).handling)

abbrev pub let_go : Display → ℕ → Option ℕ → Result (Option Hop) Inval
let_go d p None = Err inval
let_go d p (Some n) = Ok (Some (hop_from d n (Released p)))

abbrev pub drop_pending : Option ℕ → Result (Option Hop) Inval
drop_pending None = Err inval
drop_pending (Some n) = Ok None

-- release of console c by p, which has to be the owner: 1 lets the pending switch away from c happen, 0 drops
-- it, and 2 acknowledges that c got the display
abbrev pub release_result : Display → ℕ → ℕ → ℕ → Result (Option Hop) Inval
release_result d c p arg =
    if not (owns d p c) then Err inval
    else if arg == 0 then drop_pending (pending_at d c)
    else if arg == 1 then let_go d p (pending_at d c)
    else if arg == 2 then Ok None
    else Err inval

abbrev pub after_released : Display → ℕ → Result (Option Hop) Inval → Display
after_released d arg (Ok (Some hop)) = with_hop d hop
after_released d arg (Ok None) = if arg == 0 then record d { pending = None } else d
after_released d arg (Err refused) = d

-- the display after a release
abbrev pub release : Display → ℕ → ℕ → ℕ → Display
release d c p arg = after_released d arg (release_result d c p arg)

-- a signal of a handshake: any except 9
abbrev pub signal_of : ℕ → Option ℕ
signal_of n = if n == 9 then None else in_range 1 64 n

abbrev pub process_of : ℕ → VtMode → Option ℕ → Option ℕ → Option Handling
process_of p m (Some relsig) (Some acqsig) = Some (Process (record {
  owner = p;
  waitv = m.waitv;
  relsig = relsig;
  acqsig = acqsig;
  frsig = m.frsig;
}))
process_of p m (Some relsig) None = None
process_of p m None acqsig = None

-- set mode: the handling that p asks for by these words. 0 is VT_AUTO and keeps the other words as given, 1 is
-- VT_PROCESS with p as the owner
abbrev pub handling_of : ℕ → VtMode → Option Handling
handling_of p m =
    if m.mode == 0 then
    Some (Auto (record {
      waitv = m.waitv;
      relsig = m.relsig;
      acqsig = m.acqsig;
      frsig = m.frsig;
    }))
    else if m.mode == 1 then process_of p m (signal_of m.relsig) (signal_of m.acqsig)
    else None

-- the handling replaces that of the console; a pending switch away from c is dropped
abbrev pub with_console_handling : Display → ℕ → Handling → Display
with_console_handling d c handling = with_console d c (λ console. record console { handling = handling })

abbrev pub after_mode : Display → ℕ → Option Handling → Display
after_mode d c None = d
after_mode d c (Some handling) =
    if c == d.front then record (with_console_handling d c handling) { pending = None } else with_console_handling d c handling

-- the display after a set mode
abbrev pub set_mode : Display → ℕ → ℕ → VtMode → Display
set_mode d c p m = after_mode d c (handling_of p m)

-- words that no handling has are refused
abbrev pub mode_answer : Option Handling → Result (Unit {0}) Inval
mode_answer None = Err inval
mode_answer (Some handling) = Ok tt

-- the words of a mode again
abbrev pub words_of : Handling → VtMode
words_of (Auto words) = record {
  mode = 0;
  waitv = words.waitv;
  relsig = words.relsig;
  acqsig = words.acqsig;
  frsig = words.frsig;
}
words_of (Process handshake) = record {
  mode = 1;
  waitv = handshake.waitv;
  relsig = handshake.relsig;
  acqsig = handshake.acqsig;
  frsig = handshake.frsig;
}

-- lock and unlock
abbrev pub with_lock : Display → Bool → Display
with_lock d on = record d { locked = on }

-- set KD: the console shows graphics, or text
abbrev pub with_kd : Display → ℕ → Bool → Display
with_kd d c graphics = with_console d c (λ console. record console { graphics = graphics })

-- a console that has to stay: it is in front, waits for the display, or a process handles its
-- switches
abbrev pub is_held : Display → ℕ → Bool
is_held d c = c == d.front || names c d.pending || is_some (owner_of (console d c).handling)

abbrev pub without_console : Display → ℕ → Display
without_console d c = record d { consoles = slice_set d.consoles c None }

-- free: a console that has to stay isn't freed
abbrev pub free : Display → ℕ → Display
free d c = if is_held d c then d else without_console d c
