-- The callers by number: 0 and the numbers above 64 are keyboards, the others are processes. The
-- rules are this project's own.
use Rattle.std.specs.List.{list_any, range_with_len}
use Rattle.std.specs.Prelude.{◌≡◌, ◌≤◌, ℕ, ◌-◌, ◌==◌, nat_lt, Bool, true, false, not, List, map, replicate, position, Option, Some, None, IfSome, is_some, slice_get, slice_index_or, slice_set, if◌then◌else◌}
use Rattle.vt_base.specs.Limits.{callers as every_caller, processes}
use Rattle.vt_procs.specs.declared.process.Process.{Process}
use Rattle.vt_procs.specs.declared.proc_start.ProcStart.{ProcStart}
use Rattle.vt_procs.specs.declared.waiting.Waiting.TheVariants.{Nothing}

-- all callers, from number 0 to 67, and the caller that accepts the key signal, with the signal that it named
pub record Callers : Type 0 where
  pub list : List Process
  pub accepter : Option (ℕ × ℕ)

-- no descriptor is open
abbrev pub no_opens : List (Option ℕ)
no_opens = replicate 16 None

-- a caller that has nothing open, no signal pending and no ticket
abbrev pub plain_caller : Bool → ℕ → Bool → Process
plain_caller live home privileged = record {
  live = live;
  home = home;
  privileged = privileged;
  opens = no_opens;
  pending = 0;
  waiting = Nothing;
}

-- a caller that never lived
abbrev pub no_caller : Process
no_caller = plain_caller false 0 false

-- keyboard k, which lives if there are so many keyboards
abbrev pub keyboard : ℕ → ℕ → Process
keyboard keyboards k = plain_caller (nat_lt k keyboards) 0 false

abbrev pub caller_of : Option ProcStart → Process
caller_of None = no_caller
caller_of (Some start) = plain_caller true start.home start.privileged

-- the caller of number p at the start: a keyboard, or the process at that place of the list, counted
-- from 1
abbrev pub caller_at_start : ℕ → List ProcStart → ℕ → Process
caller_at_start keyboards starts p =
    if p == 0 then keyboard keyboards 0
    else if nat_lt processes p then keyboard keyboards (p - processes)
    else caller_of (slice_get starts (p - 1))

-- a possible number of keyboards
pub record IsFitCount (keyboards : ℕ) : Type 0 where
  pub one : 1 ≤ keyboards
  pub four : keyboards ≤ 4

-- the callers at the start; none accepts the key signal
abbrev pub callers_of : ℕ → List ProcStart → Callers
callers_of keyboards starts = record {
  list = map (caller_at_start keyboards starts) (range_with_len 0 every_caller);
  accepter = None;
}

abbrev pub caller_at : Callers → ℕ → Process
caller_at callers p = slice_index_or callers.list p no_caller

abbrev pub is_live : Callers → ℕ → Bool
is_live callers p = (caller_at callers p).live

-- another caller at the place of p
abbrev pub with_caller : Callers → ℕ → Process → Callers
with_caller callers p caller = record callers { list = slice_set callers.list p caller }

-- the caller that accepts the key signal is alive
abbrev pub IsFit : Callers → Type 0
IsFit callers = IfSome callers.accepter (λ accepter. is_live callers accepter.0 ≡ true)

-- the console of p's descriptor fd, None if that isn't open
abbrev pub console_of : Callers → ℕ → ℕ → Option ℕ
console_of callers p fd = slice_index_or (caller_at callers p).opens fd None

-- the lowest descriptor that isn't open
abbrev pub lowest_free : List (Option ℕ) → Option ℕ
lowest_free opens = position (λ c. not (is_some c)) opens

abbrev pub free_fd : Callers → ℕ → Option ℕ
free_fd callers p = lowest_free (caller_at callers p).opens

abbrev pub with_open : List (Option ℕ) → ℕ → Option ℕ → List (Option ℕ)
with_open opens c None = opens
with_open opens c (Some fd) = slice_set opens fd (Some c)

abbrev pub adds_open : Process → ℕ → Process
adds_open process c =
    record process { opens = with_open process.opens c (lowest_free process.opens) }

-- p has opened c at its lowest descriptor that wasn't open, if there was one
abbrev pub after_open : ℕ → ℕ → Callers → Callers
after_open p c callers = with_caller callers p (adds_open (caller_at callers p) c)

abbrev pub loses_open : Process → ℕ → Process
loses_open process fd = record process { opens = slice_set process.opens fd None }

-- p has closed its descriptor fd
abbrev pub after_close : ℕ → ℕ → Callers → Callers
after_close p fd callers = with_caller callers p (loses_open (caller_at callers p) fd)

abbrev pub is_console : ℕ → Option ℕ → Bool
is_console c None = false
is_console c (Some n) = n == c

-- one of these descriptors is open on console c
abbrev pub has_open : List (Option ℕ) → ℕ → Bool
has_open opens c = list_any (is_console c) opens

-- some caller has console c open
abbrev pub is_opened : Callers → ℕ → Bool
is_opened callers c = list_any (λ caller. has_open caller.opens c) callers.list

-- a dead caller has no descriptor, no ticket and no pending signal
abbrev pub dead_process : Process → Process
dead_process process = plain_caller false process.home process.privileged

-- p accepts the key signal
abbrev pub accepts : ℕ → Option (ℕ × ℕ) → Bool
accepts p None = false
accepts p (Some accepter) = accepter.0 == p

-- the end of p, which then accepts no key signal
abbrev pub after_exit : ℕ → Callers → Callers
after_exit p callers = record {
  list = slice_set callers.list p (dead_process (caller_at callers p));
  accepter = if accepts p callers.accepter then None else callers.accepter;
}
