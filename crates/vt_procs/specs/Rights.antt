-- Processes that are given to programs: their rights, that is their home and their privilege, and what a program has
-- left. This project's own.
use Rattle.std.specs.List.{list_any}
use Rattle.std.specs.Prelude.{ℕ, ◌==◌, ◌&&◌, Bool, true, false, not, is_some}
use Rattle.vt_procs.specs.Callers.{Callers, accepts, caller_at, with_caller}
use Rattle.vt_procs.specs.declared.proc_start.ProcStart.{ProcStart}
use Rattle.vt_procs.specs.declared.process.Process.{Process}
use Rattle.vt_procs.specs.declared.waiting.Waiting.{Waiting}
use Rattle.vt_procs.specs.declared.waiting.Waiting.TheVariants.{Nothing, Open, Done, Broken}

-- a caller with these rights
abbrev pub with_rights : ProcStart → Process → Process
with_rights rights process = record process { home = rights.home; privileged = rights.privileged }

-- p has these rights
abbrev pub after_admission : ℕ → ProcStart → Callers → Callers
after_admission p rights callers = with_caller callers p (with_rights rights (caller_at callers p))

-- whether the caller has no wait, not even one that ended
abbrev pub has_no_wait : Waiting → Bool
has_no_wait Nothing = true
has_no_wait (Open ticket) = false
has_no_wait Done = false
has_no_wait Broken = false

-- whether the caller is alive, and has nothing open, no signal pending and no wait
abbrev pub is_plain : Process → Bool
is_plain process =
    process.live && not (list_any is_some process.opens) && process.pending == 0 && has_no_wait process.waiting

-- whether p is such a caller, and doesn't accept the key signal
abbrev pub has_nothing : Callers → ℕ → Bool
has_nothing callers p = is_plain (caller_at callers p) && not (accepts p callers.accepter)
