-- A process that is given to a program after the start: when it may be, and the machine after it. This project's own.
use Rattle.std.specs.Prelude.{ℕ, ◌-◌, ◌==◌, ◌&&◌, nat_le, Bool, not, length, Result, Ok, Err, slice_index_or, slice_set, if◌then◌else◌}
use Rattle.machine.specs.History.{Start}
use Rattle.machine.specs.MachineState.{MachineState, made_by}
use Rattle.machine.specs.declared.admit_error.AdmitError.{AdmitError}
use Rattle.machine.specs.declared.admit_error.AdmitError.TheVariants.{Unlisted, Ended, InUse, OtherRights}
use Rattle.vt_procs.specs.Callers.{is_live}
use Rattle.vt_procs.specs.declared.proc_start.ProcStart.{ProcStart}
use Rattle.vt_world.specs.Rights.{admitted, is_unused}

-- p is a process of the start
abbrev pub is_listed : ℕ → Start → Bool
is_listed p s = nat_le 1 p && nat_le p (length s.config.procs)

-- the start, if process p had started with these rights
abbrev pub with_process : ℕ → ProcStart → Start → Start
with_process p rights s =
    record s { config = record s.config { procs = slice_set s.config.procs (p - 1) rights } }

-- the machine, if process p had started with these rights
abbrev pub as_started : ℕ → ProcStart → MachineState → MachineState
as_started p rights m =
    record m { start = with_process p rights m.start; world = admitted p rights m.world }

-- the same home, and both or neither privileged
abbrev pub are_same : ProcStart → ProcStart → Bool
are_same a b = a.home == b.home && (if a.privileged then b.privileged else not b.privileged)

-- p started with these rights
abbrev pub has_rights : ℕ → ProcStart → Start → Bool
has_rights p rights s = are_same rights (slice_index_or s.config.procs (p - 1) rights)

-- whether process p can be given to a program with these rights: it is a process of the start and is alive, and either
-- it has made no call, or its last program left nothing behind and had the same rights
abbrev pub admission : ℕ → ProcStart → MachineState → Result (Unit {0}) AdmitError
admission p rights m =
    if not (is_listed p m.start) then Err Unlisted
    else if not (is_live m.world.callers p) then Err Ended
    else if made_by m p == 0 then Ok tt
    else if not (is_unused m.world p) then Err InUse
    else if not (has_rights p rights m.start) then Err OtherRights
    else Ok tt

-- the machine after it is given: a process that has made no call has these rights from the start
abbrev pub given : ℕ → ProcStart → MachineState → MachineState
given p rights m = if made_by m p == 0 then as_started p rights m else m
