-- The results of a call that gives a process to a program.
use Rattle.std.specs.Prelude.{ℕ, Result, Ok, Err}
use Rattle.machine.specs.Admissions.{given}
use Rattle.machine.specs.MachineState.{MachineState}
use Rattle.machine.specs.declared.admit_error.AdmitError.{AdmitError}
use Rattle.machine.specs.declared.admit_error.AdmitError.TheVariants.{Unlisted, Ended, InUse, OtherRights}
use Rattle.c_calls.specs.Codes.{MADE, OK, RANGE}
use Rattle.vt_procs.specs.declared.proc_start.ProcStart.{ProcStart}

-- OK, RANGE if it isn't a process of the start, and MADE if it can't be given to this program
abbrev pub code_of : Result (Unit {0}) AdmitError → ℕ
code_of (Ok x) = OK
code_of (Err Unlisted) = RANGE
code_of (Err Ended) = MADE
code_of (Err InUse) = MADE
code_of (Err OtherRights) = MADE

-- the machine, in which the process is given if the answer is OK
abbrev pub after_admission : Result (Unit {0}) AdmitError → ℕ → ProcStart → MachineState → MachineState
after_admission (Ok x) p rights m = given p rights m
after_admission (Err e) p rights m = m
