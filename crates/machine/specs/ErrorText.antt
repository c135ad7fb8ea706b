-- The texts of errors. This project's own.
use Rattle.std.specs.Prelude.{ℕ, List, codes}
use Rattle.machine.specs.declared.admit_error.AdmitError.{AdmitError}
use Rattle.machine.specs.declared.admit_error.AdmitError.TheVariants.{Unlisted, Ended, InUse, OtherRights}
use Rattle.machine.specs.declared.call_error.CallError.{CallError}
use Rattle.machine.specs.declared.call_error.CallError.TheVariants.{Full, Uncounted, NoMemory}

abbrev pub call_text : CallError → List ℕ
call_text Full = codes "journal full"
call_text Uncounted = codes "no number for a call"
call_text NoMemory = codes "no memory"

abbrev pub admit_text : AdmitError → List ℕ
admit_text Unlisted = codes "no such process"
admit_text Ended = codes "process ended"
admit_text InUse = codes "process in use"
admit_text OtherRights = codes "other rights"
