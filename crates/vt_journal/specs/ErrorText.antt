-- The errors as texts: a fault's number, its line, and column 1 of it, or 0:0 if there is no line.
use Rattle.std.specs.Prelude.{ℕ, List, ◌++◌, codes, decimal, min}
use Rattle.vt_journal.specs.declared.j_fault.JFault.{JFault}
use Rattle.vt_journal.specs.declared.j_error.JError.{JError}
use Rattle.vt_journal.specs.declared.j_error.JError.TheVariants as errors

abbrev pub fault_text : JFault → List ℕ
fault_text fault = codes "refused " ++ decimal fault.kind ++ codes " at " ++ decimal fault.line ++ codes ":" ++ decimal (min fault.line 1)

abbrev pub error_text : JError → List ℕ
error_text (errors.Fault fault) = fault_text fault
error_text errors.NoMemory = codes "no memory"
