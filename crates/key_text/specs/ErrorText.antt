-- The errors as texts: a fault's number and its place.
use Rattle.std.specs.Prelude.{ℕ, List, ◌++◌, codes, decimal}
use Rattle.key_text.specs.declared.fault.KeyFault.{KeyFault}
use Rattle.key_text.specs.declared.fault.KeyError.{KeyError}
use Rattle.key_text.specs.declared.fault.KeyError.TheVariants as errors

abbrev pub fault_text : KeyFault → List ℕ
fault_text fault = codes "refused " ++ decimal fault.kind ++ codes " at " ++ decimal fault.line ++ codes ":" ++ decimal fault.column

abbrev pub error_text : KeyError → List ℕ
error_text (errors.Fault fault) = codes "keymap " ++ fault_text fault
error_text errors.NoMemory = codes "no memory"
