-- The errors as texts. This project's own.
use Rattle.std.specs.Prelude.{ℕ, List, ◌++◌, codes, decimal}
use Rattle.table_fields.specs.declared.fault.TableError.{TableError}
use Rattle.table_fields.specs.declared.fault.TableError.TheVariants as errors
use Rattle.table_fields.specs.declared.fault.TableFault.{TableFault}

abbrev pub fault_text : TableFault → List ℕ
fault_text fault =
    codes "refused "
    ++ (decimal fault.kind ++ (codes " at " ++ (decimal fault.part ++ (codes ":" ++ decimal fault.item))))

abbrev pub error_text : TableError → List ℕ
error_text (errors.Fault fault) = fault_text fault
error_text errors.NoMemory = codes "no memory"
