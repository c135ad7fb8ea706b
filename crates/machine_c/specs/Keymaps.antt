-- The tables of a keymap text that includes nothing.
use Rattle.std.specs.Prelude.{◌≡◌, ℕ, List, [], Option, Some, None, Result, Ok, Err}
use Rattle.key_compile.specs.Compiled.{AreTablesOf}
use Rattle.key_compile.specs.Faults.{compile_fault}
use Rattle.key_tables.specs.Tables.{Tables}
use Rattle.key_text.specs.Fault.{◌>>=◌}
use Rattle.key_text.specs.KeymapLine.{KeymapLine}
use Rattle.key_text.specs.Reading.{lines_of}
use Rattle.key_text.specs.declared.fault.KeyError.{KeyError}
use Rattle.key_text.specs.declared.fault.KeyError.TheVariants as errors
use Rattle.key_text.specs.declared.fault.KeyFault.{KeyFault}
use Rattle.c_calls.specs.declared.vt_fault.VtFault.{VtFault}

-- the lines, or the fault that they have together
abbrev pub lines_unless : List KeymapLine → Option KeyFault → Result (List KeymapLine) KeyFault
lines_unless lines None = Ok lines
lines_unless lines (Some f) = Err f

-- the lines of a keymap, or its first fault: that of a line, or else that of the lines together
abbrev pub keymap_of : List ℕ → Result (List KeymapLine) KeyFault
keymap_of text = lines_of [] text >>= λ lines. lines_unless lines (compile_fault lines)

-- the tables of a keymap that has no fault
pub record AreTablesIn (text : List ℕ) (tables : Tables) : Type 0 where
  pub lines : List KeymapLine
  pub read : keymap_of text ≡ Ok lines
  pub compiled : AreTablesOf lines tables

-- the result of compiling: the tables, the first fault, or no memory
abbrev pub Compiles : List ℕ → Result Tables KeyError → Type 0
Compiles text (Ok tables) = AreTablesIn text tables
Compiles text (Err (errors.Fault f)) = keymap_of text ≡ Err f
Compiles text (Err errors.NoMemory) = Unit {0}

-- the fault as C gets it
abbrev pub fault_of : VtFault → KeyFault
fault_of f = record { kind = f.kind; line = f.line; column = f.column }
