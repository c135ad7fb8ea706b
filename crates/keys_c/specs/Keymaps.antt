-- The tables of a keymap text, with texts that it may include.
use Rattle.std.specs.Prelude.{◌≡◌, ℕ, List, [], ◌∷◌, Option, Some, None, Result, Ok, Err}
use Rattle.key_compile.specs.Compiled.{AreTablesOf}
use Rattle.key_compile.specs.Faults.{compile_fault}
use Rattle.key_tables.specs.Tables.{Tables}
use Rattle.key_text.specs.Fault.{◌>>=◌}
use Rattle.key_text.specs.Included.{Named, with_text}
use Rattle.key_text.specs.KeymapLine.{KeymapLine}
use Rattle.key_text.specs.Reading.{lines_within}
use Rattle.key_text.specs.declared.fault.KeyError.{KeyError}
use Rattle.key_text.specs.declared.fault.KeyError.TheVariants as errors
use Rattle.key_text.specs.declared.fault.KeyFault.{KeyFault}
use Rattle.keys_c.specs.KeyboardView.{KeyboardView, start_keyboard}
use Rattle.c_calls.specs.declared.vt_fault.VtFault.{VtFault}
use Rattle.keys_c.specs.declared.vt_text.VtText.{VtText}

-- the texts that C gives, after those that are there; of two texts with the same name the first counts
abbrev pub with_texts : List Named → List VtText → List Named
with_texts named [] = named
with_texts named (t ∷ texts) = with_texts (with_text t.name.now t.text.now named) texts

-- the lines, or the fault that they have together
abbrev pub lines_unless : List KeymapLine → Option KeyFault → Result (List KeymapLine) KeyFault
lines_unless lines None = Ok lines
lines_unless lines (Some f) = Err f

-- the most bytes of the included texts of a keymap together: 4 MiB
abbrev pub MOST_INCLUDED : ℕ
MOST_INCLUDED = 4194304

-- the lines of a keymap, or its first fault: that of a line, or else that of the lines together
abbrev pub keymap_of : List VtText → List ℕ → Result (List KeymapLine) KeyFault
keymap_of texts text =
    lines_within MOST_INCLUDED (with_texts [] texts) text >>= λ lines. lines_unless lines (compile_fault lines)

-- the tables of a keymap that has no fault
pub record AreTablesIn (texts : List VtText) (text : List ℕ) (tables : Tables) : Type 0 where
  pub lines : List KeymapLine
  pub read : keymap_of texts text ≡ Ok lines
  pub compiled : AreTablesOf lines tables

-- the result of compiling: the tables, the first fault, or no memory
abbrev pub Compiles : List VtText → List ℕ → Result Tables KeyError → Type 0
Compiles texts text (Ok tables) = AreTablesIn texts text tables
Compiles texts text (Err (errors.Fault f)) = keymap_of texts text ≡ Err f
Compiles texts text (Err errors.NoMemory) = Unit {0}

-- the fault as C gets it
abbrev pub fault_of : VtFault → KeyFault
fault_of f = record { kind = f.kind; line = f.line; column = f.column }

-- a keyboard at its start, by the tables of a keymap
pub record IsStartOf (texts : List VtText) (text : List ℕ) (k : KeyboardView) : Type 0 where
  pub tables : AreTablesIn texts text k.tables
  pub start : k ≡ start_keyboard k.tables
