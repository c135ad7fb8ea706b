-- The tables of the lines of a keymap.
use Rattle.std.specs.Prelude.{◌≡◌, ℕ, ◌<◌, ◌≤◌, cond, [], Some, None, Result, Ok, Err, List}
use Rattle.key_tables.specs.Tables.{IsWhole, Tables, entry_of, exists_in, func_of, hole}
use Rattle.key_text.specs.KeymapLine.{KeymapLine}
use Rattle.key_text.specs.declared.fault.KeyError.{KeyError}
use Rattle.key_text.specs.declared.fault.KeyError.TheVariants as errors
use Rattle.key_compile.specs.Entries.{entry_in}
use Rattle.key_compile.specs.Faults.{compile_fault}
use Rattle.key_compile.specs.Pairs.{pairs_in}
use Rattle.key_compile.specs.Strings.{string_in}
use Rattle.key_compile.specs.Union.{is_declared}

-- the tables of the lines: the tables that exist, the action of each keycode from 1 to 255 in them, the
-- strings and the pairs; code 0 is no keycode
pub record AreTablesOf (lines : List KeymapLine) (tables : Tables) : Type 0 where
  pub whole : IsWhole tables
  pub exist : (t : ℕ) → t < 256 → exists_in tables t ≡ is_declared lines t
  pub entries :
      (t c : ℕ) → t < 256 → 1 ≤ c → c < 256
      → entry_of tables t c ≡ cond (is_declared lines t) (Some (entry_in lines t c)) None
  pub strings : (i : ℕ) → func_of tables i ≡ string_in lines i
  pub pairs : tables.pairs ≡ pairs_in lines

-- lines have one value of tables
abbrev pub OneValue : Type 0
OneValue = (lines : List KeymapLine) (a b : Tables) → AreTablesOf lines a → AreTablesOf lines b → a ≡ b

-- the declared tables exist, and nothing is set
pub record AreStart (lines : List KeymapLine) (tables : Tables) : Type 0 where
  pub exist : (t : ℕ) → t < 256 → exists_in tables t ≡ is_declared lines t
  pub entries : (t c : ℕ) → entry_of tables t c ≡ cond (exists_in tables t) (Some hole) None
  pub funcs : (i : ℕ) → func_of tables i ≡ []
  pub pairs : tables.pairs ≡ []

-- the lines have no fault and these are their tables; or this is their first fault
abbrev pub Compiles : List KeymapLine → Result Tables KeyError → Type 0
Compiles lines (Ok tables) = (compile_fault lines ≡ None) × AreTablesOf lines tables
Compiles lines (Err errors.NoMemory) = Unit {0}
Compiles lines (Err (errors.Fault f)) = compile_fault lines ≡ Some f
