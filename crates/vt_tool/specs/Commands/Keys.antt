-- The outcome of `keys`: docs/reference/keys.md.
use Rattle.std.specs.Prelude.{◌≡◌, ◌⊎◌, ℕ, List, [], Some, None, Result, Ok, Err, ⊤}
use Rattle.key_compile.specs.Compiled.{AreTablesOf}
use Rattle.key_compile.specs.Faults.{compile_fault}
use Rattle.key_tables.specs.Listing.{listing_of}
use Rattle.key_tables.specs.Tables.{Tables}
use Rattle.key_text.specs.Reading.{lines_of}
use Rattle.key_text.specs.KeymapLine.{KeymapLine}
use Rattle.key_text.specs.declared.fault.KeyError.{KeyError}
use Rattle.key_text.specs.declared.fault.KeyError.TheVariants as errors
use Rattle.key_text.specs.declared.fault.KeyFault.{KeyFault}
use Rattle.vt_tool.specs.Outcome.{Outcome, fine_text, no_text}
use Rattle.vt_tool.specs.declared.status.Status.TheVariants.{Refused}

-- the first fault of a keymap text: of its grammar, or of its lines
abbrev pub HasKeyFault : List ℕ → KeyFault → Type 0
HasKeyFault input fault =
    (lines_of [] input ≡ Err fault)
    ⊎ ((lines : List KeymapLine) × (lines_of [] input ≡ Ok lines) × (compile_fault lines ≡ Some fault))

-- the tables of a keymap text without a fault; no text is included
pub record AreTablesIn (input : List ℕ) (tables : Tables) : Type 0 where
  pub lines : List KeymapLine
  pub read : lines_of [] input ≡ Ok lines
  pub fine : compile_fault lines ≡ None
  pub compiled : AreTablesOf lines tables

-- the result of a call is the tables of a keymap text, or its first fault, unless memory ran out
abbrev pub ReadsKeymap : List ℕ → Result Tables KeyError → Type 0
ReadsKeymap input (Ok tables) = AreTablesIn input tables
ReadsKeymap input (Err (errors.Fault fault)) = HasKeyFault input fault
ReadsKeymap input (Err errors.NoMemory) = ⊤

-- the listing of the tables of a keymap text; no text is included
pub record GivesListing (input : List ℕ) (outcome : Outcome) : Type 0 where
  pub lines : List KeymapLine
  pub tables : Tables
  pub read : lines_of [] input ≡ Ok lines
  pub fine : compile_fault lines ≡ None
  pub compiled : AreTablesOf lines tables
  pub listed : outcome ≡ fine_text (listing_of tables)

-- the keymap text is refused at its first fault
pub record GivesKeyFault (input : List ℕ) (outcome : Outcome) : Type 0 where
  pub fault : KeyFault
  pub found : HasKeyFault input fault
  pub refused : outcome ≡ no_text (Refused fault.kind fault.line fault.column)
