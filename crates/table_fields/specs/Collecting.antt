-- The items that are collected along a list. No public clause names this.
use Rattle.std.specs.Prelude.{List, ◌++◌, Result, Ok, Err}
use Rattle.table_fields.specs.declared.fault.TableFault.{TableFault}

-- the items that are found, after those that were found before them
abbrev pub found_before : {B : Type 0} → List B → Result (List B) TableFault → Result (List B) TableFault
found_before found (Ok more) = Ok (found ++ more)
found_before found (Err e) = Err e
