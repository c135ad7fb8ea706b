-- The results that are kept on the way through a list. No public clause names this.
use Rattle.std.specs.Prelude.{◌≡◌, ℕ, ◌≤◌, Result, List}
use Rattle.table_fields.specs.Collecting.{found_before}
use Rattle.table_fields.specs.declared.fault.TableFault.{TableFault}

-- these turns were found, and those of the rest of the list come after them
pub record TurnsSoFar (processes : ℕ) (bytes : List ℕ) (left whole : Result (List ℕ) TableFault) : Type 0 where
  pub found : List ℕ
  pub bytes_are : processes ≤ 64 → bytes ≡ found
  pub whole_is : found_before found left ≡ whole
