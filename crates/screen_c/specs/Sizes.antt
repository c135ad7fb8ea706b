-- The sizes that a call accepts.
use Rattle.std.specs.Prelude.{ℕ, ◌≤◌}

-- a screen has 1 to 255 rows and columns
pub record IsSize (rows cols : ℕ) : Type 0 where
  pub some_rows : 1 ≤ rows
  pub few_rows : rows ≤ 255
  pub some_cols : 1 ≤ cols
  pub few_cols : cols ≤ 255
