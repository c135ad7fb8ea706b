-- Rows that are read one by one.
use Rattle.std.proofs.Common.{◌≡◌, ℕ, ◌≤◌, Option, List, ◌++◌, length, drop}
use Rattle.key_text.specs.Included.{Named}
use Rattle.key_text.specs.Reading.{Deeper, read_rows, start, with_lines}
use Rattle.key_text.specs.Rows.{rows_of}
use Rattle.key_text.specs.KeymapLine.{KeymapLine}
use Rattle.key_text.specs.declared.placed.Place.{Place}
use Rattle.key_text.specs.declared.tally.Tally.{Tally}

-- the lines of the rows before the one at `at` were added
pub record IsReading (deeper : Deeper) (texts : List Named) (outer : Option Place) (tally : Tally) (text : List ℕ) (old new : List KeymapLine) (so_far : Tally) (at : ℕ) (place : Place) : Type 0 where
  pub bound : at ≤ length text
  pub lines : List KeymapLine
  pub added : new ≡ old ++ lines
  pub same : with_lines lines (read_rows deeper texts outer so_far (rows_of place (drop at text))) ≡ read_rows deeper texts outer tally (rows_of start text)
