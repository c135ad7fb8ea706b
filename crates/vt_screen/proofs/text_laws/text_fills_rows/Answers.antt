use Rattle.vt_cells.proofs.Stated.{columns_are_few-low}
use Rattle.vt_grid.proofs.Stated.{run_is_its_cells-more, run_is_its_cells-none}
use Rattle.vt_screen.proofs.for_laws.TextEnds.{text_fills_rows, text_scrolls}
use Rattle.vt_units.proofs.Stated.{printables_are_characters}
use Rattle.vt_screen.proofs.text_laws.text_fills_rows.Goals as goal

pub returns-clause-fits : goal.returns-clause-fits
returns-clause-fits c =
    text_fills_rows run_is_its_cells-none run_is_its_cells-more columns_are_few-low printables_are_characters

pub returns-clause-scrolls : goal.returns-clause-scrolls
returns-clause-scrolls c =
    text_scrolls run_is_its_cells-none run_is_its_cells-more columns_are_few-low printables_are_characters
