use Rattle.cell_tests.proofs.tests.grids.stores.rows_are_written_and_moved.Given as goal

abbrev pub ghosts-driven : goal.ghosts-driven
ghosts-driven g a = record { name = a.blank.name; parts = a.blank.parts }
