use Rattle.vt_grid.proofs.grid.Grid.scroll_up.Given as goal

abbrev pub ghosts-scroll_up_alone : goal.ghosts-scroll_up_alone
ghosts-scroll_up_alone a = record { name = a.blank.name; parts = a.blank.parts }
