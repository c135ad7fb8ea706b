use Rattle.vt_grid.proofs.rows.store.RowStore.scroll_down.Given as goal

abbrev pub ghosts-scroll_alone : goal.ghosts-scroll_alone
ghosts-scroll_alone a = record { name = a.blank.name; parts = a.blank.parts }
