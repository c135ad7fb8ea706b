-- The laws that other crates cite, as the functions state them.
pub use Rattle.vt_grid.proofs.Joins.{ends_are_whole, stretches_join}
pub use Rattle.vt_grid.proofs.for_laws.Runs.{run_of_more as run_is_its_cells-more, run_of_none as run_is_its_cells-none}
