-- The laws that other crates cite, as the functions state them.
pub use Rattle.vt_screen.proofs.Cuts.{cuts as any_cut}
pub use Rattle.vt_screen.proofs.Falling.{row_cuts as any_row_cut}
