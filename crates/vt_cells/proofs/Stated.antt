-- The laws that other crates cite, as the functions state them.
pub use Rattle.vt_cells.proofs.Blocks.{plain_take as columns_are_few-plain}
pub use Rattle.vt_cells.proofs.Widths.{low as columns_are_few-low, most as columns_are_few-most}
pub use Rattle.vt_cells.proofs.Widths.{private_take as columns_are_few-private, worked as columns_are_few-worked}
