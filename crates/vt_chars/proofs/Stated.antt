-- The laws that other crates cite, as the functions state them.
pub use Rattle.vt_chars.proofs.Prefixes.{unfinished_begins}
pub use Rattle.vt_chars.proofs.for_laws.Cutting.{ascii_cuts, byte_more}
