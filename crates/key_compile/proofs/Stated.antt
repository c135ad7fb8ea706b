-- The laws that other crates cite, as the functions state them.
pub use Rattle.key_compile.proofs.for_laws.Same.{one_value}
