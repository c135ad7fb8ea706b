-- The laws that other crates cite, as the functions state them.
pub use Rattle.key_syms.proofs.for_laws.Own.{code_points_are_their_own as names_are_their_own-code_points}
pub use Rattle.key_syms.proofs.for_laws.Own.{names_are_their_own as names_are_their_own-names}
