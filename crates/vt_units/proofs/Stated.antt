-- The laws that other crates cite, as the functions state them.
pub use Rattle.vt_units.proofs.Comes.{sequences_are_units}
pub use Rattle.vt_units.proofs.Printables.{controls_are_units, printables_are_characters}
pub use Rattle.vt_units.proofs.for_laws.Prints.{texts_spell as texts_spell_characters}
