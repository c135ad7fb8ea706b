-- The laws that other crates cite, as the functions state them.
pub use Rattle.vt_journal.proofs.Saying.{one_journal as one_journal-one}
pub use Rattle.vt_journal.proofs.Spellings.{cut_parts as one_call-cut, spelled_once as one_call-one}
