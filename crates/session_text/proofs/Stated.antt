-- The laws that other crates cite, as the functions state them.
use Rattle.session_text.proofs.for_laws.OneSession.{one_session as one_session_by}
use Rattle.session_text.specs.Sessions.{OneSession}
use Rattle.vt_journal.proofs.Stated.{one_call-cut, one_call-one}
pub use Rattle.session_text.proofs.WhosePrograms.{callers_have_programs}
pub use Rattle.session_text.proofs.for_laws.Waits.{waits_are_ended}

pub one_session : OneSession
one_session = one_session_by one_call-one one_call-cut
