-- The laws that other crates cite, as the functions state them.
pub use Rattle.vt_events.proofs.Calls.{parts-plain as parts_make_the_call}
