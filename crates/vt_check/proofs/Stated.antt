-- The laws that other crates cite, as the functions state them.
pub use Rattle.vt_check.proofs.VerdictLaws.{one_verdict as one_verdict-one, verdict_is_right as one_verdict-right}
