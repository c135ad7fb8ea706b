-- The laws that other crates cite, as the functions state them.
pub use Rattle.vt_switch.proofs.for_laws.Due.{hops_are_due as acts_tell_one_thing-due}
pub use Rattle.vt_switch.proofs.for_laws.Lawful.{display_law as each_hop_was_allowed}
pub use Rattle.vt_switch.proofs.for_laws.Lawful.{owners_stay_live as each_target_was_asked_for-owners}
pub use Rattle.vt_switch.proofs.for_laws.Lawful.{target_law as each_target_was_asked_for-asked}
pub use Rattle.vt_switch.proofs.for_laws.Marks.{hops_of_marks as acts_tell_one_thing-hop}
pub use Rattle.vt_switch.proofs.for_laws.Told.{one_news_is_told as acts_tell_one_thing-news}
