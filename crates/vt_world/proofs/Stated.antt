-- The laws that other crates cite, as the functions state them.
use Rattle.vt_screen.proofs.for_laws.Tapes.{any_tape_cut, stretches_run}
use Rattle.vt_switch.proofs.Stated.{each_hop_was_allowed, each_target_was_asked_for-asked}
use Rattle.vt_world.proofs.for_laws.Displays.{displays_are_lawful, targets_are_explained}
use Rattle.vt_world.proofs.for_laws.Screens.{screens_are_tapes}
use Rattle.vt_world.specs.Laws.{DisplaysAreLawful, ScreensAreTapes, TargetsAreExplained}
pub use Rattle.vt_world.proofs.Histories.{nothing_is_legal as legal_grows-nothing, replay_grows as legal_grows-replay}
pub use Rattle.vt_world.proofs.Histories.{steps_are_entered as legal_grows-entered}
pub use Rattle.vt_world.proofs.for_laws.Admissions.{admissions_are_starts as rights_are_own-starts}
pub use Rattle.vt_world.proofs.for_laws.Admissions.{admissions_come_first as rights_are_own-first}
pub use Rattle.vt_world.proofs.for_laws.Called.{acts_are_calls as displays_are_lawful-calls}
pub use Rattle.vt_world.proofs.for_laws.Displays.{acts_make_cores as displays_are_lawful-acts}
pub use Rattle.vt_world.proofs.for_laws.Moments.{moments_grow as traces_tell_news-moments}
pub use Rattle.vt_world.proofs.for_laws.Opening.{nobody_waits_at_start, tickets_are_called}
pub use Rattle.vt_world.proofs.for_laws.Sizes.{sizes_stay}
pub use Rattle.vt_world.proofs.for_laws.Tellings.{traces_tell_news as traces_tell_news-news}
pub use Rattle.vt_world.proofs.for_laws.Traces.{traces_apply_marks_acts as displays_are_lawful-told}
pub use Rattle.vt_world.proofs.for_laws.Traces.{traces_apply_marks-hops as displays_are_lawful-hops}
pub use Rattle.vt_world.proofs.for_laws.Unchanged.{refusals_change_nothing as refused_calls_change_nothing-refused}
pub use Rattle.vt_world.proofs.for_laws.Untouched.{terminals_stay}

pub displays_are_lawful-lawful : DisplaysAreLawful
displays_are_lawful-lawful = displays_are_lawful each_hop_was_allowed

pub displays_are_lawful-waiting : TargetsAreExplained
displays_are_lawful-waiting = targets_are_explained each_target_was_asked_for-asked

pub screens_are_tapes-screens : ScreensAreTapes
screens_are_tapes-screens = screens_are_tapes stretches_run any_tape_cut
