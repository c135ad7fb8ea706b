use Rattle.vt_redraw.proofs.for_laws.Reached.{states_are_drawable, tape_states_are_drawable}
use Rattle.vt_redraw.proofs.laws.states_are_drawable.Goals as goal

pub returns : goal.returns
returns c = record { bytes = states_are_drawable; changes = tape_states_are_drawable }
