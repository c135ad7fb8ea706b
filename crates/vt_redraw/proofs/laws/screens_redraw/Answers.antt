use Rattle.vt_redraw.proofs.Stated.{screens_redraw-changes, screens_redraw-screens}
use Rattle.vt_redraw.proofs.laws.screens_redraw.Goals as goal

pub returns-clause-screens : goal.returns-clause-screens
returns-clause-screens c = screens_redraw-screens

pub returns-clause-changes : goal.returns-clause-changes
returns-clause-changes c = screens_redraw-changes
