use Rattle.vt_screen.proofs.for_laws.PutBack.{restore_puts_back}
use Rattle.vt_screen.proofs.cursor_laws.restore_puts_back.Goals as goal

pub returns : goal.returns
returns c = restore_puts_back
