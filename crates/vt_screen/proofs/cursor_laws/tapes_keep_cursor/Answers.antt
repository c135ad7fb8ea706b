use Rattle.vt_screen.proofs.for_laws.TapeInside.{tapes_keep_cursor}
use Rattle.vt_screen.proofs.cursor_laws.tapes_keep_cursor.Goals as goal

pub returns : goal.returns
returns c = tapes_keep_cursor
