use Rattle.vt_canvas.proofs.Start.{user_is}
use Rattle.vt_canvas.proofs.screen_state.start_map.Goals as goal

pub returns : goal.returns
returns c = user_is c.start.result c.start.ensures.bytes c.start.ensures.null
