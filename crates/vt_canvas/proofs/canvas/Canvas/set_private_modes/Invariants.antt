use Rattle.std.proofs.Common.{◌≡◌, drop}
use Rattle.vt_canvas.specs.Settings.{each, with_private_mode}
use Rattle.vt_canvas.proofs.canvas.Canvas.set_private_modes.Given as goal

abbrev pub invariant-loop-n : goal.invariant-loop-n
invariant-loop-n l = each (with_private_mode l.on) (drop l.n-index l.numbers) l.self ≡ each (with_private_mode l.on) l.numbers l.fn.self
