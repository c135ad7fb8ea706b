-- The bytes that a canvas keeps in addition to its screen, so that printing computes no attribute byte. No
-- public clause names this.
use Rattle.std.specs.Prelude.{◌≡◌, ℕ}
use Rattle.vt_canvas.specs.Screen.{IsWhole, Screen, erased_byte, printed_byte}

pub record IsKept (s : Screen) (attr erase : ℕ) : Type 0 where
  pub whole : IsWhole s
  pub printing : attr ≡ printed_byte s.state.pen.attr s.state.pen.look
  pub erasing : erase ≡ erased_byte s.state.pen.attr
