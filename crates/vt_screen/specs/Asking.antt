-- How often a text requests another console.
use Rattle.std.specs.Prelude.{ℕ, Bool, true, false, ◌+◌, ◌*◌, ◌≤◌, List, length, count_by}
use Rattle.vt_screen.specs.Run.{outs_of_run}
use Rattle.vt_canvas.specs.Screen.{Screen}
use Rattle.vt_canvas.specs.declared.out.Out.{Out}
use Rattle.vt_canvas.specs.declared.out.Out.TheVariants.{Bell, Lights, Report, SwitchLast, SwitchTo}
use Rattle.vt_units.specs.Run.{Reached}

-- a request for the console of a number, or for the previous one
abbrev pub asks : Out → Bool
asks (SwitchTo n) = true
asks SwitchLast = true
asks (Report text) = false
asks (Lights which) = false
asks Bell = false

-- how many requests are among these
abbrev pub requests : List Out → ℕ
requests outs = count_by asks outs

-- a request has at least four bytes, of which at most three are in the rest of an earlier text
abbrev pub RequestsAreFew : Type 0
RequestsAreFew =
    (m : Reached Screen) (bytes : List ℕ) → 4 * requests (outs_of_run m bytes) ≤ length bytes + 3
