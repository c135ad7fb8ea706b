-- Calls that change a screen leave which consoles have one.
use Rattle.std.proofs.Common.{◌≡◌, ℕ, List, map, Option, None}
use Rattle.std.proofs.Math.Seq.{map-set_same}
use Rattle.std.specs.Prelude.{is_some, option_map}
use Rattle.vt_canvas.specs.Change.{Change}
use Rattle.vt_world.proofs.Places.{kept}
use Rattle.vt_world.specs.Terminals.{TerminalState, after_screen_change, altered_by, terminal_at}

pub altered_alike : (n : ℕ) (m : Change) (terminals : List (Option TerminalState))
    → map is_some (after_screen_change n m terminals) ≡ map is_some terminals
altered_alike n m terminals =
    map-set_same is_some terminals n (option_map (altered_by m) (terminal_at terminals n)) None
    (kept (altered_by m) (terminal_at terminals n))
