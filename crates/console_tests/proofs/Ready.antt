-- A pass after a turn.
use Rattle.std.proofs.Common.{◌≡◌, ℕ, false, ◌∙◌}
use Rattle.atomic_table.specs.Seated.{TableId}
use Rattle.cooked.specs.Cooked.{Typing}
use Rattle.cooked.specs.Turn.{Turns}
use Rattle.cooked.specs.declared.turn.Turn.{Turn}
use Rattle.vt_hub.specs.Ready.{IsReady}
use Rattle.vt_hub.specs.Views.{PassView}
use Rattle.vt_world.specs.State.{WorldState}

pub ready_turned : (start : WorldState) (fd : ℕ) (old new : Typing) (turn : Turn) (here : TableId) (v w : PassView)
    → v.hub ≡ here → Turns start fd old new turn v w → IsReady here false w
ready_turned start fd old new turn here v w own turns = record {
  own = turns.goes_on.hub ∙ own;
  free = λ goes met. turns.free met;
}
