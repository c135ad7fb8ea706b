-- A play that goes on. No public clause names this.
use Rattle.std.specs.Prelude.{◌≡◌, ℕ, List}
use Rattle.session_order.specs.Ends.{Setup}
use Rattle.session_order.specs.Meant.{plain_history}
use Rattle.session_order.specs.Serial.{IsSerial, Played}
use Rattle.session_order.specs.Standing.{AreAfter}
use Rattle.session_run.specs.declared.player.Player.{Player}
use Rattle.vt_world.specs.History.{Leaves}

-- the player is at this point of a play
pub record IsAt (o : Setup) (t : Played) (p : Player) : Type 0 where
  pub history : plain_history p.log.entries ≡ t.history
  pub stop : p.stop ≡ t.stop
  pub limits : p.log.limits ≡ o.limits
  pub left : Leaves o.start t.history p.world
  pub standing : AreAfter o.programs t.history p.standing

-- the player is at the end of the play of the schedule
abbrev pub IsEnd : Setup → List ℕ → Player → Type 0
IsEnd o first p = (t : Played) × IsSerial o first t × IsAt o t p
