use Rattle.std.proofs.Common.{length, drop}
use Rattle.turn_lock.proofs.held.Held.publish.Given as goal

abbrev pub ghosts-show : goal.ghosts-show
ghosts-show g a = record {
  more = drop (length a.pass.now.place.me.0.seen)
      (g.K.Kept.entries a.value.now);
}
