-- A pass that looked again and again while its caller's ticket was open.
use Rattle.std.proofs.Common.{◌≡◌, List, ◌++◌, Some}
use Rattle.turn_lock.specs.declared.seal.Seal.{Seal}
use Rattle.vt_events.specs.declared.entry.Entry.{Entry}
use Rattle.vt_hub.specs.Views.{PassView}
use Rattle.vt_journal.specs.declared.full.Full.{Full}

-- w is the pass v after such looks
pub record Between (v w : PassView) : Type 0 where
  pub hub : w.hub ≡ v.hub
  pub number : w.number ≡ v.number
  pub known : w.known ≡ v.known
  pub read : w.read ≡ v.read
  pub mine : w.mine ≡ v.mine
  pub stop : w.stop ≡ v.stop
  pub later : List Entry
  pub seen : w.seen ≡ v.seen ++ later
  pub halted : (z : Seal Full) → v.stop ≡ Some z → w.seen ≡ v.seen
