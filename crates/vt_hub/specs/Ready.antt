-- A pass with which a call may be made. This project's own.
use Rattle.std.specs.Prelude.{◌≡◌, Bool, false, None}
use Rattle.atomic_table.specs.Seated.{TableId}
use Rattle.vt_events.specs.Waits.{is_wait}
use Rattle.vt_hub.specs.Histories.{awaits}
use Rattle.vt_hub.specs.Views.{PassView}
use Rattle.vt_hub.specs.declared.answer.Answer.{Answer}
use Rattle.vt_hub.specs.declared.answer.Answer.TheVariants as answer

-- a pass of this hub, whose last call was answered "wait" only if this is true, or which met a stop
pub record IsReady (here : TableId) (waits : Bool) (v : PassView) : Type 0 where
  pub own : v.hub ≡ here
  pub free : waits ≡ false → v.stop ≡ None → awaits v.mine ≡ false

-- the answer is "wait"
abbrev pub is_told_to_wait : Answer → Bool
is_told_to_wait (answer.Done place r) = is_wait r
is_told_to_wait (answer.Full full) = false
