-- The answers to a call of the hub, and the knowledge of its pass then. This project's own.
use Rattle.std.specs.Prelude.{◌≡◌, ℕ, true, false, List, [], ◌∷◌, ◌++◌, length, Some, None}
use Rattle.turn_lock.specs.declared.seal.Seal.{Seal}
use Rattle.vt_events.specs.Charge.{charge_of}
use Rattle.vt_events.specs.Plain.{plain_reply}
use Rattle.vt_events.specs.declared.entry.Entry.{Entry}
use Rattle.vt_events.specs.declared.event.Event.{Event}
use Rattle.vt_events.specs.declared.reply.Reply.{Reply}
use Rattle.vt_hub.specs.Histories.{BeginsWith, IsRead, awaits, made_by}
use Rattle.vt_hub.specs.Views.{PassView}
use Rattle.vt_hub.specs.Waiters.{AreAll, AreEnded}
use Rattle.vt_hub.specs.declared.answer.Answer.{Answer}
use Rattle.vt_hub.specs.declared.answer.Answer.TheVariants as answer
use Rattle.vt_hub.specs.declared.turned.Turned.{Turned}
use Rattle.vt_hub.specs.declared.turned.Turned.TheVariants as turned
use Rattle.vt_journal.specs.Room.{full_at, has_room}
use Rattle.vt_journal.specs.declared.full.Full.{Full}
use Rattle.vt_journal.specs.declared.limits.Limits.{Limits}
use Rattle.vt_world.specs.History.{IsLegal, replay}
use Rattle.vt_world.specs.State.{WorldState, is_waiting}

-- the call e of the pass v was entered and answered r: w is the pass after it, which has seen the
-- legal history that ends with this entry at its place. There was room, no stop, and no open ticket
pub record Called (start : WorldState) (most : Limits) (e : Event) (v w : PassView) (place : ℕ) (r : Reply) : Type 0 where
  pub hub : w.hub ≡ v.hub
  pub number : w.number ≡ v.number
  pub known : w.known ≡ v.known
  pub read : w.read ≡ v.read
  -- what others entered since
  pub between : List Entry
  pub entry : Entry
  pub seen : w.seen ≡ (v.seen ++ between) ++ entry ∷ []
  pub at : place ≡ length (v.seen ++ between)
  pub caller : entry.caller ≡ v.number
  pub event : entry.event ≡ e
  pub reply : plain_reply entry.reply ≡ plain_reply r
  pub mine : w.mine ≡ v.mine ++ entry ∷ []
  pub before : v.mine ≡ made_by v.number (v.seen ++ between)
  pub own : w.mine ≡ made_by w.number w.seen
  pub legal : IsLegal start w.seen
  pub room : has_room most (v.seen ++ between) (charge_of e) ≡ true
  pub free : is_waiting (replay start (v.seen ++ between)) v.number ≡ false
  pub met : v.stop ≡ None
  pub goes_on : w.stop ≡ None
  pub word : IsRead start w.seen v.known
  -- what the pass had read of the history stands
  pub kept : BeginsWith w.seen v.read

-- the call e of the pass v found the hub stopped, or no room, which stops it: w is the pass after it,
-- which has seen the history that stands, and it made no entry
pub record Stopped (start : WorldState) (most : Limits) (e : Event) (v w : PassView) (full : Full) : Type 0 where
  pub hub : w.hub ≡ v.hub
  pub number : w.number ≡ v.number
  pub known : w.known ≡ v.known
  pub read : w.read ≡ v.read
  pub mine : w.mine ≡ v.mine
  -- what others entered since
  pub later : List Entry
  pub seen : w.seen ≡ v.seen ++ later
  pub own : w.mine ≡ made_by w.number w.seen
  pub legal : IsLegal start w.seen
  -- the caller whose call found no room
  pub by : ℕ
  pub met : w.stop ≡ Some (record { by = by; what = full })
  -- a pass that has met it is answered the same again, and nothing was entered since
  pub again : (z : Seal Full) → v.stop ≡ Some z
      → (z ≡ record { by = by; what = full }) × (w.seen ≡ v.seen)
  pub numbers : full ≡ full_at w.seen full.charge
  pub no_room : has_room most w.seen full.charge ≡ false
  pub charge : v.stop ≡ None → by ≡ v.number → full.charge ≡ charge_of e
  pub goes : is_waiting (replay start w.seen) by ≡ false
  pub word : IsRead start w.seen v.known
  -- what the pass had read of the history stands
  pub kept : BeginsWith w.seen v.read

-- the answer to the call e of the pass v
abbrev pub Answers : WorldState → Limits → Event → PassView → PassView → Answer → Type 0
Answers start most e v w (answer.Done place reply) = Called start most e v w place reply
Answers start most e v w (answer.Full full) = Stopped start most e v w full

-- the pass v looked and found its caller's ticket open: w is the pass after it, which made no entry
pub record Waited (start : WorldState) (v w : PassView) : Type 0 where
  pub hub : w.hub ≡ v.hub
  pub number : w.number ≡ v.number
  pub known : w.known ≡ v.known
  pub read : w.read ≡ v.read
  pub mine : w.mine ≡ v.mine
  pub later : List Entry
  pub seen : w.seen ≡ v.seen ++ later
  pub met : v.stop ≡ None
  pub goes_on : w.stop ≡ None
  pub waits : awaits v.mine ≡ true
  -- the ticket is open in the history that the pass has seen
  pub still : is_waiting (replay start w.seen) v.number ≡ true

-- the set is that of the processes whose tickets the last entry ended of those that the pass has seen
pub record WakesEnded (start : WorldState) (w : PassView) (set : ℕ) : Type 0 where
  pub before : List Entry
  pub entry : Entry
  pub seen : w.seen ≡ before ++ entry ∷ []
  pub ended : AreEnded (replay start before) (replay start w.seen) set

-- the result of one turn of the pass v with the call e: an answer with those that were woken, which are all processes
-- if the hub has stopped; or none while its caller's ticket is open
abbrev pub Turns : WorldState → Limits → Event → PassView → PassView → Turned → Type 0
Turns start most e v w (turned.Done place reply woken) =
    Called start most e v w place reply × WakesEnded start w woken.bits
Turns start most e v w (turned.Full full woken) = Stopped start most e v w full × AreAll woken.bits
Turns start most e v w turned.Waits = Waited start v w
