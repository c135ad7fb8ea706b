-- The value under the lock of a hub, and the result of a look at it. This project's own.
use Rattle.std.specs.Prelude.{◌≡◌, ◌<◌, ◌≤◌, ℕ, true, false, List, [], ◌∷◌, ◌++◌, length, Option, Some, None}
use Rattle.turn_lock.specs.declared.seal.Seal.{Seal}
use Rattle.vt_events.specs.Charge.{charge_of}
use Rattle.vt_events.specs.Plain.{plain_reply}
use Rattle.vt_events.specs.declared.entry.Entry.{Entry}
use Rattle.vt_events.specs.declared.event.Event.{Event}
use Rattle.vt_events.specs.declared.reply.Reply.{Reply}
use Rattle.vt_hub.specs.Histories.{IsFree, awaits, made_by}
use Rattle.vt_hub.specs.declared.look.Look.{Look}
use Rattle.vt_hub.specs.declared.look.Look.TheVariants as look
use Rattle.vt_hub.specs.declared.state.State.{State}
use Rattle.vt_hub.specs.Waiters.{AreEnded, AreOpen}
use Rattle.vt_journal.specs.Log.{Logged}
use Rattle.vt_journal.specs.Room.{full_at, has_room}
use Rattle.vt_journal.specs.declared.full.Full.{Full}
use Rattle.vt_journal.specs.declared.limits.Limits.{Limits}
use Rattle.vt_world.specs.History.{IsLegal, replay}
use Rattle.vt_world.specs.Laws.{DisplaysAreLawfulFrom}
use Rattle.vt_world.specs.State.{WorldState, is_waiting}

-- the world, the log, where the hub stopped, and the set of the processes whose tickets are open
pub record SharedView : Type 0 where
  pub world : WorldState
  pub log : Logged
  pub stop : Option (Seal Full)
  pub waits : ℕ

-- the state under the lock, as contracts see it
abbrev pub shared_view : State → SharedView
shared_view s = record { world = s.world; log = s.log; stop = s.stop; waits = s.waits.bits }

-- a stop has the numbers of this history, its charge finds no room, and its caller has no open ticket
pub record IsStop (most : Limits) (w : WorldState) (history : List Entry) (stop : Seal Full) : Type 0 where
  pub numbers : stop.what ≡ full_at history stop.what.charge
  pub no_room : has_room most history stop.what.charge ≡ false
  pub goes : is_waiting w stop.by ≡ false

-- the log is legal from the world that was opened, and within these limits; the world is its replay; the set
-- is that of the processes whose tickets are open
pub record IsSound (start : WorldState) (most : Limits) (v : SharedView) : Type 0 where
  pub legal : IsLegal start v.log.entries
  pub replayed : v.world ≡ replay start v.log.entries
  pub free : IsFree start v.log.entries
  pub limits : v.log.limits ≡ most
  pub rows : v.world.rows ≡ start.rows
  pub cols : v.world.cols ≡ start.cols
  pub display_low : 0 < start.display.front
  pub display_high : start.display.front < 64
  pub shown_low : 0 < v.world.display.front
  pub shown_high : v.world.display.front < 64
  -- the display law of every history from the world that was opened
  pub lawful : DisplaysAreLawfulFrom start
  -- a caller with an open ticket was answered "wait" last
  pub tickets : (p : ℕ) → is_waiting v.world p ≡ true → awaits (made_by p v.log.entries) ≡ true
  pub waits : AreOpen v.world v.waits
  pub stops : (z : Seal Full) → v.stop ≡ Some z → IsStop most v.world v.log.entries z

-- the call e of caller p was entered as its entry of this number, and answered r
pub record Enters (p : ℕ) (seq : ℕ) (e : Event) (v w : SharedView) (place : ℕ) (r : Reply) : Type 0 where
  pub entry : Entry
  pub entries : w.log.entries ≡ v.log.entries ++ entry ∷ []
  pub at : place ≡ length v.log.entries
  pub caller : entry.caller ≡ p
  pub number : entry.seq ≡ seq
  pub event : entry.event ≡ e
  pub reply : plain_reply entry.reply ≡ plain_reply r
  pub room : has_room v.log.limits v.log.entries (charge_of e) ≡ true
  pub free : is_waiting v.world p ≡ false
  pub met : v.stop ≡ None
  pub goes_on : w.stop ≡ None
  pub few : length v.log.entries ≤ 1_000_000

-- the call e of caller p found a stop, or no room, which makes one
pub record Stops (p : ℕ) (e : Event) (v w : SharedView) (full : Full) : Type 0 where
  pub log : w.log ≡ v.log
  pub world : w.world ≡ v.world
  pub by : ℕ
  pub stop : w.stop ≡ Some (record { by = by; what = full })
  pub again : (z : Seal Full) → v.stop ≡ Some z → z ≡ record { by = by; what = full }
  pub first : v.stop ≡ None → (by ≡ p) × (full.charge ≡ charge_of e)

-- the ticket of caller p is open
pub record Waits (p : ℕ) (v w : SharedView) : Type 0 where
  pub same : w ≡ v
  pub met : v.stop ≡ None
  pub waits : is_waiting v.world p ≡ true

-- the result of a look of caller p with the call e. With the answer of a call that was entered come the
-- processes whose tickets this call ended
abbrev pub ComesTo : ℕ → ℕ → Event → SharedView → SharedView → Look → Type 0
ComesTo p seq e v w (look.Done place reply ended) =
    Enters p seq e v w place reply × AreEnded v.world w.world ended.set.bits
ComesTo p seq e v w (look.Full full) = Stops p e v w full
ComesTo p seq e v w look.Waits = Waits p v w
