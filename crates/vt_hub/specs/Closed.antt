-- The result of closing a hub. This project's own.
use Rattle.std.specs.Prelude.{◌≡◌, ◌<◌, ◌↔◌, ℕ, List, [], Option, Some, None, option_map, slice_get, false}
use Rattle.std.specs.List.{All}
use Rattle.turn_lock.specs.declared.seal.Seal.{Seal}
use Rattle.vt_events.specs.declared.entry.Entry.{Entry}
use Rattle.vt_hub.specs.Histories.{BeginsWith, IsFree, IsRead, made_by}
use Rattle.vt_hub.specs.Views.{PassView, StewardView, stand_at}
use Rattle.vt_hub.specs.declared.pass_place.PassPlace.TheVariants.{Unmade}
use Rattle.vt_journal.specs.Log.{Logged}
use Rattle.vt_journal.specs.Room.{IsWithin, full_at, has_room}
use Rattle.vt_journal.specs.declared.full.Full.{Full}
use Rattle.vt_journal.specs.declared.limits.Limits.{Limits}
use Rattle.vt_switch.specs.Law.{IsLawful}
use Rattle.vt_world.specs.History.{IsLegal, replay}
use Rattle.vt_world.specs.Laws.{IsStart, moments}
use Rattle.vt_world.specs.State.{WorldState, is_waiting}
use Rattle.vt_world.specs.Tapes.{screen_of, tape_of}
use Rattle.vt_world.specs.Terminals.{emu_of, terminal_at}

-- the knowledge of a joined pass is true: its entries are all of its number, and a stop that it met is
-- the one of the hub, at which it had seen everything
pub record IsPart (start : WorldState) (history : List Entry) (stop : Option Full) (x : PassView) : Type 0 where
  pub seen : BeginsWith history x.seen
  pub mine : x.mine ≡ made_by x.number history
  pub word : IsRead start history x.known
  pub read : BeginsWith history x.read
  pub met : (z : Seal Full) → x.stop ≡ Some z → (stop ≡ Some z.what) × (x.seen ≡ history)

-- the hub stopped here: by the call of a pass that has met it and was joined, whose caller has no open
-- ticket, and which found no room
pub record IsStopped (most : Limits) (world : WorldState) (history : List Entry) (joined : List PassView) (full : Full) : Type 0 where
  pub place : ℕ
  pub pass : PassView
  pub here : slice_get joined place ≡ Some pass
  pub met : pass.stop ≡ Some (record { by = pass.number; what = full })
  pub goes : is_waiting world pass.number ≡ false
  pub numbers : full ≡ full_at history full.charge
  pub no_room : has_room most history full.charge ≡ false

-- the result for the steward s when the hub closes: the one history, with the world after it, and where
-- it stopped, if it did
pub record IsWhole (start : WorldState) (most : Limits) (s : StewardView) (world : WorldState) (log : Logged) (stop : Option Full) : Type 0 where
  pub legal : IsLegal start log.entries
  pub replayed : world ≡ replay start log.entries
  pub free : IsFree start log.entries
  pub limits : log.limits ≡ most
  pub within : IsWithin most log.entries
  pub seen : BeginsWith log.entries s.seen
  pub word : IsRead start log.entries s.known
  pub read : BeginsWith log.entries s.read
  pub parts : All (IsPart start log.entries stop) s.joined
  -- a number of which no pass was made has no entry
  pub unmade : (n : ℕ) → stand_at s.stands n ≡ Unmade → made_by n log.entries ≡ []
  pub stops : (full : Full) → stop ≡ Some full → IsStopped most world log.entries s.joined full
  -- it didn't stop exactly if no pass met a stop
  pub unstopped : (stop ≡ None) ↔ All (λ x. x.stop ≡ None) s.joined
  -- the display law, if nothing waited for the display of the world that was opened
  pub lawful : start.display.pending ≡ None → IsLawful (moments start log.entries)
  -- the screen law, if the world that was opened was a start: the screen of each console, with the
  -- rest of its text, is its tape, run from the start screen
  pub screens : IsStart start → (c : ℕ) → c < 64
      → emu_of (terminal_at world.terminals c)
      ≡ option_map (screen_of start.rows start.cols) (tape_of c start log.entries)
