-- A judge on its way through a journal. No public clause names this.
use Rattle.std.specs.Prelude.{◌≡◌, ℕ, ◌≤◌, false, List, length, Some}
use Rattle.session_order.specs.Calls.{next_by}
use Rattle.session_order.specs.Ends.{Setup}
use Rattle.session_order.specs.Follows.{is_waiting}
use Rattle.session_order.specs.Sessions.{AreOfCallers}
use Rattle.session_order.specs.Standing.{AreAfter}
use Rattle.vt_check.specs.Verdicts.{AllPass}
use Rattle.vt_check.specs.declared.judge.Judge.{Judge}
use Rattle.vt_events.specs.Charge.{charge_of}
use Rattle.vt_events.specs.declared.entry.Entry.{Entry}
use Rattle.vt_events.specs.declared.event.Event.{Event}
use Rattle.vt_journal.specs.Log.{charge_of_all}
use Rattle.vt_world.specs.History.{replay}

-- the judge is one of a session that begins so, and has taken this history, of which each entry passes
pub record IsAfter (o : Setup) (h : List Entry) (j : Judge) : Type 0 where
  pub limits : j.limits ≡ o.limits
  pub few : o.limits.events ≤ 1000000
  pub programs : j.programs.now ≡ o.programs
  pub callers : AreOfCallers o.programs
  pub replayed : j.world ≡ replay o.start h
  pub standing : AreAfter o.programs h j.standing
  pub events : j.events ≡ length h
  pub bytes : j.bytes ≡ charge_of_all h
  pub passed : AllPass o h

-- a caller that doesn't wait has a next call of this charge
pub record HasCall (o : Setup) (h : List Entry) (caller charge : ℕ) : Type 0 where
  pub call : Event
  pub next : next_by o.programs caller h ≡ Some call
  pub goes : is_waiting (replay o.start h) caller ≡ false
  pub charge_is : charge_of call ≡ charge
