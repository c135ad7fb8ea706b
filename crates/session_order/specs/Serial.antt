-- The serial schedule: the turns, and then rounds of all callers, one call after another. This
-- project's own.
use Rattle.std.specs.Prelude.{◌≡◌, ℕ, zero, suc, ◌==◌, ◌||◌, Bool, true, List, [], ◌∷◌, ◌++◌, count_by, Option, Some, None, is_some, if◌then◌else◌}
use Rattle.std.specs.List.{range_with_len}
use Rattle.session_order.specs.Calls.{all_over, next_by}
use Rattle.session_order.specs.Ends.{Setup}
use Rattle.vt_journal.specs.Room.{full_at, has_room, tail_at}
use Rattle.session_order.specs.Follows.{is_waiting}
use Rattle.vt_base.specs.Limits.{callers as every_caller}
use Rattle.vt_events.specs.Charge.{charge_of}
use Rattle.vt_events.specs.declared.entry.Entry.{Entry}
use Rattle.vt_events.specs.declared.event.Event.{Event}
use Rattle.vt_journal.specs.declared.full.Full.{Full}
use Rattle.vt_journal.specs.declared.tail.Tail.{Tail}
use Rattle.vt_world.specs.History.{replay}
use Rattle.vt_world.specs.State.{WorldState}
use Rattle.vt_world.specs.Step.{step}

-- a play on its way: the history so far, and the call that found no room, if it has stopped
pub record Played : Type 0 where
  pub history : List Entry
  pub stop : Option Full

abbrev pub nothing_played : Played
nothing_played = record { history = []; stop = None }

-- the entry of p's call e directly after a history, with the machine's answer
abbrev pub entry_at : WorldState → List Entry → ℕ → Event → Entry
entry_at start history p e = record {
  caller = p;
  seq = count_by (λ earlier. earlier.caller == p) history;
  event = e;
  reply = (step (replay start history) p e).reply;
}

-- the call that p can make after a history: none while its ticket is open
abbrev pub call_now : Setup → List Entry → ℕ → Option Event
call_now o history p =
    if is_waiting (replay o.start history) p then None else next_by o.programs p history

-- p makes its call, or the play stops because that finds no room; a caller without a call is skipped
abbrev pub calls : Setup → ℕ → Option Event → List Entry → Played
calls o p None history = record { history = history; stop = None }
calls o p (Some e) history =
    if has_room o.limits history (charge_of e)
    then record { history = history ++ entry_at o.start history p e ∷ []; stop = None }
    else record { history = history; stop = Some (full_at history (charge_of e)) }

-- the turn of p: if the play has stopped, nothing is called any more
abbrev pub turn : Setup → ℕ → Played → Played
turn o p t = if is_some t.stop then t else calls o p (call_now o t.history p) t.history

-- one turn after another
abbrev pub turns : Setup → List ℕ → Played → Played
turns o [] t = t
turns o (p ∷ callers) t = turns o callers (turn o p t)

-- a round: a turn of each caller, rising; a caller without a program is skipped
abbrev pub round : Setup → Played → Played
round o t = turns o (range_with_len 0 every_caller) t

abbrev pub rounds : Setup → ℕ → Played → Played
rounds o zero t = t
rounds o (suc n) t = rounds o n (round o t)

-- the play has stopped, or every program is over
abbrev pub is_finished : Setup → Played → Bool
is_finished o t = is_some t.stop || all_over o.programs t.history

-- the play of the schedule: the turns that are given come first, and then as many rounds as it takes
pub record IsSerial (o : Setup) (first : List ℕ) (t : Played) : Type 0 where
  pub count : ℕ
  pub played : t ≡ rounds o count (turns o first nothing_played)
  pub finished : is_finished o t ≡ true

-- how the journal of a play ends
abbrev pub tail_of : Played → Tail
tail_of t = tail_at t.history t.stop
