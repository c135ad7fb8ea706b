-- The laws of the serial schedule.
use Rattle.std.specs.Prelude.{◌≡◌, ◌⊎◌, ℕ, ◌+◌, ◌<◌, true, false, List, length, is_some}
use Rattle.key_tables.specs.Tables.{Tables}
use Rattle.session_order.specs.Ends.{Ends, Setup}
use Rattle.session_order.specs.Follows.{Follows}
use Rattle.session_order.specs.Serial.{IsSerial, Played, is_finished, nothing_played, round, rounds, tail_of, turns}
use Rattle.session_text.specs.Sessions.{ArePrograms}
use Rattle.vt_procs.specs.declared.proc_start.ProcStart.{ProcStart}
use Rattle.vt_world.specs.History.{IsLegal}
use Rattle.vt_world.specs.Start.{start_world}

-- a session begins at a start of the machine, with a program for each keyboard and each process
pub record IsFromStart (o : Setup) : Type 0 where
  pub rows : ℕ
  pub cols : ℕ
  pub consoles : ℕ
  pub front : ℕ
  pub keyboards : ℕ
  pub processes : List ProcStart
  pub tables : Tables
  pub start : o.start ≡ start_world rows cols consoles front keyboards processes tables
  pub programs : ArePrograms (length processes) keyboards o.programs

-- further rounds change nothing
abbrev pub FinishedStays : Type 0
FinishedStays =
    (o : Setup) (n : ℕ) (t : Played) → is_finished o t ≡ true → rounds o n t ≡ t

-- to play some rounds and then others is to play them all
abbrev pub RoundsAddUp : Type 0
RoundsAddUp =
    (o : Setup) (m n : ℕ) (t : Played) → rounds o (m + n) t ≡ rounds o n (rounds o m t)

-- the schedule plays one history
abbrev pub SerialIsOne : Type 0
SerialIsOne =
    (o : Setup) (first : List ℕ) (a b : Played) → IsSerial o first a → IsSerial o first b → a ≡ b

-- the play's history is legal, follows the programs and ends
pub record IsRight (o : Setup) (t : Played) : Type 0 where
  pub legal : IsLegal o.start t.history
  pub follows : Follows o.start o.programs t.history
  pub ends : Ends o t.history (tail_of t)

abbrev pub SerialIsRight : Type 0
SerialIsRight =
    (o : Setup) (first : List ℕ) (t : Played) → IsSerial o first t → IsRight o t

-- progress: if a play from a start isn't finished, a round makes an entry or stops it
abbrev pub RoundsGoOn : Type 0
RoundsGoOn =
    (o : Setup) (first : List ℕ) (n : ℕ) → IsFromStart o
    → let t : Played = rounds o n (turns o first nothing_played) in
    is_finished o t ≡ false
    → (length t.history < length (round o t).history) ⊎ (is_some (round o t).stop ≡ true)

-- so the play is finished after one round more than the limits allow entries
abbrev pub SerialEnds : Type 0
SerialEnds =
    (o : Setup) (first : List ℕ) → IsFromStart o
    → IsSerial o first (rounds o (o.limits.events + 1) (turns o first nothing_played))
