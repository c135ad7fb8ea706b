-- The end of a play, and its run.
use Rattle.std.proofs.Common.{◌≡◌, ℕ, ◌+◌, ◌<◌, true, false, ◌⊎◌, ⊎_elim, arith, List, length, sym, ap, ◌∙◌, subst}
use Rattle.std.proofs.lemmas.Bool.{cases_Bool, or_left}
use Rattle.std.specs.Prelude.{is_some}
use Rattle.session_order.specs.Calls.{all_over}
use Rattle.session_order.specs.Ends.{Ends, Setup}
use Rattle.session_order.specs.Laws.{FinishedStays, IsFromStart, IsRight, RoundsAddUp, RoundsGoOn, SerialIsRight}
use Rattle.session_order.specs.Meant.{EndsIsMeant, FollowsIsMeant, LegalIsMeant, ReplayIsMeant}
use Rattle.session_order.specs.Follows.{Follows}
use Rattle.session_order.specs.Serial.{IsSerial, Played, is_finished, nothing_played, round, rounds, turns}
use Rattle.session_order.specs.Sessions.{IsRightHistory, LegalAreRight, setup_of, start_of}
use Rattle.session_run.specs.Playing.{IsAt, IsEnd}
use Rattle.session_run.specs.Runs.{IsRightRun, run_result}
use Rattle.session_run.specs.declared.player.Player.{Player}
use Rattle.session_text.specs.Sessions.{SessionView}
use Rattle.vt_events.specs.declared.entry.Entry.{Entry}
use Rattle.vt_hub.specs.declared.run.Run.{Run}
use Rattle.vt_journal.specs.Room.{tail_at}
use Rattle.vt_world.specs.History.{IsLegal, replay}
use Rattle.session_run.proofs.Turns.{lengths}

not_longer : (m n : ℕ) → m < n → n ≡ m → ⊥
not_longer m n more same = omega (arith, more, same)

-- a round in which the play stopped is its last one
pub round_stops : RoundsAddUp → (o : Setup) (first : List ℕ) (k : ℕ) (u : Played) (view : Player)
    → u ≡ round o (rounds o k (turns o first nothing_played)) → IsAt o u view
    → is_some view.stop ≡ true → IsEnd o first view
round_stops sum o first k u view is at stopped =
    let serial : IsSerial o first u = record {
      count = k + 1;
      played = is ∙ sym (sum o k 1 (turns o first nothing_played));
      finished = or_left (is_some u.stop) (all_over o.programs u.history) (sym (ap is_some at.stop) ∙ stopped);
    } in
    (u, serial, at)

-- and so is one that made no entry
pub round_stays : FinishedStays → RoundsAddUp → RoundsGoOn → (o : Setup) (first : List ℕ) (k : ℕ) (t u : Played) (before view : Player)
    → IsFromStart o → t ≡ rounds o k (turns o first nothing_played) → u ≡ round o t
    → IsAt o t before → IsAt o u view → length view.log.entries ≡ length before.log.entries
    → IsEnd o first view
round_stays stays sum goes_on o first k t u before view start is_t is_u old at len =
    let moves : is_finished o t ≡ false → (length t.history < length (round o t).history) ⊎ (is_some (round o t).stop ≡ true) =
    subst (λ x. is_finished o x ≡ false → (length x.history < length (round o x).history) ⊎ (is_some (round o x).stop ≡ true)) (sym is_t) (goes_on o first k start) in
    let moved : is_finished o t ≡ false → (length t.history < length u.history) ⊎ (is_some u.stop ≡ true) =
    λ going. subst (λ x. (length t.history < length x.history) ⊎ (is_some x.stop ≡ true)) (sym is_u) (moves going) in
    let same_length : length u.history ≡ length t.history =
    sym (lengths o u view at) ∙ len ∙ lengths o t before old in
    let over : is_finished o t ≡ true → IsEnd o first view =
    λ done.
    let same : u ≡ t = is_u ∙ stays o 1 t done in
    let serial : IsSerial o first t = record { count = k; played = is_t; finished = done } in
    (t, serial, subst (λ x. IsAt o x view) same at) in
    let stops : is_some u.stop ≡ true → IsEnd o first view =
    λ stopped. round_stops sum o first k u view (is_u ∙ ap (round o) is_t) at (ap is_some at.stop ∙ stopped) in
    let longer : length t.history < length u.history → IsEnd o first view =
    λ more. absurd (not_longer (length t.history) (length u.history) more same_length) in
    ⊎_elim over (λ going. ⊎_elim longer stops (moved going)) (cases_Bool (is_finished o t))

-- a run whose history is legal, follows the programs and ends so is right
pub right_run : (s : SessionView) → LegalAreRight s → (run : Run) → run.world ≡ replay (start_of s) run.log.entries
    → IsLegal (start_of s) run.log.entries → Follows (start_of s) s.programs run.log.entries
    → Ends (setup_of s) run.log.entries (tail_at run.log.entries run.stop) → IsRightRun s run
right_run s laws run world legal follows ends =
    subst (λ w. IsRightHistory s w run.log.entries (tail_at run.log.entries run.stop)) (sym world)
    (laws run.log.entries (tail_at run.log.entries run.stop) legal follows ends)

-- the run of a play at its end
abbrev pub run_of : Player → Run
run_of p = record { world = p.world; log = p.log; stop = p.stop }

pub run_serial : (o : Setup) (first : List ℕ) (p : Player) → IsEnd o first p → IsSerial o first (run_result (run_of p))
run_serial o first p end =
    let at : IsAt o end.0 p = end.2 in
    subst (IsSerial o first) (λ i. record { history = sym at.history i; stop = sym at.stop i }) end.1

pub run_right : SerialIsRight → ReplayIsMeant → LegalIsMeant → FollowsIsMeant → EndsIsMeant → (s : SessionView)
    → LegalAreRight s → (p : Player) → IsEnd (setup_of s) s.turns p → IsRightRun s (run_of p)
run_right is_right replay_is legal_is follows_is ends_is s laws p end =
    let o : Setup = setup_of s in
    let log : List Entry = p.log.entries in
    let at : IsAt o end.0 p = end.2 in
    let right : IsRight o (run_result (run_of p)) =
    is_right o s.turns (run_result (run_of p)) (run_serial o s.turns p end) in
    right_run s laws (run_of p)
    (at.left.replayed ∙ ap (replay o.start) (sym at.history) ∙ replay_is o.start log)
    (legal_is o.start log (subst (IsLegal o.start) (sym at.history) at.left.legal))
    (follows_is o.start o.programs log right.follows)
    (ends_is o log p.stop right.ends)
