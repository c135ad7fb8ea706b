-- A step of the machine refuses the event or accepts it.
use Rattle.std.proofs.Common.{◌≡◌, ℕ, Bool, true, false, List, [], ◌∷◌, Option, Some, None, refl, sym, subst}
use Rattle.std.proofs.lemmas.Bool.{and_parts, both_ways, false≢true, not-true, true≢false}
use Rattle.std.proofs.lemmas.Option.{none-some, same_Some}
use Rattle.std.specs.List.{list_all}
use Rattle.std.specs.Prelude.{◌==◌, not, ◌&&◌, if◌then◌else◌}
use Rattle.session_text.specs.Programs.{is_exit, is_gone, is_kill, is_srch}
use Rattle.vt_events.specs.Waits.{is_wait}
use Rattle.vt_base.specs.Keyboards.{is_keyboard}
use Rattle.vt_base.specs.declared.errno.Errno.{Errno}
use Rattle.vt_events.specs.declared.event.Event.{Event}
use Rattle.vt_events.specs.Plain.{plain_reply}
use Rattle.vt_events.specs.declared.reply.Reply.{Reply}
use Rattle.vt_procs.specs.Callers.{is_live}
use Rattle.vt_procs.specs.declared.ticket.Ticket.{Ticket}
use Rattle.vt_procs.specs.declared.ticket.Ticket.TheVariants.{Active, Input}
use Rattle.vt_procs.specs.declared.waiting.Waiting.{Waiting}
use Rattle.vt_procs.specs.declared.waiting.Waiting.TheVariants.{Nothing, Open, Done, Broken}
use Rattle.vt_world.specs.Deeds.{apply_deeds}
use Rattle.vt_world.specs.Heard.{without_marks}
use Rattle.vt_world.specs.Events.{own_refusals, row}
use Rattle.vt_world.specs.Rows.{EventRow, ended_reply, waits_unless}
use Rattle.vt_world.specs.State.{WorldState}
use Rattle.vt_world.specs.Step.{Outcome, outcome_of_row, row_result_after, row_result, step, with_idle_rule}
use Rattle.vt_world.specs.Refusals.{Refusal, caller, common_refusals, ends_wait, first_refusal, holds_ticket, is_empty, may_make, target}
use Rattle.vt_base.specs.declared.errno.Errno.TheVariants as errno
use Rattle.vt_events.specs.declared.event.Event.TheVariants as event
use Rattle.vt_events.specs.declared.reply.Reply.TheVariants as reply

-- the first of the tests of every event that fails, and of those of this one
abbrev pub common : WorldState → ℕ → Event → Option Errno
common w p e = first_refusal (common_refusals (without_marks w) p e)

abbrev pub own : WorldState → ℕ → Event → Option Errno
own w p e = first_refusal (own_refusals (without_marks w) p e)

abbrev pub refused : WorldState → Errno → Outcome
refused w with = record { world = without_marks w; reply = reply.Err with }

abbrev pub accepted : WorldState → EventRow → Outcome
accepted w r = record { world = with_idle_rule (apply_deeds (without_marks w) r.deeds); reply = r.reply }

pub data StepDoes (w : WorldState) (p : ℕ) (e : Event) : Outcome → Type 0 where
  RefusedByAll : (with : Errno) → common w p e ≡ Some with → StepDoes w p e (refused w with)
  RefusedByOwn : (with : Errno) → common w p e ≡ None → own w p e ≡ Some with → StepDoes w p e (refused w with)
  Accepted : common w p e ≡ None → own w p e ≡ None → StepDoes w p e (accepted w (row (without_marks w) p e))

own_does : (w : WorldState) (p : ℕ) (e : Event) (o : Option Errno) → common w p e ≡ None
    → own w p e ≡ o → StepDoes w p e (outcome_of_row (row_result (without_marks w) o (row (without_marks w) p e)))
own_does w p e None none is = Accepted none is
own_does w p e (Some with) none is = RefusedByOwn with none is

all_does : (w : WorldState) (p : ℕ) (e : Event) (o : Option Errno) → common w p e ≡ o
    → StepDoes w p e (outcome_of_row (row_result_after (without_marks w) p e o))
all_does w p e None is = own_does w p e (own w p e) is refl
all_does w p e (Some with) is = RefusedByAll with is

pub step_does : (w : WorldState) (p : ℕ) (e : Event) → StepDoes w p e (step w p e)
step_does w p e = all_does w p e (common w p e) refl

-- the tests of every event, by their results
abbrev pub tested : Bool → Bool → Bool → Option Errno
tested live may held =
    if not live then Some errno.Srch
    else (if not may then Some errno.Notty else (if held then Some errno.Inval else None))

tested_none : (live may held : Bool) → tested live may held ≡ None
    → (live ≡ true) × (may ≡ true)
tested_none true true held none = (refl, refl)
tested_none true false held none = absurd (none-some errno.Notty (sym none))
tested_none false may held none = absurd (none-some errno.Srch (sym none))

pub common_none : (w : WorldState) (p : ℕ) (e : Event) → common w p e ≡ None
    → (is_live w.callers p ≡ true) × (may_make p e ≡ true)
common_none w p e none =
    tested_none (is_live w.callers p) (may_make p e) (holds_ticket w p && not (ends_wait e)) none

pub none_common : (w : WorldState) (p : ℕ) (e : Event) → is_live w.callers p ≡ true
    → may_make p e ≡ true → (holds_ticket w p && not (ends_wait e)) ≡ false
    → common w p e ≡ None
none_common w p e live may held = λ i. tested (live i) (may i) (held i)

-- an error other than ESRCH isn't ESRCH
other : {A : Type 0} (known with : Errno) → is_srch known ≡ false → Some known ≡ Some with
    → is_srch with ≡ true → A
other known with isnt same is =
    absurd (both_ways (is_srch with) (subst (λ e. is_srch e ≡ false) (same_Some known with same) isnt) is)

-- among the tests of every event, only the one for dead callers gives ESRCH
tested_srch : (live may held : Bool) (with : Errno) → tested live may held ≡ Some with
    → is_srch with ≡ true → live ≡ false
tested_srch true true true with same is = other errno.Inval with refl same is
tested_srch true true false with same is = absurd (none-some with same)
tested_srch true false held with same is = other errno.Notty with refl same is
tested_srch false may held with same is = refl

-- no test of the list refuses with ESRCH
abbrev is_no_srch : Refusal → Bool
is_no_srch t = not (is_srch t.with)

failing_no_srch : (tests : List Refusal) (with : Errno) → list_all is_no_srch tests ≡ true
    → first_refusal tests ≡ Some with → is_srch with ≡ false
failing_no_srch [] with none = λ same. absurd (none-some with same)
failing_no_srch (t ∷ tests) with none =
    let parts : (is_no_srch t ≡ true) × (list_all is_no_srch tests ≡ true) =
    and_parts (is_no_srch t) (list_all is_no_srch tests) none in
    elim t.applies as (λ b. (if b then Some t.with else first_refusal tests) ≡ Some with → is_srch with ≡ false) [
      | true ↦ λ same. subst (λ e. is_srch e ≡ false) (same_Some t.with with same) (not-true (is_srch t.with) parts.0)
      | false ↦ failing_no_srch tests with parts.1
    ]

own_no_srch : (w : WorldState) (p : ℕ) (e : Event) → is_kill e ≡ false
    → list_all is_no_srch (own_refusals w p e) ≡ true
own_no_srch w p (event.Kill q s) isnt = absurd (true≢false isnt)
own_no_srch w p e isnt = refl

-- the facts about the answer of every row: it has no spare room, and isn't ESRCH
record IsFair (r : Reply) : Type 0 where
  plain : plain_reply r ≡ r
  here : is_gone r ≡ false

waits_fair : (there : Bool) (p : ℕ) (ticket : Ticket) → IsFair (waits_unless there p ticket).reply
waits_fair true p ticket = record { plain = refl; here = refl }
waits_fair false p ticket = record { plain = refl; here = refl }

ended_fair : (waiting : Waiting) → IsFair (ended_reply waiting)
ended_fair Nothing = record { plain = refl; here = refl }
ended_fair (Open ticket) = record { plain = refl; here = refl }
ended_fair Done = record { plain = refl; here = refl }
ended_fair Broken = record { plain = refl; here = refl }

row_fair : (w : WorldState) (p : ℕ) (e : Event) → IsFair (row w p e).reply
row_fair w p (event.WaitInput fd) =
    waits_fair (not (is_empty w (target w p fd))) p (Input (target w p fd))
row_fair w p (event.WaitActive fd n) = waits_fair (n == w.display.front) p (Active n)
row_fair w p event.WaitEnd = ended_fair (caller w p).waiting
row_fair w p e = record { plain = refl; here = refl }

exit_reply : (w : WorldState) (p : ℕ) (e : Event) → is_exit e ≡ true
    → is_wait (row w p e).reply ≡ false
exit_reply w p event.Exit is = refl
exit_reply w p e is = absurd (false≢true is)

keyboard_reply : (w : WorldState) (p : ℕ) (e : Event) → may_make p e ≡ true
    → is_wait (row w p e).reply ≡ true → is_keyboard p ≡ false
keyboard_reply w p (event.Scan b) may wait = absurd (false≢true wait)
keyboard_reply w p event.Exit may wait = absurd (false≢true wait)
keyboard_reply w p e may wait = not-true (is_keyboard p) may

-- the facts about the answer of a step: it has no spare room; a caller that gets ESRCH for a call other than kill
-- is dead; exit isn't answered wait; and no keyboard waits
pub record Answers (w : WorldState) (p : ℕ) (e : Event) (r : Reply) : Type 0 where
  pub plain : plain_reply r ≡ r
  pub gone : is_kill e ≡ false → is_gone r ≡ true → is_live w.callers p ≡ false
  pub exit : is_exit e ≡ true → is_wait r ≡ false
  pub keyboard : is_wait r ≡ true → is_keyboard p ≡ false

answers_by : (w : WorldState) (p : ℕ) (e : Event) (o : Outcome) → StepDoes w p e o → Answers w p e o.reply
answers_by w p e _ (RefusedByAll with is) = record {
  plain = refl;
  gone = λ kill.
      tested_srch (is_live w.callers p) (may_make p e) (holds_ticket w p && not (ends_wait e)) with is;
  exit = λ exit. refl;
  keyboard = λ wait. absurd (false≢true wait);
}
answers_by w p e _ (RefusedByOwn with none is) = record {
  plain = refl;
  gone = λ kill gone.
      absurd (both_ways (is_srch with) (failing_no_srch (own_refusals (without_marks w) p e) with (own_no_srch (without_marks w) p e kill) is) gone);
  exit = λ exit. refl;
  keyboard = λ wait. absurd (false≢true wait);
}
answers_by w p e _ (Accepted none is) =
    let fair : IsFair (row (without_marks w) p e).reply = row_fair (without_marks w) p e in
    record {
      plain = fair.plain;
      gone = λ kill gone. absurd (both_ways (is_gone (row (without_marks w) p e).reply) fair.here gone);
      exit = exit_reply (without_marks w) p e;
      keyboard = keyboard_reply (without_marks w) p e (common_none w p e none).1;
    }

pub answers : (w : WorldState) (p : ℕ) (e : Event) → Answers w p e (step w p e).reply
answers w p e = answers_by w p e (step w p e) (step_does w p e)
