-- The effect of an event on the callers.
use Rattle.std.proofs.Common.{◌≡◌, ℕ, Bool, true, false, cond, List, [], ◌∷◌, refl}
use Rattle.std.proofs.lemmas.Bool.{false≢true}
use Rattle.std.specs.List.{list_all}
use Rattle.std.specs.Prelude.{◌==◌, not}
use Rattle.vt_world.proofs.for_laws.Ages.{AllAge, with_accepter_age, all_stay, after_wait_report_age, after_exit_age, after_input_on_age, after_open_age, after_raise_age, after_display_of_age, after_close_age, after_taking_signals_age, then_all}
use Rattle.vt_world.proofs.for_laws.Kept.{Keeps, deeds_keep, marks_keep, unmarked}
use Rattle.vt_world.proofs.for_laws.RowDeeds.{is_typed, row_passes}
use Rattle.vt_events.specs.declared.event.Event.{Event}
use Rattle.vt_events.specs.declared.event.Event.TheVariants as event
use Rattle.vt_events.specs.declared.reply.Reply.TheVariants as reply
use Rattle.vt_procs.specs.Tickets.{after_input_on}
use Rattle.vt_procs.specs.declared.ticket.Ticket.{Ticket}
use Rattle.vt_procs.specs.declared.ticket.Ticket.TheVariants.{Active, AnySignal, Input}
use Rattle.vt_switch.specs.declared.mark.Mark.{Mark}
use Rattle.vt_switch.specs.declared.mark.Mark.TheVariants as mark
use Rattle.vt_world.specs.Deeds.{Deed, Own, OwnDeed, Puts, Opens, Shuts, Waits, Collects, Receives, Accepts, apply_deeds}
use Rattle.vt_world.specs.Heard.{apply_mark, apply_marks}
use Rattle.vt_world.specs.Inputs.{comes, input_at}
use Rattle.vt_world.specs.Events.{row}
use Rattle.vt_world.specs.Rows.{EventRow, waits_unless}
use Rattle.vt_world.specs.State.{WorldState}
use Rattle.vt_world.specs.Refusals.{is_empty, target}

-- all deeds but a wait
abbrev pub is_no_wait : Deed → Bool
is_no_wait (Own (Waits p ticket)) = false
is_no_wait deed = true

abbrev pub none_waits : List Deed → Bool
none_waits deeds = list_all is_no_wait deeds

apply_mark_age : (m : Mark) (w : WorldState) → AllAge w.callers (apply_mark w m).callers
apply_mark_age (mark.Asked n) w = all_stay w.callers
apply_mark_age (mark.Raised p signal) w = after_raise_age w.callers p signal
apply_mark_age (mark.Hopped hop) w = after_display_of_age w.callers hop.to
apply_mark_age (mark.Ended p) w = after_exit_age w.callers p

own_age : (w : WorldState) (deed : OwnDeed) → is_no_wait (Own deed) ≡ true
    → AllAge w.callers (unmarked w deed).callers
own_age w (Puts n piece) quiet =
    elim (comes (input_at w.inputs n).queue piece) as (λ b. AllAge w.callers (cond b (after_input_on n w.callers) w.callers))
    [ true ↦ after_input_on_age w.callers n | false ↦ all_stay w.callers ]
own_age w (Opens p c) quiet = after_open_age w.callers p c
own_age w (Shuts p fd) quiet = after_close_age w.callers p fd
own_age w (Waits p ticket) quiet = absurd (false≢true quiet)
own_age w (Collects p) quiet = after_wait_report_age w.callers p
own_age w (Receives p) quiet = after_taking_signals_age w.callers p
own_age w (Accepts p signal) quiet = with_accepter_age w.callers p signal
own_age w deed quiet = all_stay w.callers

ages : Keeps is_no_wait (λ w v. AllAge w.callers v.callers)
ages = record {
  itself = λ w. all_stay w.callers;
  then = λ u v w. then_all u.callers v.callers w.callers;
  marked = λ w m. apply_mark_age m w;
  shown = λ w display. all_stay w.callers;
  own = own_age;
}

pub apply_marks_age : (told : List Mark) (w : WorldState) → AllAge w.callers (apply_marks w told).callers
apply_marks_age = marks_keep is_no_wait (λ w v. AllAge w.callers v.callers) ages

pub apply_deeds_age : (w : WorldState) (deeds : List Deed) → none_waits deeds ≡ true
    → AllAge w.callers (apply_deeds w deeds).callers
apply_deeds_age = deeds_keep is_no_wait (λ w v. AllAge w.callers v.callers) ages

typed_no_wait : (deed : Deed) → is_typed deed ≡ true → is_no_wait deed ≡ true
typed_no_wait (Own (Waits p ticket)) typed = absurd (false≢true typed)
typed_no_wait deed typed = refl

-- what an accepted event does: nothing that is a wait, or just a wait of its caller, which is told so
pub data RowDoes (p : ℕ) : EventRow → Type 0 where
  NoWait : (r : EventRow) → none_waits r.deeds ≡ true → RowDoes p r
  OneWait : (ticket : Ticket) → RowDoes p (record { reply = reply.Wait; deeds = Own (Waits p ticket) ∷ [] })

waits_does : (there : Bool) (p : ℕ) (ticket : Ticket) → RowDoes p (waits_unless there p ticket)
waits_does true p ticket = NoWait (record { reply = reply.Done; deeds = [] }) refl
waits_does false p ticket = OneWait ticket

pub row_does : (w : WorldState) (p : ℕ) (e : Event) → RowDoes p (row w p e)
row_does w p (event.WaitInput fd) =
    waits_does (not (is_empty w (target w p fd))) p (Input (target w p fd))
row_does w p (event.WaitActive fd n) = waits_does (n == w.display.front) p (Active n)
row_does w p event.WaitSignal = OneWait AnySignal
row_does w p e = NoWait (row w p e) (row_passes is_no_wait typed_no_wait w p e (λ n scanner. refl))
