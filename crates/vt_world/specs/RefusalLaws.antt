-- The law of refusals: a refused call has no effect. This project's own.
use Rattle.std.specs.Prelude.{◌≡◌, ℕ, Bool, true, false, not, List, [], ◌∷◌, filter, map}
use Rattle.vt_base.specs.declared.errno.Errno.TheVariants.{Intr}
use Rattle.vt_events.specs.declared.entry.Entry.{Entry}
use Rattle.vt_events.specs.declared.event.Event.{Event}
use Rattle.vt_events.specs.declared.event.Event.TheVariants as event
use Rattle.vt_events.specs.declared.reply.Reply.{Reply}
use Rattle.vt_events.specs.declared.reply.Reply.TheVariants as reply
use Rattle.vt_procs.specs.Tickets.{after_wait_report}
use Rattle.vt_world.specs.Heard.{without_marks}
use Rattle.vt_world.specs.History.{replay}
use Rattle.vt_world.specs.State.{WorldState}
use Rattle.vt_world.specs.Step.{Outcome, step}

-- a call is refused if its answer is an error. EINTR as the answer to `waitend` is no refusal: it
-- means that a signal or the idle rule ended the wait
abbrev pub is_refusal : Event → Reply → Bool
is_refusal event.WaitEnd (reply.Err Intr) = false
is_refusal e (reply.Err errno) = true
is_refusal e answer = false

-- a refused call leaves the machine unchanged, with an empty trace
abbrev pub RefusalsChangeNothing : Type 0
RefusalsChangeNothing =
    (w : WorldState) (p : ℕ) (e : Event) → is_refusal e (step w p e).reply ≡ true
    → (step w p e).world ≡ without_marks w

-- a `waitend` that is answered EINTR takes its caller's ended wait, and changes nothing else
abbrev pub BrokenWaitsAreTaken : Type 0
BrokenWaitsAreTaken =
    (w : WorldState) (p : ℕ) → (step w p event.WaitEnd).reply ≡ reply.Err Intr
    → (step w p event.WaitEnd).world ≡ record (without_marks w) { callers = after_wait_report p w.callers }

-- the calls of entries, made one after another, each with the machine's answer
abbrev pub exchanges : WorldState → List Entry → List (Entry × Reply)
exchanges w [] = []
exchanges w (entry ∷ entries) =
    let after : Outcome = step w entry.caller entry.event in
    (entry, after.reply) ∷ exchanges after.world entries

-- later calls get the answers that they would get without the refused call
abbrev pub LaterAnswersStay : Type 0
LaterAnswersStay =
    (w : WorldState) (p : ℕ) (e : Event) (later : List Entry)
    → is_refusal e (step w p e).reply ≡ true
    → exchanges (step w p e).world later ≡ exchanges w later

-- the entries that weren't refused
abbrev pub accepted_entries : List (Entry × Reply) → List (Entry × Reply)
accepted_entries made = filter (λ one. not (is_refusal one.0.event one.1)) made

abbrev pub calls : List (Entry × Reply) → List Entry
calls made = map (λ one. one.0) made

-- if the calls are made again without the refused ones, they get the same answers and leave the
-- same machine, except for the trace of the last call
pub record IsSameWithout (w : WorldState) (entries : List Entry) : Type 0 where
  pub answers :
      exchanges w (calls (accepted_entries (exchanges w entries))) ≡ accepted_entries (exchanges w entries)
  pub world :
      without_marks (replay w (calls (accepted_entries (exchanges w entries)))) ≡ without_marks (replay w entries)

abbrev pub RefusalsCanGo : Type 0
RefusalsCanGo = (w : WorldState) (entries : List Entry) → IsSameWithout w entries
