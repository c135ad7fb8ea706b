-- Facts of the next calls of a program, which hold at its end and go on from call to call.
use Rattle.std.proofs.Common.{◌≡◌, ℕ, Bool, List, [], ◌∷◌, Option, None, refl}
use Rattle.std.specs.List.{range_with_len, cons_option}
use Rattle.std.specs.Prelude.{⊤, ◌-◌, filter_map, if◌then◌else◌}
use Rattle.sig_hooks.specs.declared.act.Act.{Act}
use Rattle.session_text.specs.Programs.{Call, act_at, act_call, all_calls, calls, calls_from, exits, next, scans, script, takes}
use Rattle.session_text.specs.declared.program.Program.{Program}
use Rattle.vt_events.specs.Plain.{plain_event}
use Rattle.vt_events.specs.declared.event.Event.{Event}
use Rattle.vt_events.proofs.Meant.{plain-twice}
use Rattle.sig_hooks.specs.declared.act.Act.TheVariants as acts
use Rattle.session_text.specs.declared.program.Program.TheVariants as program
use Rattle.vt_events.specs.declared.event.Event.TheVariants as event

-- the calls that follow the first call of a list: none, or waitend and the rest, or the rest
abbrev pub behind_first : Bool → Bool → (List Call → Option Event) → List Call → Option Event
behind_first over waits behind more =
    if over then None else (if waits then calls event.WaitEnd behind more else behind more)

-- each of these calls has no spare room
abbrev ArePlain : List Event → Type 0
ArePlain [] = ⊤
ArePlain (e ∷ events) = (plain_event e ≡ e) × ArePlain events

act_plain : (a : Act) (events : List Event) → ArePlain events
    → ArePlain (cons_option (act_call a) events)
act_plain acts.Nothing events are = are
act_plain (acts.Disp fd arg) events are = (refl, are)
act_plain (acts.Put fd byte) events are = (refl, are)
act_plain acts.Leave events are = (refl, are)

acts_plain : (table : List Act) (set : ℕ) (signals : List ℕ)
    → ArePlain (filter_map (λ n. act_call (act_at table set n)) signals)
acts_plain table set [] = tt
acts_plain table set (n ∷ signals) = act_plain (act_at table set n) _ (acts_plain table set signals)

from_plain : (table : List Act) (set s : ℕ) → ArePlain (calls_from table set s)
unfolding calls_from
from_plain table set s = acts_plain table set (range_with_len s (65 - s))

-- the calls after the signals of a set were taken
abbrev pub taken : List Act → (List Call → Option Event) → ℕ → List Call → Option Event
taken table behind set = calls event.TakeSignals (all_calls (calls_from table set 1) behind)

-- a fact of next calls that holds if only exit is left, and that a call and the handlers of signals before them keep
pub record Carries (Holds : (List Call → Option Event) → Type 0) : Type 0 where
  pub exit : Holds exits
  pub first :
      (e : Event) (behind : List Call → Option Event) → plain_event e ≡ e → Holds behind
      → Holds (calls e behind)
  pub handlers :
      (table : List Act) (behind : List Call → Option Event)
      → ((set : ℕ) → Holds (taken table behind set)) → Holds (takes table behind)

-- such a fact holds of the next calls of every program
module _ (Holds : (List Call → Option Event) → Type 0) (carries : Carries Holds) where
  of_all : (events : List Event) (behind : List Call → Option Event) → ArePlain events → Holds behind
      → Holds (all_calls events behind)
  of_all [] behind are here = here
  of_all (e ∷ events) behind are here =
      carries.first e (all_calls events behind) are.0 (of_all events behind are.1 here)

  of_script : (table : List Act) (items : List Event) → Holds (script table items)
  of_script table [] = carries.exit
  of_script table (item ∷ items) =
      let behind : List Call → Option Event = script table items in
      carries.first (plain_event item) (takes table behind) (plain-twice item)
      (carries.handlers table behind
      (λ set. carries.first event.TakeSignals (all_calls (calls_from table set 1) behind) refl
      (of_all (calls_from table set 1) behind (from_plain table set 1) (of_script table items))))

  of_scans : (bytes : List ℕ) → Holds (scans bytes)
  of_scans [] = carries.exit
  of_scans (b ∷ bytes) = carries.first (event.Scan b) (scans bytes) refl (of_scans bytes)

  pub of_next : (p : Program) → Holds (next p)
  of_next (program.Keys bytes) = of_scans bytes.bytes
  of_next (program.Script items table) = of_script table items.events
