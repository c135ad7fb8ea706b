-- The place of a walk through a program.
use Rattle.std.specs.Prelude.{◌≡◌, ℕ, ◌≤◌, ◌<◌, Bool, true, false, is_some, Option, Some, List, [], ◌∷◌, ◌++◌, drop, if◌then◌else◌}
use Rattle.sig_hooks.specs.declared.act.Act.{Act}
use Rattle.vt_base.specs.Signals.{has_signal}
use Rattle.vt_events.specs.declared.event.Event.{Event}
use Rattle.vt_events.specs.declared.event.Event.TheVariants as event
use Rattle.vt_events.specs.declared.reply.Reply.{Reply}
use Rattle.session_text.specs.Programs.{Call, act_at, act_call, all_calls, call, calls, calls_from, next, nothing, scans, script, takes}
use Rattle.session_text.specs.declared.program.Program.{Program}
use Rattle.session_text.specs.declared.program.Program.TheVariants as program

-- the view that contracts have of `Walk`
pub record Place : Type 0 where
  -- how many items or scan bytes were called
  pub item : ℕ
  -- the signals are taken before the next one
  pub taking : Bool
  -- the signals that were given last, and the first of them whose act may be left
  pub given : ℕ
  pub signal : ℕ
  -- waitend is called before all that
  pub waiting : Bool
  -- nothing is called any more
  pub over : Bool

-- the calls from there on, except waitend
abbrev pub ahead : Program → Place → List Call → Option Event
ahead (program.Keys bytes) w = scans (drop w.item bytes.bytes)
ahead (program.Script items table) w =
    (if w.taking then takes table else all_calls (calls_from table w.given w.signal))
    (script table (drop w.item items.events))

-- the calls from there on
abbrev pub rest_of_calls : Program → Place → List Call → Option Event
rest_of_calls p w =
    if w.over then nothing
    else (if w.waiting then calls event.WaitEnd (ahead p w) else ahead p w)

-- the walk stands after these calls of the program: whatever follows them, the calls that are left are the next
-- ones
pub record Stands (p : Program) (w : Place) (made : List Call) : Type 0 where
  pub same : (more : List Call) → next p (made ++ more) ≡ rest_of_calls p w more

-- the first of the calls that are left is made, with this answer, and the walk moves past it
pub record Moves (left : List Call → Option Event) (p : Program) (r : Reply) (moved : Place) : Type 0 where
  pub same :
      (e : Event) (more : List Call) → left [] ≡ Some e
      → left (call e r ∷ more) ≡ rest_of_calls p moved more

-- the walk moves past its next call, which is no waitend
abbrev pub Advances : Program → Place → Reply → Place → Type 0
Advances p w r moved = Moves (ahead p w) p r moved

-- a script whose acts are those of the table
abbrev pub HasActs : Program → List Act → Type 0
HasActs (program.Keys bytes) table = ⊥
HasActs (program.Script items acts) table = acts ≡ table

-- `left` has those of the given signals from one on whose acts make calls
pub record AreLeft (table : List Act) (given from left : ℕ) : Type 0 where
  pub these : (s : ℕ) → from ≤ s → s ≤ 64 → has_signal left s ≡ is_some (act_call (act_at table given s))
  pub others : (s : ℕ) → 1 ≤ s → s < from → has_signal left s ≡ false

-- the place of every walk that is over and forgot what it can
abbrev pub end_place : Place
end_place = record { item = 0; taking = false; given = 0; signal = 65; waiting = false; over = true }

-- a walk that isn't over keeps, of the signals that were given, those with an act that is left
abbrev pub KeepsLeft : Program → Place → Place → Type 0
KeepsLeft (program.Keys bytes) old new = new ≡ old
KeepsLeft (program.Script items table) old new =
    AreLeft table old.given old.signal new.given × (new ≡ record old { given = new.given; signal = 1 })
