-- Histories of keyboards, and their laws. Each is of the definitions alone.
use Rattle.std.specs.Prelude.{◌≡◌, ◌≢◌, ℕ, ◌≤◌, ◌==◌, ◌&&◌, Bool, false, is_some, Option, Some, None, List, [], ◌∷◌, All, IsFalse, IsTrue, if◌then◌else◌}
use Rattle.std.specs.List.{flat_map}
use Rattle.key_machine.specs.Bytes.{idle_bytes}
use Rattle.key_machine.specs.Keys.{Keys, State, is_on, recorded_action, start_keys, table_of, after_unplug, weight_of}
use Rattle.key_machine.specs.Numbers.{CAPS, MEDIUMRAW}
use Rattle.key_machine.specs.Step.{action_of, key_step}
use Rattle.key_machine.specs.declared.key_modes.KeyModes.{KeyModes}
use Rattle.key_syms.specs.Act.{Act}
use Rattle.key_syms.specs.Kinds.{LOCK}
use Rattle.key_tables.specs.Tables.{Tables}
use Rattle.scan_codes.specs.declared.key_event.KeyEvent.{KeyEvent}

-- an event of a keyboard, a key event or, if there is none, its end; and the tables, the modes and the state
-- of the console in front at that event
pub record Turn : Type 0 where
  pub from : ℕ
  pub event : Option KeyEvent
  pub tables : Tables
  pub modes : KeyModes
  pub state : State

abbrev pub keys_by : Option KeyEvent → Turn → Keys → Keys
keys_by None t keys = after_unplug t.from keys
keys_by (Some e) t keys = (key_step t.tables t.modes t.from e keys t.state).keys

-- the keys of all keyboards after a history
abbrev pub keys_after : List Turn → Keys → Keys
keys_after [] keys = keys
keys_after (t ∷ turns) keys = keys_after turns (keys_by t.event t keys)

-- whether a keycode of the keyboard is down after this event, given whether it was before
abbrev pub says : Option KeyEvent → Bool → ℕ → Bool
says None before code = false
says (Some e) before code = if code == e.code then e.down else before

-- whether a key is down by its last event or the end of its keyboard; without one, as it was given
abbrev pub last_says : List Turn → Bool → ℕ → ℕ → Bool
last_says [] before on code = before
last_says (t ∷ turns) before on code =
    last_says turns (if on == t.from then says t.event before code else before) on code

-- from a start, the keys that are down are those whose last event is that they go down
abbrev pub DownsAreLast : Type 0
DownsAreLast =
    (turns : List Turn) (on code : ℕ)
    → is_some (recorded_action (keys_after turns start_keys).down on code) ≡ last_says turns false on code

-- if every key that went down came up again, or its keyboard ended, no key is down and the modifier weight is
-- 0, whatever the tables, the modes and the states were in between
abbrev pub AllComeUp : Type 0
AllComeUp =
    (turns : List Turn) → ((on code : ℕ) → IsFalse (last_says turns false on code))
    → ((keys_after turns start_keys).down ≡ [])
    × (weight_of (keys_after turns start_keys).down ≡ 0)

-- the action that is looked up at a press
abbrev pub looked_up : Tables → ℕ → Keys → State → Act
looked_up tables code keys s =
    action_of tables (table_of (weight_of keys.down) s) (is_on s.flags CAPS) code

-- a press of a key that its keyboard doesn't hold records the action that is looked up at it
abbrev pub PressesRecord : Type 0
PressesRecord =
    (tables : Tables) (modes : KeyModes) (from : ℕ) (e : KeyEvent) (keys : Keys) (s : State)
    → IsTrue e.down → IsFalse (is_some (recorded_action keys.down from e.code))
    → recorded_action (key_step tables modes from e keys s).keys.down from e.code
    ≡ Some (looked_up tables e.code keys s)

-- the release of a key takes its own record and no other
abbrev pub ReleasesTake : Type 0
ReleasesTake =
    (tables : Tables) (modes : KeyModes) (from : ℕ) (e : KeyEvent) (keys : Keys) (s : State)
    (on code : ℕ)
    → IsFalse e.down
    → recorded_action (key_step tables modes from e keys s).keys.down on code
    ≡ (if on == from && code == e.code then None else recorded_action keys.down on code)

-- locks change only at a press whose action is a lock
abbrev pub LocksStay : Type 0
LocksStay =
    (tables : Tables) (modes : KeyModes) (from : ℕ) (e : KeyEvent) (keys : Keys) (s : State)
    → (IsTrue e.down → (looked_up tables e.code keys s).kind ≢ LOCK)
    → (key_step tables modes from e keys s).state.locks ≡ s.locks

-- the bytes of events in K_MEDIUMRAW, one after another
abbrev pub medium_bytes : List KeyEvent → List ℕ
medium_bytes events = flat_map (λ e. idle_bytes MEDIUMRAW e.code e.down) events

-- the bytes in K_MEDIUMRAW determine the events: different events have different bytes
abbrev pub MediumBytesTell : Type 0
MediumBytesTell =
    (events others : List KeyEvent)
    → All (λ e. (1 ≤ e.code) × (e.code ≤ 255)) events
    → All (λ e. (1 ≤ e.code) × (e.code ≤ 255)) others
    → medium_bytes events ≡ medium_bytes others → events ≡ others
