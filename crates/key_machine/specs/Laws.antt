-- The laws of keys that are down. Each law is about the definitions alone.
use Rattle.std.specs.Prelude.{◌≡◌, ℕ, ◌==◌, ◌&&◌, is_some, None, if◌then◌else◌, IsTrue}
use Rattle.key_machine.specs.Keys.{Keys, State, recorded_action, after_unplug}
use Rattle.key_machine.specs.Step.{key_step}
use Rattle.key_machine.specs.declared.key_modes.KeyModes.{KeyModes}
use Rattle.key_tables.specs.Tables.{Tables}
use Rattle.scan_codes.specs.declared.key_event.KeyEvent.{KeyEvent}

-- a key is down exactly if its last event is that it goes down: an event decides this for its own keyboard
-- and keycode and no other, whatever the tables, the state and the modes are
abbrev pub KeysFollow : Type 0
KeysFollow =
    (tables : Tables) (modes : KeyModes) (from : ℕ) (e : KeyEvent) (keys : Keys) (s : State)
    (on code : ℕ)
    → is_some (recorded_action (key_step tables modes from e keys s).keys.down on code)
    ≡ (if on == from && code == e.code then e.down else is_some (recorded_action keys.down on code))

-- the record of a press stays until the key goes up
abbrev pub RecordsStay : Type 0
RecordsStay =
    (tables : Tables) (modes : KeyModes) (from : ℕ) (e : KeyEvent) (keys : Keys) (s : State)
    (on code : ℕ)
    → IsTrue (is_some (recorded_action keys.down on code)) → (on ≡ from → code ≡ e.code → IsTrue e.down)
    → recorded_action (key_step tables modes from e keys s).keys.down on code ≡ recorded_action keys.down on code

-- a keyboard that ends removes the records of its keys and no other, and changes nothing else
pub record TakesKeys (from : ℕ) (keys after : Keys) : Type 0 where
  pub down : (on code : ℕ)
      → recorded_action after.down on code ≡ (if on == from then None else recorded_action keys.down on code)
  pub waiting : after.waiting ≡ keys.waiting
  pub number : after.number ≡ keys.number

abbrev pub UnplugTakes : Type 0
UnplugTakes = (from : ℕ) (keys : Keys) → TakesKeys from keys (after_unplug from keys)
