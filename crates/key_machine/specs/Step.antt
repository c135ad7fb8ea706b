-- The effect of a key event on a keyboard and a console's key state, and its output (keymaps(5)). The cases
-- are in the order of the kinds of actions. The rules that keymaps(5) leaves open are this project's own.
use Rattle.std.specs.Prelude.{ℕ, ◌+◌, ◌*◌, ◌^◌, min, Bool, true, false, ◌==◌, ◌&&◌, ◌||◌, not, is_some, unwrap_or, Option, Some, None, List, [], ◌∷◌, bit_or, bit_xor, if◌then◌else◌}
use Rattle.key_machine.specs.Bytes.{character_bytes, characters_bytes, idle_bytes, meta_bytes, out_of, return_bytes}
use Rattle.key_machine.specs.Compose.{Typed, accent_of, character, dead}
use Rattle.key_machine.specs.Keys.{Keys, State, is_on, recorded_action, table_of, weight_of, with_key, without_key}
use Rattle.key_machine.specs.Pads.{cursor_bytes, pad_bytes}
use Rattle.key_machine.specs.Numbers.{BARE_NUM_LOCK, CAPS, CAPS_LOCK, CAPS_ON, COMPOSE, DECR_CONSOLE, INCR_CONSOLE, KEYBOARD_SIGNAL, LAST_CONSOLE, NUM, NUM_LOCK, RETURN, SAK, SCROLL, SCROLL_LOCK, UNICODE, XLATE}
use Rattle.key_machine.specs.declared.key_modes.KeyModes.{KeyModes}
use Rattle.key_machine.specs.declared.key_out.KeyOut.{KeyOut}
use Rattle.key_machine.specs.declared.key_out.KeyOut.TheVariants.{Attention, Last, Next, Nothing, Prev, Spawn, Switch}
use Rattle.key_syms.specs.Act.{Act}
use Rattle.key_syms.specs.Kinds.{CHARACTER, CONSOLE, CURSOR, DEAD, FUNCTION, HOLE, LETTER, LOCK, META, MODIFIER, PAD, SPECIAL, STICKY}
use Rattle.key_tables.specs.Tables.{Tables, entry_of, func_of, hole}
use Rattle.scan_codes.specs.declared.key_event.KeyEvent.{KeyEvent}

-- the keyboard and the state after a key event, and the output
pub record Step : Type 0 where
  pub keys : Keys
  pub state : State
  pub out : KeyOut

abbrev pub step : Keys → State → KeyOut → Step
step keys state out = record { keys = keys; state = state; out = out }

-- the action of a keycode in a table, a hole if there is no such table; with Caps on, a letter is that of the
-- table with Shift the other way around, if there is one
unfoldable pub action_of : Tables → ℕ → Bool → ℕ → Act
action_of tables t caps code =
    let a = unwrap_or (entry_of tables t code) hole in
    if a.kind == LETTER && caps then unwrap_or (entry_of tables (bit_xor t 1) code) a else a

-- characters go out
abbrev pub types : Typed → Keys → State → Step
types typed keys s =
    step (record keys { waiting = typed.waiting }) s
    (out_of (characters_bytes s.mode typed.codes))

-- a digit after those of the number that is kept, up to the greatest number of 16 bits
abbrev pub number_with : Option ℕ → ℕ → ℕ
number_with number digit = min (10 * unwrap_or number 0 + digit) 65535

-- a flag changes
abbrev pub flips : ℕ → State → State
flips flag s = record s { flags = bit_xor s.flags flag }

-- the special actions in the order of their values; the others do nothing
unfoldable pub special : KeyModes → ℕ → Keys → State → Step
special modes v keys s =
    if v == RETURN then step keys s (out_of (return_bytes modes.newline))
    else if v == CAPS_LOCK then step keys (flips CAPS s) Nothing
    else if v == NUM_LOCK then
    (if modes.keypad then step keys s (out_of (0x1B ∷ 0x4F ∷ 0x50 ∷ []))
    else step keys (flips NUM s) Nothing)
    else if v == SCROLL_LOCK then step keys (flips SCROLL s) Nothing
    else if v == LAST_CONSOLE then step keys s Last
    else if v == INCR_CONSOLE then step keys s Next
    else if v == DECR_CONSOLE then step keys s Prev
    else if v == KEYBOARD_SIGNAL then step keys s Spawn
    else if v == SAK then step keys s Attention
    else if v == COMPOSE then
    step (record keys { waiting = record keys.waiting { composing = true } }) s Nothing
    else if v == BARE_NUM_LOCK then step keys (flips NUM s) Nothing
    else if v == CAPS_ON then step keys (record s { flags = bit_or s.flags CAPS }) Nothing
    else step keys s Nothing

-- the effect of an action, by its kind
unfoldable pub action_step : Tables → KeyModes → ℕ → Act → Keys → State → Step
action_step tables modes weight a keys s =
    if a.kind == HOLE then step keys s Nothing
    else if a.kind == CHARACTER then types (character tables.pairs keys.waiting a.value) keys s
    else if a.kind == LETTER then types (character tables.pairs keys.waiting a.value) keys s
    else if a.kind == META then step keys s (out_of (meta_bytes s.meta a.value))
    else if a.kind == FUNCTION then step keys s (out_of (func_of tables a.value))
    else if a.kind == PAD then
    step keys s (out_of (pad_bytes tables modes weight s.flags a.value))
    else if a.kind == CURSOR then step keys s (out_of (cursor_bytes modes.cursor a.value))
    else if a.kind == DEAD then
    types (dead tables.pairs keys.waiting (accent_of a.value)) keys s
    else if a.kind == MODIFIER then step keys s Nothing
    else if a.kind == LOCK then
    step keys (record s { locks = bit_xor s.locks (2 ^ a.value) }) Nothing
    else if a.kind == STICKY then
    step keys (record s { sticky = bit_xor s.sticky (2 ^ a.value) }) Nothing
    else if a.kind == CONSOLE then step keys s (Switch a.value)
    else if a.kind == SPECIAL then special modes a.value keys s
    else step (record keys { number = Some (number_with keys.number a.value) }) s Nothing

-- in K_XLATE and K_UNICODE all actions act, in the other modes modifiers and SAK alone
abbrev pub acts_in : ℕ → Bool
acts_in mode = mode == XLATE || mode == UNICODE

-- the sticky modifiers stay for the next key
unfoldable pub keeps_sticky : Act → Bool
keeps_sticky a = a.kind == MODIFIER || a.kind == STICKY || a.kind == HOLE

-- they go off with any other action
abbrev pub after_sticky_use : Act → State → State
after_sticky_use a s = if keeps_sticky a then s else record s { sticky = 0 }

-- the output of a press in one of the other modes
abbrev pub idle_out : ℕ → ℕ → Act → KeyOut
idle_out mode code a =
    if a.kind == SPECIAL && a.value == SAK then Attention
    else out_of (idle_bytes mode code true)

-- a press that acts
unfoldable pub acting_press_step : Tables → KeyModes → ℕ → Act → ℕ → Keys → State → Step
acting_press_step tables modes weight a code keys s =
    let done = action_step tables modes weight a keys s in
    if acts_in s.mode then step done.keys (after_sticky_use a done.state) done.out
    else step keys s (idle_out s.mode code a)

-- the specials that change a flag
abbrev pub changes_flag : ℕ → Bool
changes_flag v =
    v == CAPS_LOCK || v == NUM_LOCK || v == SCROLL_LOCK || v == BARE_NUM_LOCK || v == CAPS_ON

-- a held key repeats its action, unless that is a modifier, a lock, a sticky modifier or a change of a flag
unfoldable pub repeats : Act → Bool
repeats a =
    not (a.kind == MODIFIER || a.kind == LOCK || a.kind == STICKY
    || (a.kind == SPECIAL && changes_flag a.value))

-- a key goes down: it is recorded with its action, unless that same keyboard holds it down already. Then it
-- repeats: its action is looked up again, and the record stays
unfoldable pub press_step : Tables → KeyModes → ℕ → ℕ → Keys → State → Step
press_step tables modes from code keys s =
    let weight = weight_of keys.down in
    let a = action_of tables (table_of weight s) (is_on s.flags CAPS) code in
    if not (is_some (recorded_action keys.down from code)) then
    acting_press_step tables modes weight a code (record keys { down = with_key keys.down from code a }) s
    else if modes.repeat && repeats a then acting_press_step tables modes weight a code keys s
    else step keys s (out_of (idle_bytes s.mode code true))

-- the number that Ascii keys have begun goes out as a character, without an accent
abbrev pub number_bytes : ℕ → Option ℕ → List ℕ
number_bytes mode None = []
number_bytes mode (Some code) = character_bytes mode code

-- the key was down as a modifier
abbrev pub was_modifier : Option Act → Bool
was_modifier None = false
was_modifier (Some a) = a.kind == MODIFIER

-- a key goes up: if it was a modifier by its record, the number goes out
unfoldable pub release_step : ℕ → ℕ → Keys → State → Step
release_step from code keys s =
    let up = record keys { down = without_key keys.down from code } in
    if acts_in s.mode && was_modifier (recorded_action keys.down from code) then
    step (record up { number = None }) s (out_of (number_bytes s.mode keys.number))
    else step up s (out_of (idle_bytes s.mode code false))

-- one key event of a keyboard
abbrev pub key_step : Tables → KeyModes → ℕ → KeyEvent → Keys → State → Step
key_step tables modes from e keys s =
    if e.down then press_step tables modes from e.code keys s else release_step from e.code keys s
