-- The keys that are down, the accent or Compose that waits, and the key state (keymaps(5), loadkeys(1)).
use Rattle.std.specs.Prelude.{ℕ, ◌+◌, ◌^◌, Bool, true, false, ◌==◌, ◌&&◌, ◌||◌, not, nat_lt, Option, None, List, [], ◌∷◌, ◌++◌, filter, find, bit_and, bit_or, bit_xor, if◌then◌else◌}
use Rattle.std.specs.List.{list_any}
use Rattle.std.specs.Option.{option_map}
use Rattle.key_machine.specs.declared.key_modes.KeyModes.{KeyModes}
use Rattle.key_machine.specs.declared.waiting.Waiting.{Waiting}
use Rattle.key_syms.specs.Act.{Act}
use Rattle.key_syms.specs.Kinds.{MODIFIER}

-- a key that is down: its keyboard, its keycode, and the action that was recorded at its press
pub record Down : Type 0 where
  pub from : ℕ
  pub code : ℕ
  pub action : Act

abbrev pub down_as : ℕ → ℕ → Act → Down
down_as from code a = record { from = from; code = code; action = a }

-- the keys that are down, by rising keyboards and keycodes. All keyboards share the rest: the accent or
-- Compose that waits, and the number that Ascii keys have begun
pub record Keys : Type 0 where
  pub down : List Down
  pub waiting : Waiting
  pub number : Option ℕ

abbrev pub keys_of : List Down → Waiting → Option ℕ → Keys
keys_of down waiting number = record { down = down; waiting = waiting; number = number }

-- nothing waits
abbrev pub nothing_waits : Waiting
nothing_waits = record { accent = None; composing = false }

-- no key is down
abbrev pub start_keys : Keys
start_keys = keys_of [] nothing_waits None

-- a key is the one of this keyboard and this keycode
abbrev pub is_key : ℕ → ℕ → Down → Bool
is_key from code d = d.from == from && d.code == code

-- the first key comes before the second one
abbrev pub is_before : ℕ → ℕ → ℕ → ℕ → Bool
is_before from code from2 code2 = nat_lt from from2 || (from == from2 && nat_lt code code2)

-- the action that was recorded at the press of a key, if it is down
unfoldable pub recorded_action : List Down → ℕ → ℕ → Option Act
recorded_action down from code = option_map (λ d. d.action) (find (is_key from code) down)

-- a key goes down: it stands between those before it and those after it
unfoldable pub with_key : List Down → ℕ → ℕ → Act → List Down
with_key down from code a =
    filter (λ d. is_before d.from d.code from code) down
    ++ down_as from code a ∷ filter (λ d. is_before from code d.from d.code) down

-- a key goes up
unfoldable pub without_key : List Down → ℕ → ℕ → List Down
without_key down from code = filter (λ d. not (is_key from code d)) down

-- a keyboard ends, with all its keys
unfoldable pub without_keyboard : List Down → ℕ → List Down
without_keyboard down from = filter (λ d. not (d.from == from)) down

abbrev pub after_unplug : ℕ → Keys → Keys
after_unplug from keys = record keys { down = without_keyboard keys.down from }

-- an action is this modifier
abbrev pub is_modifier : ℕ → Act → Bool
is_modifier v a = a.kind == MODIFIER && a.value == v

-- the weight of a modifier, once, if a key is down as it
abbrev pub weighs : List Down → ℕ → ℕ
weighs down v = if list_any (λ d. is_modifier v d.action) down then 2 ^ v else 0

-- the modifier weight: the sum of the distinct weights of the keys down on all keyboards
unfoldable pub weight_of : List Down → ℕ
weight_of down =
    weighs down 0 + weighs down 1 + weighs down 2 + weighs down 3
    + weighs down 4 + weighs down 5 + weighs down 6 + weighs down 7

-- a console's key state: its keyboard mode, the use of Meta, the flags and those of a reset, the lights if
-- they don't show the flags, and the locked and the sticky modifiers by their weights
pub record State : Type 0 where
  pub mode : ℕ
  pub meta : ℕ
  pub flags : ℕ
  pub defaults : ℕ
  pub lights : Option ℕ
  pub locks : ℕ
  pub sticky : ℕ

-- a flag is on
abbrev pub is_on : ℕ → ℕ → Bool
is_on flags flag = not (bit_and flags flag == 0)

-- the table in use: (the modifiers that are down or sticky) XOR the locked ones
abbrev pub table_of : ℕ → State → ℕ
table_of weight s = bit_xor (bit_or weight s.sticky) s.locks

abbrev pub state_of : ℕ → ℕ → ℕ → ℕ → Option ℕ → ℕ → ℕ → State
state_of mode meta flags defaults lights locks sticky = record {
  mode = mode;
  meta = meta;
  flags = flags;
  defaults = defaults;
  lights = lights;
  locks = locks;
  sticky = sticky;
}

-- K_UNICODE and K_ESCPREFIX, and nothing else
abbrev pub start_state : State
start_state = state_of 3 4 0 0 None 0 0

-- the modes of a start screen: keys that are held repeat
abbrev pub start_modes : KeyModes
start_modes = record { cursor = false; keypad = false; repeat = true; newline = false }
