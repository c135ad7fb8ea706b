-- The effect of a scan byte, or of a key, on a keyboard and a console's key state, and its result.
use Rattle.std.specs.Prelude.{ℕ, Bool, nat_le, ◌&&◌, ◌==◌, [], ◌∷◌, Option, Some, None, if◌then◌else◌}
use Rattle.key_machine.specs.Keys.{State}
use Rattle.key_machine.specs.Numbers.{RAW}
use Rattle.key_machine.specs.Step.{key_step}
use Rattle.key_machine.specs.declared.key_modes.KeyModes.{KeyModes}
use Rattle.key_machine.specs.declared.key_out.KeyOut.{KeyOut}
use Rattle.key_machine.specs.declared.key_out.KeyOut.TheVariants as key_out
use Rattle.scan_codes.specs.Scan.{bytes_after, event_after}
use Rattle.scan_codes.specs.declared.key_event.KeyEvent.{KeyEvent}
use Rattle.keys_c.specs.KeyboardView.{KeyboardView}

-- a keyboard, a console's key state, and the result of a scan byte or a key
pub record ScanStep : Type 0 where
  pub keyboard : KeyboardView
  pub state : State
  pub out : KeyOut

abbrev pub scan_step : KeyboardView → State → KeyOut → ScanStep
scan_step k s out = record { keyboard = k; state = s; out = out }

-- the scanner has read a byte
abbrev pub with_byte : KeyboardView → ℕ → KeyboardView
with_byte k b = record k { scanner = record k.scanner { bytes = bytes_after k.scanner.bytes b } }

-- a key is typed into a console, if there is one
abbrev pub event_step : KeyModes → KeyboardView → State → Option KeyEvent → ScanStep
event_step modes k s None = scan_step k s key_out.Nothing
event_step modes k s (Some e) =
    let done = key_step k.tables modes 0 e k.keys s in
    scan_step (record k { keys = done.keys }) done.state done.out

-- a scan byte is read, and the key that it ends is typed into a console
abbrev pub byte_step : KeyModes → ℕ → KeyboardView → State → ScanStep
byte_step modes b k s = event_step modes (with_byte k b) s (event_after k.scanner.codes k.scanner.bytes b)

-- in K_RAW the scan byte itself is sent (ioctl_console(2), KDSKBMODE), unless the attention key acts
abbrev pub raw_out : ℕ → KeyOut → KeyOut
raw_out b key_out.Attention = key_out.Attention
raw_out b out = key_out.Bytes (b ∷ [])

abbrev pub out_in_mode : ℕ → ℕ → KeyOut → KeyOut
out_in_mode mode b out = if mode == RAW then raw_out b out else out

-- a key by its keycode goes down or up
abbrev pub key_event : ℕ → Bool → KeyEvent
key_event code is_down = record { code = code; down = is_down }

-- keycode 0 is none
abbrev pub is_keycode : ℕ → Bool
is_keycode code = nat_le 1 code && nat_le code 255
