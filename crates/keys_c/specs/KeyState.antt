-- A console's key state as C holds it.
use Rattle.std.specs.Prelude.{ℕ, ◌==◌, ◌&&◌, ◌||◌, Bool, Option, Some, None, unwrap_or, nat_le, replicate, if◌then◌else◌}
use Rattle.std.specs.Str.{bytes_eq}
use Rattle.key_machine.specs.Keys.{State}
use Rattle.keys_c.specs.declared.vt_key_state.VtKeyState.{VtKeyState}

-- VT_LIGHTS_FOLLOW: the lights show the flags (ioctl_console(2), KDSETLED)
abbrev pub FOLLOW : ℕ
FOLLOW = 255

-- the lights that C holds: those that were set, or those that follow the flags
abbrev pub lights_of : ℕ → Option ℕ
lights_of lights = if lights == FOLLOW then None else Some lights

-- each number is in its range, and the spare bytes are 0
abbrev pub is_key_state : VtKeyState → Bool
is_key_state c =
    nat_le c.mode 4
    && (nat_le 3 c.meta && (nat_le c.meta 4
    && (nat_le c.flags 7 && (nat_le c.defaults 7
    && ((nat_le c.lights 7 || c.lights == FOLLOW)
    && bytes_eq c.spare (replicate 9 0))))))

-- the state that C passes
abbrev pub state_in : VtKeyState → State
state_in c = record {
  mode = c.mode;
  meta = c.meta;
  flags = c.flags;
  defaults = c.defaults;
  lights = lights_of c.lights;
  locks = c.locks;
  sticky = c.sticky;
}

-- a state in the place of the one that C passed; the spare bytes stay
abbrev pub state_out : State → VtKeyState → VtKeyState
state_out s c = record {
  mode = s.mode;
  meta = s.meta;
  flags = s.flags;
  defaults = s.defaults;
  lights = unwrap_or s.lights FOLLOW;
  locks = s.locks;
  sticky = s.sticky;
  spare = c.spare;
}
