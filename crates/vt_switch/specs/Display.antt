-- The display and the consoles, as the switch keeps them.
use Rattle.std.specs.Prelude.{◌≡◌, ◌==◌, ℕ, Bool, true, false, List, Option, Some, None, IfSome, option_map, slice_index_or, slice_set, is_some}
use Rattle.vt_switch.specs.declared.console.Console.{Console}
use Rattle.vt_switch.specs.declared.handling.Handling.{Handling}
use Rattle.vt_switch.specs.declared.handling.Handling.TheVariants.{Auto, Process}

-- the console in front and the previous one; whether switching is locked; the console that waits for the
-- display; and each console by its number, None if it isn't allocated
pub record Display : Type 0 where
  pub front : ℕ
  pub last : ℕ
  pub locked : Bool
  pub pending : Option ℕ
  pub consoles : List (Option Console)

abbrev pub display_of : ℕ → ℕ → Bool → Option ℕ → List (Option Console) → Display
display_of front last locked pending consoles = record {
  front = front;
  last = last;
  locked = locked;
  pending = pending;
  consoles = consoles;
}

-- a new console: text, and no process handles its switches
abbrev pub fresh : Console
fresh = record {
  graphics = false;
  handling = Auto (record { waitv = 0; relsig = 0; acqsig = 0; frsig = 0 });
}

-- a console that isn't allocated counts as a new one
abbrev pub or_fresh : Option Console → Console
or_fresh None = fresh
or_fresh (Some console) = console

abbrev pub place : Display → ℕ → Option Console
place d n = slice_index_or d.consoles n None

abbrev pub console : Display → ℕ → Console
console d n = or_fresh (place d n)

abbrev pub is_allocated : Display → ℕ → Bool
is_allocated d n = is_some (place d n)

-- the process that handles the switches of a console
abbrev pub owner_of : Handling → Option ℕ
owner_of (Auto words) = None
owner_of (Process handshake) = Some handshake.owner

-- the console n is changed, if it is allocated
abbrev pub with_console : Display → ℕ → (Console → Console) → Display
with_console d n change =
    record d { consoles = slice_set d.consoles n (option_map change (place d n)) }

-- console n is allocated and isn't in front, and a process handles the switches of the front
pub record MayWait (d : Display) (n : ℕ) : Type 0 where
  pub is_there : is_allocated d n ≡ true
  pub apart : (n == d.front) ≡ false
  pub asked : is_some (owner_of (console d d.front).handling) ≡ true

-- in every display the console in front is allocated, and one that waits may wait
pub record IsSound (d : Display) : Type 0 where
  pub has_front : is_allocated d d.front ≡ true
  pub has_pending : IfSome d.pending (MayWait d)
