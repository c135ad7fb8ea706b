-- The display switches by hops alone.
use Rattle.std.proofs.Common.{◌≡◌, ℕ, Bool, true, false, cond, Option, Some, None, Result, Ok, Err, refl}
use Rattle.std.specs.Prelude.{map, option_map, ◌==◌, ◌||◌, not}
use Rattle.vt_base.specs.declared.inval.Inval.{Inval}
use Rattle.vt_switch.specs.Acts.{Allocate, Request, Release, SetMode, SetKd, Lock, Free, End, Switches, OnlyHopsSwitch, hop_of_asked, hop_of_released}
use Rattle.vt_switch.specs.Deaths.{after_hop, falls_to, left_by}
use Rattle.vt_switch.specs.Display.{Display, console, is_allocated}
use Rattle.vt_switch.specs.Calls.{after_asked, without_console, is_held, after_mode, after_released, asked_of, with_console_handling, handling_of, inval, drop_pending, let_go, owns, pending_at}
use Rattle.vt_switch.specs.declared.asked.Asked.TheVariants.{Ignored}
use Rattle.vt_switch.specs.declared.handling.Handling.{Handling}
use Rattle.vt_switch.specs.declared.handling.Handling.TheVariants.{Auto, Process}
use Rattle.vt_switch.specs.declared.hop.Hop.{Hop}

by_request : (d : Display) (n : ℕ) (ignored graphics : Bool) (handling : Handling)
    → Switches d (after_asked d n (cond ignored Ignored (asked_of d n graphics handling)))
    (hop_of_asked (cond ignored Ignored (asked_of d n graphics handling)))
by_request d n true graphics handling = refl
by_request d n false graphics (Process handshake) = refl
by_request d n false true (Auto words) = refl
by_request d n false false (Auto words) = (refl, refl, refl, refl)

front_stays : (d e : Display) (b : Bool) → d.front ≡ e.front → (cond b d e).front ≡ e.front
front_stays d e true same = same
front_stays d e false same = refl

abbrev answer : Display → ℕ → Bool → Bool → Bool → Bool → Option ℕ → Result (Option Hop) Inval
answer d p other keeps goes knows waits =
    cond other (Err inval) (cond keeps (drop_pending waits)
    (cond goes (let_go d p waits) (cond knows (Ok None) (Err inval))))

by_release : (d : Display) (p arg : ℕ) (other keeps goes knows : Bool) (waits : Option ℕ)
    → Switches d (after_released d arg (answer d p other keeps goes knows waits))
    (hop_of_released (answer d p other keeps goes knows waits))
by_release d p arg true keeps goes knows waits = refl
by_release d p arg false true goes knows None = refl
by_release d p arg false true goes knows (Some n) =
    front_stays (record d { pending = None }) d (arg == 0) refl
by_release d p arg false false true knows None = refl
by_release d p arg false false true knows (Some n) = (refl, refl, refl, refl)
by_release d p arg false false false true waits =
    front_stays (record d { pending = None }) d (arg == 0) refl
by_release d p arg false false false false waits = refl

by_mode : (d : Display) (c : ℕ) (handling : Option Handling)
    → (after_mode d c handling).front ≡ d.front
by_mode d c None = refl
by_mode d c (Some handling) =
    front_stays (record (with_console_handling d c handling) { pending = None }) (with_console_handling d c handling)
    (c == d.front) refl

by_end : (d : Display) (p : ℕ) (front : Bool) (waits : Option ℕ)
    → Switches d
    (after_hop (record d { consoles = map (option_map (left_by p)) d.consoles })
    (cond front (falls_to d p waits) None))
    (cond front (falls_to d p waits) None)
by_end d p false waits = refl
by_end d p true None = refl
by_end d p true (Some n) = (refl, refl, refl, refl)

pub only_hops_switch : OnlyHopsSwitch
only_hops_switch d (Allocate n) = refl
only_hops_switch d (Request n) =
    by_request d n (not (is_allocated d n) || n == d.front || d.locked)
    (console d d.front).graphics (console d d.front).handling
only_hops_switch d (Release c p arg) =
    by_release d p arg (not (owns d p c)) (arg == 0) (arg == 1) (arg == 2) (pending_at d c)
only_hops_switch d (SetMode c p m) = by_mode d c (handling_of p m)
only_hops_switch d (SetKd c graphics) = refl
only_hops_switch d (Lock on) = refl
only_hops_switch d (Free n) = front_stays d (without_console d n) (is_held d n) refl
only_hops_switch d (End p) = by_end d p (owns d p d.front) d.pending
