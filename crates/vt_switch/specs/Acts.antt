-- The acts of the switch: every change of the display, of the pending request and of the handlers of switches
-- is a list of these.
use Rattle.std.specs.Prelude.{◌≡◌, ℕ, Bool, Option, Some, None, Result, Ok, Err}
use Rattle.vt_base.specs.declared.vt_mode.VtMode.{VtMode}
use Rattle.vt_base.specs.declared.inval.Inval.{Inval}
use Rattle.vt_switch.specs.Display.{Display}
use Rattle.vt_switch.specs.Calls.{allocate, request_outcome, free, release, release_result, request, set_mode, with_kd, with_lock}
use Rattle.vt_switch.specs.Deaths.{after_process_end, ended_hop}
use Rattle.vt_switch.specs.declared.asked.Asked.{Asked}
use Rattle.vt_switch.specs.declared.asked.Asked.TheVariants.{Hopped, Signalled, Ignored}
use Rattle.vt_switch.specs.declared.hop.Hop.{Hop}

pub data SwitchAct : Type 0 where
  Allocate : ℕ → SwitchAct
  Request : ℕ → SwitchAct
  Release : ℕ → ℕ → ℕ → SwitchAct
  SetMode : ℕ → ℕ → VtMode → SwitchAct
  SetKd : ℕ → Bool → SwitchAct
  Lock : Bool → SwitchAct
  Free : ℕ → SwitchAct
  End : ℕ → SwitchAct

-- the display after an act; a refused act changes nothing
abbrev pub after : Display → SwitchAct → Display
after d (Allocate n) = allocate d n
after d (Request n) = request d n
after d (Release c p arg) = release d c p arg
after d (SetMode c p m) = set_mode d c p m
after d (SetKd c graphics) = with_kd d c graphics
after d (Lock on) = with_lock d on
after d (Free n) = free d n
after d (End p) = after_process_end d p

abbrev pub hop_of_asked : Asked → Option Hop
hop_of_asked (Hopped hop) = Some hop
hop_of_asked (Signalled owner signal) = None
hop_of_asked Ignored = None

abbrev pub hop_of_released : Result (Option Hop) Inval → Option Hop
hop_of_released (Ok hop) = hop
hop_of_released (Err refused) = None

-- the hop that an act makes, with its cause
abbrev pub hop_of : Display → SwitchAct → Option Hop
hop_of d (Allocate n) = None
hop_of d (Request n) = hop_of_asked (request_outcome d n)
hop_of d (Release c p arg) = hop_of_released (release_result d c p arg)
hop_of d (SetMode c p m) = None
hop_of d (SetKd c graphics) = None
hop_of d (Lock on) = None
hop_of d (Free n) = None
hop_of d (End p) = ended_hop d p

-- from one display to the next: without a hop the console in front stays; with one the display goes
-- from the front to the hop's target, the old front is the previous one, and nothing is pending
abbrev pub Switches : Display → Display → Option Hop → Type 0
Switches d e None = e.front ≡ d.front
Switches d e (Some hop) =
    (hop.from ≡ d.front) × (e.front ≡ hop.to) × (e.last ≡ hop.from) × (e.pending ≡ None)

-- the display switches by hops alone
abbrev pub OnlyHopsSwitch : Type 0
OnlyHopsSwitch = (d : Display) (act : SwitchAct) → Switches d (after d act) (hop_of d act)
