-- All acts except an allocate and a free leave which consoles are allocated.
use Rattle.std.proofs.Common.{◌≡◌, ℕ, Bool, true, false, true≢false, List, [], ◌∷◌, get_or, map, Option, Some, None, refl, sym, ap, ◌∙◌}
use Rattle.std.proofs.Math.Seq.{map-set_same}
use Rattle.std.specs.Prelude.{◌==◌, Result, Ok, Err, is_some, option_map}
use Rattle.vt_base.specs.declared.inval.Inval.{Inval}
use Rattle.vt_switch.specs.Acts.{SwitchAct, Allocate, Request, Release, SetMode, SetKd, Lock, Free, End, after}
use Rattle.vt_switch.specs.Calls.{after_released, handling_of, release_result}
use Rattle.vt_switch.specs.Deaths.{after_hop, ended_hop, left_by}
use Rattle.vt_switch.specs.Display.{Display}
use Rattle.vt_switch.specs.declared.console.Console.{Console}
use Rattle.vt_switch.specs.declared.hop.Hop.{Hop}
use Rattle.vt_world.specs.Terminals.{TerminalState}
use Rattle.vt_world.proofs.Places.{either, kept, mode_alike}
use Rattle.vt_world.proofs.Requests.{request_alike}

abbrev pub stays : SwitchAct → Bool
stays (Allocate n) = false
stays (Request n) = true
stays (Release c p arg) = true
stays (SetMode c p m) = true
stays (SetKd c graphics) = true
stays (Lock on) = true
stays (Free n) = false
stays (End p) = true

released_alike : (d : Display) (arg : ℕ) (answer : Result (Option Hop) Inval)
    → (after_released d arg answer).consoles ≡ d.consoles
released_alike d arg (Ok (Some hop)) = refl
released_alike d arg (Ok None) = either (arg == 0) (record d { pending = None }) d refl
released_alike d arg (Err refused) = refl

hop_alike : (d : Display) (hop : Option Hop) → (after_hop d hop).consoles ≡ d.consoles
hop_alike d None = refl
hop_alike d (Some hop) = refl

each_kept : (f : Console → Console) (consoles : List (Option Console))
    → map is_some (map (option_map f) consoles) ≡ map is_some consoles
each_kept f [] = refl
each_kept f (c ∷ consoles) = λ i. kept f c i ∷ each_kept f consoles i

pub after_alike : (d : Display) (act : SwitchAct) → stays act ≡ true
    → map is_some (after d act).consoles ≡ map is_some d.consoles
after_alike d (Allocate n) it = absurd (true≢false (sym it))
after_alike d (Request n) it = ap (map is_some) (request_alike d n)
after_alike d (Release c p arg) it = ap (map is_some) (released_alike d arg (release_result d c p arg))
after_alike d (SetMode c p m) it = mode_alike d c (handling_of p m)
after_alike d (SetKd c graphics) it =
    let new : Console → Console = λ console. record console { graphics = graphics } in
    map-set_same is_some d.consoles c (option_map new (get_or d.consoles c None)) None
    (kept new (get_or d.consoles c None))
after_alike d (Lock on) it = refl
after_alike d (Free n) it = absurd (true≢false (sym it))
after_alike d (End p) it =
    ap (map is_some)
    (hop_alike (record d { consoles = map (option_map (left_by p)) d.consoles }) (ended_hop d p))
    ∙ each_kept (left_by p) d.consoles

-- so the consoles that have a terminal stay those that are allocated
pub still_alike : (terminals : List (Option TerminalState)) (d e : Display) (act : SwitchAct)
    → stays act ≡ true → e ≡ after d act
    → map is_some terminals ≡ map is_some d.consoles → map is_some terminals ≡ map is_some e.consoles
still_alike terminals d e act it is alike =
    alike ∙ sym (ap (λ (x : Display). map is_some x.consoles) is ∙ after_alike d act it)
