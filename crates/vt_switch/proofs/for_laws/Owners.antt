-- Each process that handles the switches of a console is alive, also after an act.
use Rattle.std.proofs.Common.{◌≡◌, ℕ, Bool, true, false, cond, List, get_or, set, Option, Some, None, Result, Ok, Err, refl, sym, ap, subst, ◌∙◌}
use Rattle.std.proofs.Math.ListN.{get_or-map}
use Rattle.std.proofs.lemmas.List.{get_or-set_other}
use Rattle.std.specs.Prelude.{◌==◌, option_map}
use Rattle.std.proofs.lemmas.Option.{none-some, same_Some}
use Rattle.vt_base.specs.declared.inval.Inval.{Inval}
use Rattle.vt_base.specs.declared.vt_mode.VtMode.{VtMode}
use Rattle.vt_switch.proofs.Lookups.{set_either, unequal}
use Rattle.vt_switch.proofs.Sound.{given_back}
use Rattle.vt_switch.proofs.for_laws.Stays.{owner_in, with_graphics, with_handling}
use Rattle.vt_switch.specs.Acts.{SwitchAct, Allocate, Request, Release, SetMode, SetKd, Lock, Free, End}
use Rattle.vt_switch.specs.Calls.{after_asked, after_mode, after_released, request_outcome, without_console, with_console_handling, handling_of, is_held, names, process_of, release_result, signal_of}
use Rattle.vt_switch.specs.Deaths.{after_hop, ended_hop, left_by}
use Rattle.vt_switch.specs.Display.{Display, fresh, or_fresh, owner_of}
use Rattle.vt_switch.specs.Law.{OwnersLive}
use Rattle.vt_switch.specs.Moments.{Core, core_after, is_live}
use Rattle.vt_switch.specs.declared.asked.Asked.{Asked}
use Rattle.vt_switch.specs.declared.asked.Asked.TheVariants.{Hopped, Signalled, Ignored}
use Rattle.vt_switch.specs.declared.console.Console.{Console}
use Rattle.vt_switch.specs.declared.handling.Handling.{Handling}
use Rattle.vt_switch.specs.declared.handling.Handling.TheVariants.{Auto}
use Rattle.vt_switch.specs.declared.hop.Hop.{Hop}
use Rattle.vt_switch.specs.declared.words.Words.{Words}

-- the owner in a place lives
abbrev Lives : List Bool → Option Console → Type 0
Lives live place = (p : ℕ) → owner_in place ≡ Some p → get_or live p false ≡ true

abbrev AllLive : List Bool → List (Option Console) → Type 0
AllLive live consoles = (c : ℕ) → Lives live (get_or consoles c None)

set_live : (live : List Bool) (consoles : List (Option Console)) (c : ℕ) (place : Option Console)
    → AllLive live consoles → Lives live place → AllLive live (set consoles c place)
set_live live consoles c place all here n =
    set_either (Lives live) consoles c n place None here (all n)

same_live : (live : List Bool) (old new : List (Option Console)) → new ≡ old
    → AllLive live old → AllLive live new
same_live live old new same all = subst (AllLive live) (sym same) all

pub asked_same : (d : Display) (n : ℕ) (a : Asked) → (after_asked d n a).consoles ≡ d.consoles
asked_same d n (Hopped hop) = refl
asked_same d n (Signalled owner signal) = refl
asked_same d n Ignored = refl

pub either_same : (b : Bool) (d e : Display) → d.consoles ≡ e.consoles → (cond b d e).consoles ≡ e.consoles
either_same true d e same = same
either_same false d e same = refl

pub released_same : (d : Display) (arg : ℕ) (r : Result (Option Hop) Inval)
    → (after_released d arg r).consoles ≡ d.consoles
released_same d arg (Ok (Some hop)) = refl
released_same d arg (Ok None) = either_same (arg == 0) (record d { pending = None }) d refl
released_same d arg (Err refused) = refl

pub hop_same : (d : Display) (hop : Option Hop) → (after_hop d hop).consoles ≡ d.consoles
hop_same d None = refl
hop_same d (Some hop) = refl

abbrev handler : Option Handling → Option ℕ
handler None = None
handler (Some handling) = owner_of handling

-- who sets a mode is its owner
by_process : (p q : ℕ) (m : VtMode) (relsig acqsig : Option ℕ) (h : Handling)
    → process_of p m relsig acqsig ≡ Some h → owner_of h ≡ Some q → p ≡ q
by_process p q m (Some relsig) (Some acqsig) h is owned =
    same_Some p q (ap handler is ∙ owned)
by_process p q m (Some relsig) None h is owned = absurd (none-some q (ap handler is ∙ owned))
by_process p q m None acqsig h is owned = absurd (none-some q (ap handler is ∙ owned))

by_words : (p q : ℕ) (m : VtMode) (auto process : Bool) (words : Words) (h : Handling)
    → cond auto (Some (Auto words))
    (cond process (process_of p m (signal_of m.relsig) (signal_of m.acqsig)) None) ≡ Some h
    → owner_of h ≡ Some q → p ≡ q
by_words p q m true process words h is owned = absurd (none-some q (ap handler is ∙ owned))
by_words p q m false true words h is owned =
    by_process p q m (signal_of m.relsig) (signal_of m.acqsig) h is owned
by_words p q m false false words h is owned = absurd (none-some q (ap handler is ∙ owned))

sets_itself : (p q : ℕ) (m : VtMode) (h : Handling) → handling_of p m ≡ Some h
    → owner_of h ≡ Some q → p ≡ q
sets_itself p q m h is owned =
    by_words p q m (m.mode == 0) (m.mode == 1)
    (record { waitv = m.waitv; relsig = m.relsig; acqsig = m.acqsig; frsig = m.frsig }) h is owned

handled_lives : (live : List Bool) (p : ℕ) (m : VtMode) (h : Handling) (place : Option Console)
    → handling_of p m ≡ Some h → get_or live p false ≡ true
    → Lives live (option_map (with_handling h) place)
handled_lives live p m h None is lives q owned = absurd (none-some q owned)
handled_lives live p m h (Some console) is lives q owned =
    subst (λ r. get_or live r false ≡ true) (sets_itself p q m h is owned) lives

mode_live : (k : Core) (c p : ℕ) (m : VtMode) (lives : Bool) (h : Option Handling)
    → is_live k p ≡ lives → handling_of p m ≡ h → AllLive k.live k.display.consoles
    → AllLive (cond lives (record k { display = after_mode k.display c h }) k).live
    (cond lives (record k { display = after_mode k.display c h }) k).display.consoles
mode_live k c p m false h is sets all = all
mode_live k c p m true None is sets all = all
mode_live k c p m true (Some h) is sets all =
    let d = k.display in
    same_live k.live (with_console_handling d c h).consoles
    (cond (c == d.front) (record (with_console_handling d c h) { pending = None }) (with_console_handling d c h)).consoles
    (either_same (c == d.front) (record (with_console_handling d c h) { pending = None }) (with_console_handling d c h) refl)
    (set_live k.live d.consoles c
    (option_map (with_handling h) (get_or d.consoles c None)) all
    (handled_lives k.live p m h (get_or d.consoles c None) sets is))

shown_lives : (live : List Bool) (graphics : Bool) (place : Option Console) → Lives live place
    → Lives live (option_map (with_graphics graphics) place)
shown_lives live graphics None all q owned = absurd (none-some q owned)
shown_lives live graphics (Some console) all q owned = all q owned

free_live : (k : Core) (c : ℕ) (held : Bool) → AllLive k.live k.display.consoles
    → AllLive k.live (cond held k.display (without_console k.display c)).consoles
free_live k c true all = all
free_live k c false all =
    set_live k.live k.display.consoles c None all (λ q owned. absurd (none-some q owned))

-- after the end of p, the owner in a place is another, who lives
by_left : (live : List Bool) (p q : ℕ) (mine : Bool) (console : Console)
    → names p (owner_of console.handling) ≡ mine
    → ((r : ℕ) → owner_of console.handling ≡ Some r → get_or live r false ≡ true)
    → owner_of (cond mine fresh console).handling ≡ Some q
    → get_or (set live p false) q false ≡ true
by_left live p q true console is all owned = absurd (none-some q owned)
by_left live p q false console is all owned =
    let other : (q == p) ≡ false = sym (ap (names p) owned) ∙ is in
    get_or-set_other live p q false false (λ same. unequal q p other (sym same)) ∙ all q owned

left_lives : (live : List Bool) (p : ℕ) (place : Option Console) → Lives live place
    → Lives (set live p false) (option_map (left_by p) place)
left_lives live p None all q owned = absurd (none-some q owned)
left_lives live p (Some console) all q owned =
    by_left live p q (names p (owner_of console.handling)) console refl all owned

end_live : (k : Core) (p : ℕ) → AllLive k.live k.display.consoles
    → AllLive (set k.live p false) (given_back k.display p).consoles
end_live k p all n q owned =
    left_lives k.live p (get_or k.display.consoles n None) (all n) q
    (sym (ap owner_in (get_or-map (option_map (left_by p)) k.display.consoles n None)) ∙ owned)

pub owners_live : (k : Core) (act : SwitchAct) → OwnersLive k → OwnersLive (core_after k act)
owners_live k (Allocate c) all =
    set_live k.live k.display.consoles c (Some (or_fresh (get_or k.display.consoles c None))) all
    (all c)
owners_live k (Request n) all =
    same_live k.live k.display.consoles (core_after k (Request n)).display.consoles
    (asked_same k.display n (request_outcome k.display n)) all
owners_live k (Release c p arg) all =
    same_live k.live k.display.consoles (core_after k (Release c p arg)).display.consoles
    (released_same k.display arg (release_result k.display c p arg)) all
owners_live k (SetMode c p m) all = mode_live k c p m (is_live k p) (handling_of p m) refl refl all
owners_live k (SetKd c graphics) all =
    let place : Option Console = get_or k.display.consoles c None in
    set_live k.live k.display.consoles c
    (option_map (with_graphics graphics) place) all
    (shown_lives k.live graphics place (all c))
owners_live k (Lock on) all = all
owners_live k (Free c) all = free_live k c (is_held k.display c) all
owners_live k (End p) all =
    same_live (set k.live p false) (given_back k.display p).consoles
    (core_after k (End p)).display.consoles
    (hop_same (given_back k.display p) (ended_hop k.display p)) (end_live k p all)
