-- Each process that handles the switches of a console is alive, also after a change of the machine.
use Rattle.std.proofs.Common.{◌≡◌, ℕ, zero, suc, Bool, true, false, true≢false, cond, List, [], ◌∷◌, get_or, map, Option, Some, None, refl, sym, ap, subst, ◌∙◌}
use Rattle.std.proofs.Math.ListN.{get_or-map}
use Rattle.std.proofs.lemmas.List.{map-set}
use Rattle.std.specs.List.{range_with_len}
use Rattle.std.specs.Prelude.{is_some}
use Rattle.std.proofs.lemmas.Option.{none-some}
use Rattle.vt_base.specs.ConsoleSet.{is_among}
use Rattle.vt_base.specs.declared.vt_mode.VtMode.{VtMode}
use Rattle.vt_procs.specs.Callers.{Callers, caller_at, after_exit, dead_process, is_live, no_caller, with_caller}
use Rattle.vt_procs.specs.declared.process.Process.{Process}
use Rattle.vt_switch.specs.Acts.{SwitchAct, SetMode, End, after}
use Rattle.vt_switch.specs.Calls.{first_display}
use Rattle.vt_switch.specs.Display.{Display, fresh, or_fresh, owner_of}
use Rattle.vt_switch.specs.Law.{OwnersLive, OwnersStayLive}
use Rattle.vt_switch.specs.Moments.{Core, core_after}
use Rattle.vt_switch.specs.declared.console.Console.{Console}
use Rattle.vt_world.proofs.Cores.{lives, with_kept}
use Rattle.vt_world.proofs.Stays.{still_alike, stays}
use Rattle.vt_world.specs.State.{IsWorld, core_of}
use Rattle.vt_world.specs.Terminals.{TerminalState}

-- after an act that makes a core of this one
pub after_act : OwnersStayLive → (k l : Core) (act : SwitchAct) → core_after k act ≡ l
    → OwnersLive k → OwnersLive l
after_act law k l act is owners = subst OwnersLive is (law k ((act ∷ []) ∷ []) owners)

-- an act that leaves which consoles are allocated, and which callers are alive
pub still_world : {terminals : List (Option TerminalState)} {d e : Display} {callers : Callers}
    → OwnersStayLive → (act : SwitchAct) → stays act ≡ true
    → core_after (core_of d callers) act ≡ core_of (after d act) callers
    → e ≡ after d act → IsWorld terminals d callers → IsWorld terminals e callers
still_world {terminals = terminals} {d = d} {e = e} {callers = callers} law act it same is w = record {
  alike = still_alike terminals d e act it is w.alike;
  owners =
      after_act law (core_of d callers) (core_of e callers) act
      (same ∙ ap (λ (x : Display). core_of x callers) (sym is)) w.owners;
}

-- other terminals, of the same consoles
pub alike_world : {old new : List (Option TerminalState)} {d : Display} {callers : Callers}
    → map is_some new ≡ map is_some old → IsWorld old d callers → IsWorld new d callers
alike_world same w = record { alike = same ∙ w.alike; owners = w.owners }

-- other callers, of which the same are alive
pub same_live : {terminals : List (Option TerminalState)} {d : Display} {old new : Callers}
    → lives new ≡ lives old → IsWorld terminals d old → IsWorld terminals d new
same_live {d = d} same w = record {
  alike = w.alike;
  owners = subst (λ (live : List Bool). OwnersLive (record { display = d; live = live })) (sym same) w.owners;
}

-- another process at the place of p, alive if p was
pub one_kept : {terminals : List (Option TerminalState)} {d : Display} {old new : Callers} (p : ℕ) (x : Process)
    → new ≡ with_caller old p x → x.live ≡ (caller_at old p).live → IsWorld terminals d old
    → IsWorld terminals d new
one_kept {old = old} p x is same w = same_live (ap lives is ∙ with_kept old p x same) w

-- the callers that are alive in the list are those of the core
live_in : (callers : Callers) (p : ℕ) → get_or (lives callers) p false ≡ is_live callers p
live_in callers p = get_or-map (λ (caller : Process). caller.live) callers.list p no_caller

-- a live caller sets a mode
mode_if : (b : Bool) (k : Core) (d : Display) → b ≡ true
    → cond b (record k { display = d }) k ≡ record k { display = d }
mode_if true k d it = refl
mode_if false k d it = absurd (true≢false (sym it))

pub set_mode : (d : Display) (callers : Callers) (c p : ℕ) (m : VtMode) → is_live callers p ≡ true
    → core_after (core_of d callers) (SetMode c p m) ≡ core_of (after d (SetMode c p m)) callers
set_mode d callers c p m it =
    mode_if (get_or (lives callers) p false) (core_of d callers) (after d (SetMode c p m))
    (live_in callers p ∙ it)

-- a caller that ended is dead
pub end_core : (d : Display) (callers : Callers) (p : ℕ)
    → core_after (core_of d callers) (End p) ≡ core_of (after d (End p)) (after_exit p callers)
end_core d callers p =
    ap (λ (live : List Bool). record { display = after d (End p); live = live })
    (sym (map-set (λ (caller : Process). caller.live) callers.list p (dead_process (caller_at callers p))))

-- at a start every console is fresh
fresh_if : (b : Bool) → or_fresh (cond b (Some fresh) None) ≡ fresh
fresh_if true = refl
fresh_if false = refl

all_fresh : (consoles : ℕ) (numbers : List ℕ) (c : ℕ)
    → or_fresh (get_or (map (λ n. cond (is_among consoles n) (Some fresh) None) numbers) c None)
    ≡ fresh
all_fresh consoles [] c = refl
all_fresh consoles (n ∷ numbers) zero = fresh_if (is_among consoles n)
all_fresh consoles (n ∷ numbers) (suc c) = all_fresh consoles numbers c

pub first_owners : (consoles front : ℕ) (callers : Callers)
    → OwnersLive (core_of (first_display consoles front) callers)
first_owners consoles front callers c p owned =
    absurd (none-some p (sym (ap (λ (place : Console). owner_of place.handling) (all_fresh consoles (range_with_len 0 64) c)) ∙ owned))
