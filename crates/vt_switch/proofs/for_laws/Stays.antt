-- The state after an act that requests nothing, if a console waits after it: the console in front, its owner,
-- and the console that waits are unchanged.
use Rattle.std.proofs.Common.{◌≡◌, ℕ, Bool, true, false, cond, List, get_or, Option, Some, None, Result, Ok, Err, refl, rules, sym, ap, subst, ◌∙◌}
use Rattle.std.proofs.Math.ListN.{get_or-map}
use Rattle.std.proofs.lemmas.List.{get_or-set_other}
use Rattle.std.specs.Prelude.{◌==◌, ◌&&◌, ◌||◌, not, is_some, option_map}
use Rattle.std.proofs.lemmas.Bool.{and_right, false≢true, or_parts}
use Rattle.std.proofs.lemmas.Option.{none-some}
use Rattle.vt_base.specs.declared.inval.Inval.{Inval}
use Rattle.vt_base.specs.declared.vt_mode.VtMode.{VtMode}
use Rattle.vt_switch.proofs.Lookups.{set_alike, unequal}
use Rattle.vt_switch.proofs.Sound.{given_back, still}
use Rattle.vt_switch.specs.Acts.{SwitchAct, Allocate, Request, Release, SetMode, SetKd, Lock, Free, End, hop_of, hop_of_released}
use Rattle.vt_switch.specs.Calls.{after_mode, after_released, without_console, with_console_handling, handling_of, inval, is_held, drop_pending, let_go, names, owns, pending_at}
use Rattle.vt_switch.specs.Deaths.{after_hop, falls_to, left_by}
use Rattle.vt_switch.specs.Display.{Display, console, or_fresh, owner_of}
use Rattle.vt_switch.specs.Moments.{Core, accepts, core_after, is_live, is_request, refuses, sets_mode}
use Rattle.vt_switch.specs.declared.console.Console.{Console}
use Rattle.vt_switch.specs.declared.handling.Handling.{Handling}
use Rattle.vt_switch.specs.declared.hop.Hop.{Hop}

abbrev pub owner_in : Option Console → Option ℕ
owner_in place = owner_of (or_fresh place).handling

abbrev pub with_graphics : Bool → Console → Console
with_graphics graphics console = record console { graphics = graphics }

abbrev pub with_handling : Handling → Console → Console
with_handling h console = record console { handling = h }

pub record Stays (k : Core) (act : SwitchAct) (n : ℕ) : Type 0 where
  pub front : (core_after k act).display.front ≡ k.display.front
  pub owner :
      owner_in (get_or (core_after k act).display.consoles k.display.front None)
      ≡ owner_in (get_or k.display.consoles k.display.front None)
  pub waits : k.display.pending ≡ Some n
  pub no_mode : sets_mode k.display.front k act ≡ false
  pub no_refusal : refuses k.display.front k act ≡ false
  pub no_hop : hop_of k.display act ≡ None

-- a release, with its tests as variables
abbrev answer : Display → ℕ → Bool → Bool → Bool → Bool → Option ℕ → Result (Option Hop) Inval
answer d p other keeps goes knows waits =
    cond other (Err inval) (cond keeps (drop_pending waits)
    (cond goes (let_go d p waits) (cond knows (Ok None) (Err inval))))

record Left (d e : Display) (n : ℕ) (here keeps : Bool) (r : Result (Option Hop) Inval) : Type 0 where
  front : e.front ≡ d.front
  consoles : e.consoles ≡ d.consoles
  waits : d.pending ≡ Some n
  no_refusal : (here && (keeps && accepts r)) ≡ false
  no_hop : hop_of_released r ≡ None

refused : (d : Display) (arg n : ℕ) (here keeps : Bool) → d.pending ≡ Some n
    → Left d (after_released d arg (Err inval)) n here keeps (Err inval)
refused d arg n here keeps waits = record {
  front = refl;
  consoles = refl;
  waits = waits;
  no_refusal = and_right here (keeps && false) (and_right keeps false refl);
  no_hop = refl;
}

by_release : (d : Display) (p arg n : ℕ) (here other keeps goes knows : Bool) (waits : Option ℕ)
    → (arg == 0) ≡ keeps
    → (after_released d arg (answer d p other keeps goes knows waits)).pending ≡ Some n
    → Left d (after_released d arg (answer d p other keeps goes knows waits)) n here keeps
    (answer d p other keeps goes knows waits)
by_release d p arg n here true keeps goes knows waits is left = refused d arg n here keeps left
by_release d p arg n here false true goes knows None is left = refused d arg n here true left
by_release d p arg n here false true goes knows (Some w) is left =
    absurd (none-some n (subst (λ b. (cond b (record d { pending = None }) d).pending ≡ Some n) is left))
by_release d p arg n here false false true knows None is left =
    refused d arg n here false left
by_release d p arg n here false false true knows (Some w) is left = absurd (none-some n left)
by_release d p arg n here false false false true waits is left = record {
  front = ap (λ b. (cond b (record d { pending = None }) d).front) is;
  consoles = ap (λ b. (cond b (record d { pending = None }) d).consoles) is;
  waits = subst (λ b. (cond b (record d { pending = None }) d).pending ≡ Some n) is left;
  no_refusal = and_right here false refl;
  no_hop = refl;
}
by_release d p arg n here false false false false waits is left =
    refused d arg n here false left

release_stays : (k : Core) (c p arg n : ℕ)
    → (core_after k (Release c p arg)).display.pending ≡ Some n → Stays k (Release c p arg) n
release_stays k c p arg n left =
    let d = k.display in
    let l =
    by_release d p arg n (c == d.front) (not (owns d p c)) (arg == 0) (arg == 1) (arg == 2)
    (pending_at d c) refl left in
    record {
      front = l.front;
      owner = ap (λ (cs : List (Option Console)). owner_in (get_or cs d.front None)) l.consoles;
      waits = l.waits;
      no_mode = refl;
      no_refusal = l.no_refusal;
      no_hop = l.no_hop;
    }

-- a set mode, with its tests as variables
record Moded (d e : Display) (n : ℕ) (here accepted : Bool) : Type 0 where
  front : e.front ≡ d.front
  owner : owner_in (get_or e.consoles d.front None) ≡ owner_in (get_or d.consoles d.front None)
  waits : d.pending ≡ Some n
  no_mode : (here && accepted) ≡ false

by_handling : (d : Display) (c n : ℕ) (here : Bool) (h : Handling) → (c == d.front) ≡ here
    → (cond here (record (with_console_handling d c h) { pending = None }) (with_console_handling d c h)).pending ≡ Some n
    → Moded d (cond here (record (with_console_handling d c h) { pending = None }) (with_console_handling d c h)) n here true
by_handling d c n true h is left = absurd (none-some n left)
by_handling d c n false h is left =
    record {
      front = refl;
      owner = ap owner_in
          (get_or-set_other d.consoles c d.front (option_map (with_handling h) (get_or d.consoles c None)) None
          (unequal c d.front is));
      waits = left;
      no_mode = refl;
    }

by_mode : (k : Core) (c n : ℕ) (live : Bool) (h : Option Handling)
    → (cond live (record k { display = after_mode k.display c h }) k).display.pending ≡ Some n
    → Moded k.display (cond live (record k { display = after_mode k.display c h }) k).display n
    (c == k.display.front) (live && is_some h)
by_mode k c n false h left = record {
  front = refl;
  owner = refl;
  waits = left;
  no_mode = and_right (c == k.display.front) false refl;
}
by_mode k c n true None left = record {
  front = refl;
  owner = refl;
  waits = left;
  no_mode = and_right (c == k.display.front) false refl;
}
by_mode k c n true (Some h) left =
    by_handling k.display c n (c == k.display.front) h refl left

mode_stays : (k : Core) (c p n : ℕ) (m : VtMode)
    → (core_after k (SetMode c p m)).display.pending ≡ Some n → Stays k (SetMode c p m) n
mode_stays k c p n m left =
    let l = by_mode k c n (is_live k p) (handling_of p m) left in search rules

allocate_stays : (k : Core) (c n : ℕ)
    → (core_after k (Allocate c)).display.pending ≡ Some n → Stays k (Allocate c) n
allocate_stays k c n left = record {
  front = refl;
  owner = set_alike owner_in k.display.consoles c k.display.front
      (Some (or_fresh (get_or k.display.consoles c None))) None refl;
  waits = left;
  no_mode = refl;
  no_refusal = refl;
  no_hop = refl;
}

graphics_alike : (graphics : Bool) (place : Option Console)
    → owner_in (option_map (with_graphics graphics) place)
    ≡ owner_in place
graphics_alike graphics None = refl
graphics_alike graphics (Some c) = refl

kd_stays : (k : Core) (c n : ℕ) (graphics : Bool)
    → (core_after k (SetKd c graphics)).display.pending ≡ Some n → Stays k (SetKd c graphics) n
kd_stays k c n graphics left =
    let place : Option Console = get_or k.display.consoles c None in
    record {
      front = refl;
      owner = set_alike owner_in k.display.consoles c k.display.front
          (option_map (with_graphics graphics) place) None
          (graphics_alike graphics place);
      waits = left;
      no_mode = refl;
      no_refusal = refl;
      no_hop = refl;
    }

lock_stays : (k : Core) (n : ℕ) (on : Bool)
    → (core_after k (Lock on)).display.pending ≡ Some n → Stays k (Lock on) n
lock_stays k n on left = record {
  front = refl;
  owner = refl;
  waits = left;
  no_mode = refl;
  no_refusal = refl;
  no_hop = refl;
}

record Freed (d e : Display) (n : ℕ) : Type 0 where
  front : e.front ≡ d.front
  owner : owner_in (get_or e.consoles d.front None) ≡ owner_in (get_or d.consoles d.front None)
  waits : d.pending ≡ Some n

by_free : (d : Display) (c n : ℕ) (held : Bool) → is_held d c ≡ held
    → (cond held d (without_console d c)).pending ≡ Some n → Freed d (cond held d (without_console d c)) n
by_free d c n true is left = record { front = refl; owner = refl; waits = left }
by_free d c n false is left =
    let other : (c == d.front) ≡ false =
    (or_parts (c == d.front) (names c d.pending) ((or_parts (c == d.front || names c d.pending) (is_some (owner_of (console d c).handling)) is).0)).0 in
    record {
      front = refl;
      owner = ap owner_in
          (get_or-set_other d.consoles c d.front None None (unequal c d.front other));
      waits = left;
    }

free_stays : (k : Core) (c n : ℕ)
    → (core_after k (Free c)).display.pending ≡ Some n → Stays k (Free c) n
free_stays k c n left =
    let f = by_free k.display c n (is_held k.display c) refl left in search rules

record Ended (d e : Display) (n : ℕ) (hop : Option Hop) : Type 0 where
  front : e.front ≡ d.front
  owner : owner_in (get_or e.consoles d.front None) ≡ owner_in (get_or d.consoles d.front None)
  waits : d.pending ≡ Some n
  no_hop : hop ≡ None

by_end : (d : Display) (p n : ℕ) (front : Bool) (pending : Option ℕ) → owns d p d.front ≡ front
    → d.pending ≡ pending
    → (after_hop (given_back d p) (cond front (falls_to d p pending) None)).pending ≡ Some n
    → Ended d (after_hop (given_back d p) (cond front (falls_to d p pending) None)) n
    (cond front (falls_to d p pending) None)
by_end d p n true None is none left = absurd (none-some n (sym none ∙ left))
by_end d p n true (Some w) is none left = absurd (none-some n left)
by_end d p n false pending is none left = record {
  front = refl;
  owner = ap owner_in (get_or-map (option_map (left_by p)) d.consoles d.front None)
      ∙ ap (λ (console : Console). owner_of console.handling)
      (still p (get_or d.consoles d.front None) is);
  waits = left;
  no_hop = refl;
}

end_stays : (k : Core) (p n : ℕ)
    → (core_after k (End p)).display.pending ≡ Some n → Stays k (End p) n
end_stays k p n left =
    let d = k.display in
    let e = by_end d p n (owns d p d.front) d.pending refl refl left in search rules

pub stays : (k : Core) (act : SwitchAct) (n : ℕ) → is_request act ≡ false
    → (core_after k act).display.pending ≡ Some n → Stays k act n
stays k (Allocate c) n isnt left = allocate_stays k c n left
stays k (Request c) n isnt left = absurd (false≢true (sym isnt))
stays k (Release c p arg) n isnt left = release_stays k c p arg n left
stays k (SetMode c p m) n isnt left = mode_stays k c p n m left
stays k (SetKd c graphics) n isnt left = kd_stays k c n graphics left
stays k (Lock on) n isnt left = lock_stays k n on left
stays k (Free c) n isnt left = free_stays k c n left
stays k (End p) n isnt left = end_stays k p n left
