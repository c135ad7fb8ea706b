-- The screen of a console after a write.
use Rattle.std.proofs.Common.{◌≡◌, ◌≢◌, ℕ, zero, suc, ◌⊎◌, inl, inr, List, [], ◌∷◌, get_or, set, Option, Some, None, refl, sym, ap, subst, ◌∙◌, ⊎_elim, get_or-set_other}
use Rattle.std.specs.List.{flat_map}
use Rattle.std.specs.Prelude.{option_map}
use Rattle.std.proofs.lemmas.Bool.{cases_eq}
use Rattle.vt_base.specs.Bytes.{Text}
use Rattle.vt_base.specs.declared.errno.Errno.{Errno}
use Rattle.vt_events.specs.declared.event.Event.{Event}
use Rattle.vt_events.specs.declared.event.Event.TheVariants as event
use Rattle.vt_canvas.specs.declared.out.Out.{Out}
use Rattle.vt_canvas.specs.declared.out.Out.TheVariants as outs
use Rattle.vt_switch.specs.Acts.{Allocate, Request, SwitchAct}
use Rattle.vt_switch.specs.Moments.{core_after, marks}
use Rattle.vt_switch.specs.declared.mark.Mark.{Mark}
use Rattle.vt_world.specs.Deeds.{Asks, By, Deed, Lights, Own, Puts, Starts, Writes, after_request, after_switch_act, apply_deed, apply_deeds}
use Rattle.vt_world.specs.Events.{own_refusals, row}
use Rattle.vt_world.specs.Heard.{apply_mark, apply_marks, without_marks}
use Rattle.vt_world.specs.Refusals.{common_refusals, console_by_number, first_refusal, target}
use Rattle.vt_world.specs.Rows.{out_deeds}
use Rattle.vt_world.specs.State.{WorldState, core}
use Rattle.vt_world.specs.Step.{outcome_of_row, row_result, row_result_after, step}
use Rattle.vt_world.specs.Terminals.{TerminalState, after_write, or_new, said_of, terminal_at, with_start, written_on}
use Rattle.vt_world.specs.Wanted.{wanted_in}

-- the terminal is the one before, or the bytes were run on its screen
abbrev pub IsWritten : List ℕ → Option TerminalState → Option TerminalState → Type 0
IsWritten bytes before after = (after ≡ before) ⊎ (after ≡ option_map (written_on bytes) before)

-- marks, requests and side effects change no terminal
after_marks : (w : WorldState) (ms : List Mark) → (apply_marks w ms).terminals ≡ w.terminals
after_marks w [] = refl
after_marks w (m ∷ ms) = after_marks (apply_mark w m) ms

after_a_request : (w : WorldState) (n : Option ℕ) → (after_request w n).terminals ≡ w.terminals
after_a_request w None = refl
after_a_request w (Some n) =
    after_marks (record w { display = (core_after (core w) (Request n)).display }) (marks (core w) (Request n))

abbrev IsRequest : List Deed → Type 0
IsRequest (Asks wanted ∷ []) = Unit {0}
IsRequest deeds = ⊥

after_asking : (w : WorldState) (deeds : List Deed) → IsRequest deeds → (apply_deeds w deeds).terminals ≡ w.terminals
after_asking w (Asks wanted ∷ []) is = after_a_request w (wanted_in w.display wanted)
after_asking w deeds is = absurd is

after_effects : (c : ℕ) (said : List Out) (w : WorldState)
    → (apply_deeds w (flat_map (out_deeds c) said)).terminals ≡ w.terminals
after_effects c [] w = refl
after_effects c (outs.Report text ∷ more) w = after_effects c more (apply_deed w (Own (Puts c text)))
after_effects c (outs.SwitchTo n ∷ more) w =
    after_effects c more (apply_deeds w (out_deeds c (outs.SwitchTo n)))
    ∙ after_asking w (out_deeds c (outs.SwitchTo n)) tt
after_effects c (outs.SwitchLast ∷ more) w =
    after_effects c more (apply_deeds w (out_deeds c outs.SwitchLast))
    ∙ after_asking w (out_deeds c outs.SwitchLast) tt
after_effects c (outs.Lights lights ∷ more) w = after_effects c more (apply_deed w (Own (Lights c lights)))
after_effects c (outs.Bell ∷ more) w = after_effects c more w

-- the element of a list at the place that is changed
at_changed : (n : ℕ) (f : TerminalState → TerminalState) (ts : List (Option TerminalState))
    → get_or (set ts n (option_map f (get_or ts n None))) n None ≡ option_map f (get_or ts n None)
at_changed n f [] = refl
at_changed zero f (t ∷ ts) = refl
at_changed (suc n) f (t ∷ ts) = at_changed n f ts

-- console n after a write to console c
written_at : (c n : ℕ) (bytes : List ℕ) (ts : List (Option TerminalState))
    → IsWritten bytes (terminal_at ts n) (terminal_at (after_write c bytes ts) n)
written_at c n bytes ts = ⊎_elim
    (λ (same : n ≡ c).
    inr (subst (λ (k : ℕ). terminal_at (after_write k bytes ts) n ≡ option_map (written_on bytes) (terminal_at ts n))
    same (at_changed n (written_on bytes) ts)))
    (λ (other : n ≢ c). inl (get_or-set_other ts c n (option_map (written_on bytes) (terminal_at ts c)) None other))
    (cases_eq n c)

-- a console that has a terminal keeps it if a console is opened
kept_at : (rows cols n : ℕ) (ts : List (Option TerminalState)) (t : TerminalState) → get_or ts n None ≡ Some t
    → get_or (set ts n (Some (or_new rows cols (get_or ts n None)))) n None ≡ Some t
kept_at rows cols n [] t is = let e = is in cc
kept_at rows cols zero (o ∷ ts) t is = ap (λ (x : Option TerminalState). Some (or_new rows cols x)) is
kept_at rows cols (suc n) (o ∷ ts) t is = kept_at rows cols n ts t is

kept_start : (c n rows cols : ℕ) (ts : List (Option TerminalState)) (t : TerminalState)
    → terminal_at ts n ≡ Some t → terminal_at (with_start c rows cols ts) n ≡ Some t
kept_start c n rows cols ts t is = ⊎_elim
    (λ (same : n ≡ c).
    subst (λ (k : ℕ). terminal_at (with_start k rows cols ts) n ≡ Some t) same (kept_at rows cols n ts t is))
    (λ (other : n ≢ c).
    get_or-set_other ts c n (Some (or_new rows cols (terminal_at ts c))) None other ∙ is)
    (cases_eq n c)

after_act : (w : WorldState) (act : SwitchAct) → (after_switch_act w act).terminals ≡ w.terminals
after_act w act = after_marks (record w { display = (core_after (core w) act).display }) (marks (core w) act)

after_opening : (w : WorldState) (c n : ℕ) (t : TerminalState) → terminal_at w.terminals n ≡ Some t
    → terminal_at (apply_deeds w (By (Allocate c) ∷ Own (Starts c) ∷ [])).terminals n ≡ Some t
after_opening w c n t is =
    kept_start c n (after_switch_act w (Allocate c)).rows (after_switch_act w (Allocate c)).cols
    (after_switch_act w (Allocate c)).terminals t
    (ap (λ (ts : List (Option TerminalState)). terminal_at ts n) (after_act w (Allocate c)) ∙ is)

-- what holds of the terminals before an event, and of those after its deeds, holds of those after it
by_own : (R : List (Option TerminalState) → Type 0) (w : WorldState) (p : ℕ) (e : Event) (own : Option Errno)
    → R w.terminals → R (apply_deeds w (row w p e).deeds).terminals
    → R (outcome_of_row (row_result w own (row w p e))).world.terminals
by_own R w p e (Some errno) before done = before
by_own R w p e None before done = done

by_common : (R : List (Option TerminalState) → Type 0) (w : WorldState) (p : ℕ) (e : Event) (common : Option Errno)
    → R w.terminals → R (apply_deeds w (row w p e).deeds).terminals
    → R (outcome_of_row (row_result_after w p e common)).world.terminals
by_common R w p e (Some errno) before done = before
by_common R w p e None before done = by_own R w p e (first_refusal (own_refusals w p e)) before done

by_deeds : (R : List (Option TerminalState) → Type 0) (w : WorldState) (p : ℕ) (e : Event) → R w.terminals
    → R (apply_deeds (without_marks w) (row (without_marks w) p e).deeds).terminals
    → R (step w p e).world.terminals
by_deeds R w p e before done =
    by_common R (without_marks w) p e (first_refusal (common_refusals (without_marks w) p e)) before done

accepted : (w : WorldState) (p fd n : ℕ) (b : Text)
    → IsWritten b.bytes (terminal_at w.terminals n) (terminal_at (apply_deeds w (row w p (event.Write fd b)).deeds).terminals n)
accepted w p fd n b =
    let c : ℕ = target w p fd in
    subst (λ (ts : List (Option TerminalState)). IsWritten b.bytes (terminal_at w.terminals n) (terminal_at ts n))
    (sym (after_effects c (said_of (terminal_at w.terminals c) b.bytes) (apply_deed w (Own (Writes c b.bytes)))))
    (written_at c n b.bytes w.terminals)

pub written : (w : WorldState) (p fd n : ℕ) (b : Text)
    → IsWritten b.bytes (terminal_at w.terminals n) (terminal_at (step w p (event.Write fd b)).world.terminals n)
written w p fd n b =
    by_deeds (λ ts. IsWritten b.bytes (terminal_at w.terminals n) (terminal_at ts n)) w p (event.Write fd b)
    (inl refl) (accepted (without_marks w) p fd n b)

-- opening or activating a console takes or changes no terminal
pub kept_if_opened : (w : WorldState) (p k n : ℕ) (t : TerminalState) → terminal_at w.terminals n ≡ Some t
    → terminal_at (step w p (event.OpenCon k)).world.terminals n ≡ Some t
kept_if_opened w p k n t is =
    by_deeds (λ ts. terminal_at ts n ≡ Some t) w p (event.OpenCon k) is
    (after_opening (without_marks w) (console_by_number w k) n t is)

pub kept_if_activated : (w : WorldState) (p fd k n : ℕ) (t : TerminalState) → terminal_at w.terminals n ≡ Some t
    → terminal_at (step w p (event.Activate fd k)).world.terminals n ≡ Some t
kept_if_activated w p fd k n t is =
    let v : WorldState = apply_deeds (without_marks w) (By (Allocate k) ∷ Own (Starts k) ∷ []) in
    by_deeds (λ ts. terminal_at ts n ≡ Some t) w p (event.Activate fd k) is
    (ap (λ (ts : List (Option TerminalState)). terminal_at ts n) (after_act v (Request k))
    ∙ after_opening (without_marks w) k n t is)
