-- An event leaves a console that it doesn't touch.
use Rattle.std.proofs.Common.{◌≡◌, ◌⊎◌, inl, inr, ℕ, zero, suc, Bool, true, false, List, [], ◌∷◌, get_or, set, flat_map, Option, Some, None, refl, sym, ap, ◌∙◌}
use Rattle.std.proofs.lemmas.List.{get_or-set_other}
use Rattle.std.specs.List.{list_all}
use Rattle.std.specs.Prelude.{◌==◌, not, option_map}
use Rattle.std.proofs.lemmas.Bool.{and_from, eqb-false, false≢true, not-true, not_from_false}
use Rattle.vt_events.specs.declared.event.Event.{Event}
use Rattle.vt_events.specs.declared.event.Event.TheVariants as event
use Rattle.vt_world.proofs.for_laws.Kept.{deeds_keep, unmarked}
use Rattle.vt_canvas.specs.declared.out.Out.{Out}
use Rattle.vt_world.proofs.for_laws.RowDeeds.{is_typed, outs_pass, row_passes}
use Rattle.vt_world.proofs.for_laws.Steps.{by_step}
use Rattle.vt_world.specs.Deeds.{Deed, Own, OwnDeed, Starts, Clears, Writes, Alters, apply_deeds, apply_own_deed}
use Rattle.vt_world.specs.Heard.{without_marks}
use Rattle.vt_world.specs.Events.{row}
use Rattle.vt_world.specs.Refusals.{console_by_number, target}
use Rattle.vt_world.specs.Rows.{out_deeds}
use Rattle.vt_world.specs.State.{WorldState}
use Rattle.vt_world.specs.Step.{Outcome}
use Rattle.vt_world.specs.StepLaws.{TerminalsStay, touches}
use Rattle.vt_world.specs.Terminals.{TerminalState, altered_by, or_new, said_of, terminal_at, written_on}

-- the terminal of console c stays, or goes
abbrev Stays : ℕ → WorldState → WorldState → Type 0
Stays c w v =
    (terminal_at v.terminals c ≡ terminal_at w.terminals c) ⊎ (terminal_at v.terminals c ≡ None)

then : (c : ℕ) (u v w : WorldState) → Stays c u v → Stays c v w → Stays c u w
then c u v w first (inr gone) = inr gone
then c u v w (inl same) (inl more) = inl (more ∙ same)
then c u v w (inr gone) (inl more) = inr (more ∙ gone)

-- a deed leaves console c, unless it gives it a terminal, writes to it or alters it
abbrev leaves : ℕ → Deed → Bool
leaves c (Own (Starts n)) = not (n == c)
leaves c (Own (Writes n bytes)) = not (n == c)
leaves c (Own (Alters n m)) = not (n == c)
leaves c deed = true

elsewhere : (c n : ℕ) (w v : WorldState) (place : Option TerminalState)
    → v.terminals ≡ set w.terminals n place → not (n == c) ≡ true → Stays c w v
elsewhere c n w v place is other =
    inl
    (ap (λ (terminals : List (Option TerminalState)). terminal_at terminals c) is
    ∙ get_or-set_other w.terminals n c place None (λ e. eqb-false n c (not-true (n == c) other) (sym e)))

gone_or : (c n : ℕ) (terminals : List (Option TerminalState))
    → (get_or (set terminals n None) c None ≡ get_or terminals c None)
    ⊎ (get_or (set terminals n None) c None ≡ None)
gone_or c n [] = inl refl
gone_or zero zero (place ∷ terminals) = inr refl
gone_or (suc c) zero (place ∷ terminals) = inl refl
gone_or zero (suc n) (place ∷ terminals) = inl refl
gone_or (suc c) (suc n) (place ∷ terminals) = gone_or c n terminals

own : (c : ℕ) (w : WorldState) (deed : OwnDeed) → leaves c (Own deed) ≡ true
    → Stays c w (unmarked w deed)
own c w (Starts n) other =
    elsewhere c n w (apply_own_deed w (Starts n)) (Some (or_new w.rows w.cols (terminal_at w.terminals n)))
    refl other
own c w (Clears n) other = gone_or c n w.terminals
own c w (Writes n bytes) other =
    elsewhere c n w (apply_own_deed w (Writes n bytes))
    (option_map (written_on bytes) (terminal_at w.terminals n)) refl other
own c w (Alters n m) other =
    elsewhere c n w (apply_own_deed w (Alters n m))
    (option_map (altered_by m) (terminal_at w.terminals n)) refl other
own c w deed other = inl refl

all_leave : (c : ℕ) (w : WorldState) (deeds : List Deed) → list_all (leaves c) deeds ≡ true
    → Stays c w (apply_deeds w deeds)
all_leave c = deeds_keep (leaves c) (Stays c)
    (record {
      itself = λ w. inl refl;
      then = then c;
      marked = λ w m. inl refl;
      shown = λ w display. inl refl;
      own = own c;
    })

typed_leaves : (c : ℕ) (deed : Deed) → is_typed deed ≡ true → leaves c deed ≡ true
typed_leaves c (Own (Starts n)) typed = absurd (false≢true typed)
typed_leaves c (Own (Writes n bytes)) typed = absurd (false≢true typed)
typed_leaves c (Own (Alters n m)) typed = absurd (false≢true typed)
typed_leaves c deed typed = refl

row_leaves : (c : ℕ) (w : WorldState) (p : ℕ) (e : Event) → touches w p e c ≡ false
    → list_all (leaves c) (row w p e).deeds ≡ true
row_leaves c w p (event.OpenCon n) other =
    and_from (not (console_by_number w n == c)) true (not_from_false (console_by_number w n == c) other) refl
row_leaves c w p (event.Activate fd n) other =
    and_from (not (n == c)) true (not_from_false (n == c) other) refl
row_leaves c w p (event.Write fd b) other =
    let n : ℕ = target w p fd in
    let said : List Out = said_of (terminal_at w.terminals n) b.bytes in
    and_from (not (n == c)) (list_all (leaves c) (flat_map (out_deeds n) said)) (not_from_false (n == c) other) (outs_pass (leaves c) (typed_leaves c) n said)
row_leaves c w p (event.Resize fd rows cols) other =
    and_from (not (target w p fd == c)) true (not_from_false (target w p fd == c) other) refl
row_leaves c w p (event.SetMap fd b) other =
    and_from (not (target w p fd == c)) true (not_from_false (target w p fd == c) other) refl
row_leaves c w p (event.SetPal fd b) other =
    and_from (not (target w p fd == c)) true (not_from_false (target w p fd == c) other) refl
row_leaves c w p e other = row_passes (leaves c) (typed_leaves c) w p e (λ n scanner. refl)

pub terminals_stay : TerminalsStay
terminals_stay w p e c other =
    by_step (λ (deeds : List Deed) (after : Outcome). Stays c w after.world) w p e
    (λ errno. inl refl)
    (λ accepted.
    all_leave c (without_marks w) (row (without_marks w) p e).deeds (row_leaves c (without_marks w) p e other))
