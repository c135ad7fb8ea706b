-- The moments of a history grow by those of one entry's acts.
use Rattle.std.proofs.Common.{◌≡◌, ℕ, ◌+◌, List, [], ◌∷◌, ◌++◌, length, refl, ap, ◌∙◌, arith}
use Rattle.vt_events.specs.declared.entry.Entry.{Entry}
use Rattle.vt_switch.specs.Acts.{SwitchAct}
use Rattle.vt_switch.specs.Moments.{Core, Moment, after_entries, all_after, history, with_acts}
use Rattle.vt_world.proofs.for_laws.Displays.{acts_length, replay_core}
use Rattle.vt_world.specs.Acts.{event_acts, history_acts}
use Rattle.vt_world.specs.History.{replay}
use Rattle.vt_world.specs.Laws.{MomentsGrow, moments}
use Rattle.vt_world.specs.State.{WorldState, core}
use Rattle.vt_world.specs.Step.{step}

history_grows : (i : ℕ) (k : Core) (list : List (List SwitchAct)) (acts : List SwitchAct)
    (earlier : List Moment)
    → history i k (list ++ acts ∷ []) earlier
    ≡ with_acts (i + length list) (after_entries k list) acts (history i k list earlier)
history_grows i k [] acts earlier =
    ap (λ n. with_acts n k acts earlier) (let same : i ≡ i + 0 = omega arith in same)
history_grows i k (first ∷ list) acts earlier =
    let later : List Moment = with_acts i k first earlier in
    history_grows (i + 1) (all_after k first) list acts later
    ∙ ap
    (λ n.
    with_acts n (after_entries (all_after k first) list) acts
    (history (i + 1) (all_after k first) list later))
    (let same : i + 1 + length list ≡ i + length (first ∷ list) = omega arith in same)

acts_grow : (w : WorldState) (entries : List Entry) (entry : Entry)
    → history_acts w (entries ++ entry ∷ [])
    ≡ history_acts w entries ++ event_acts (replay w entries) entry.caller entry.event ∷ []
acts_grow w [] entry = refl
acts_grow w (first ∷ entries) entry =
    ap (λ (list : List (List SwitchAct)). event_acts w first.caller first.event ∷ list)
    (acts_grow (step w first.caller first.event).world entries entry)

pub moments_grow : MomentsGrow
moments_grow w entries entry =
    let acts : List SwitchAct = event_acts (replay w entries) entry.caller entry.event in
    ap (λ (list : List (List SwitchAct)). history 0 (core w) list []) (acts_grow w entries entry)
    ∙ history_grows 0 (core w) (history_acts w entries) acts []
    ∙ ap
    (λ n. with_acts n (after_entries (core w) (history_acts w entries)) acts (moments w entries))
    (let same : 0 + length (history_acts w entries) ≡ length entries =
    omega (arith, acts_length w entries) in same)
    ∙ ap (λ (k : Core). with_acts (length entries) k acts (moments w entries))
    (replay_core w entries)
