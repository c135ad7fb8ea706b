-- Histories after which everything goes on alike: each call leads on to such histories.
use Rattle.std.proofs.Common.{◌≡◌, ℕ, ⊎_elim, List, [], ◌∷◌, ◌++◌, map, None, refl, sym, ap, ◌∙◌, append-nil}
use Rattle.std.proofs.lemmas.Bool.{cases_eq}
use Rattle.std.proofs.lemmas.List.{append_assoc}
use Rattle.std.specs.Prelude.{if◌then◌else◌}
use Rattle.vt_explore.specs.Alike.{AreAlike}
use Rattle.session_order.proofs.Standings.{calls_mine, calls_others}
use Rattle.session_order.specs.Calls.{as_meant, call_of, calls_by, next_by, next_of}
use Rattle.session_order.specs.Ends.{Setup}
use Rattle.session_order.specs.Follows.{is_waiting}
use Rattle.session_order.specs.Serial.{call_now, entry_at}
use Rattle.session_text.specs.Programs.{Call, call, program_of}
use Rattle.vt_events.specs.declared.entry.Entry.{Entry}
use Rattle.vt_events.specs.declared.event.Event.{Event}
use Rattle.vt_world.proofs.Histories.{replay_grows}
use Rattle.vt_world.specs.Heard.{without_marks}
use Rattle.vt_world.specs.History.{replay}
use Rattle.vt_world.specs.Refusals.{common_refusals, first_refusal}
use Rattle.vt_world.specs.State.{WorldState}
use Rattle.vt_world.specs.Step.{Outcome, outcome_of_row, row_result_after, step}

pub alike_trans : (o : Setup) (a b c : List Entry) → AreAlike o a b → AreAlike o b c → AreAlike o a c
alike_trans o a b c one two = record {
  world = one.world ∙ two.world;
  ahead = λ p more. one.ahead p more ∙ two.ahead p more;
}

pub alike_same : (o : Setup) (a b : List Entry) → a ≡ b → AreAlike o a b
alike_same o a b same = record {
  world = ap (λ h. without_marks (replay o.start h)) same;
  ahead = λ p more. ap (λ h. next_of (program_of o.programs p) (calls_by p h ++ map as_meant more)) same;
}

-- a step doesn't depend on the marks of the call before
pub step_alike : (v w : WorldState) (p : ℕ) (e : Event) → without_marks v ≡ without_marks w
    → step v p e ≡ step w p e
step_alike v w p e same =
    ap (λ (x : WorldState). outcome_of_row (row_result_after x p e (first_refusal (common_refusals x p e)))) same

-- the same call can be made
pub now_alike : (o : Setup) (a b : List Entry) (p : ℕ) → AreAlike o a b
    → call_now o a p ≡ call_now o b p
now_alike o a b p alike =
    let waits : is_waiting (replay o.start a) p ≡ is_waiting (replay o.start b) p =
    ap (λ (w : WorldState). is_waiting w p) alike.world in
    let next : next_by o.programs p a ≡ next_by o.programs p b =
    ap (next_of (program_of o.programs p)) (sym (append-nil (calls_by p a)))
    ∙ alike.ahead p []
    ∙ ap (next_of (program_of o.programs p)) (append-nil (calls_by p b)) in
    λ i. if waits i then None else next i

-- one more call of p, and more
mine : (h : List Entry) (entry : Entry) (p : ℕ) (more : List Call) → entry.caller ≡ p
    → calls_by p (h ++ entry ∷ []) ++ map as_meant more
    ≡ calls_by p h ++ map as_meant (call entry.event entry.reply ∷ more)
mine h entry p more same =
    ap (λ made. made ++ map as_meant more) (calls_mine h entry p same)
    ∙ append_assoc (calls_by p h) (call_of entry ∷ []) (map as_meant more)

ahead_mine : (o : Setup) (a b : List Entry) (x y : Entry) (p : ℕ) (more : List Call) → AreAlike o a b
    → x.caller ≡ p → y.caller ≡ p → x.event ≡ y.event → x.reply ≡ y.reply
    → next_of (program_of o.programs p) (calls_by p (a ++ x ∷ []) ++ map as_meant more)
    ≡ next_of (program_of o.programs p) (calls_by p (b ++ y ∷ []) ++ map as_meant more)
ahead_mine o a b x y p more alike at_x at_y event reply =
    ap (next_of (program_of o.programs p)) (mine a x p more at_x)
    ∙ alike.ahead p (call x.event x.reply ∷ more)
    ∙ ap (λ (c : Call). next_of (program_of o.programs p) (calls_by p b ++ map as_meant (c ∷ more))) (λ i. call (event i) (reply i))
    ∙ ap (next_of (program_of o.programs p)) (sym (mine b y p more at_y))

ahead_others : (o : Setup) (a b : List Entry) (x y : Entry) (p : ℕ) (more : List Call) → AreAlike o a b
    → (x.caller ≡ p → ⊥) → (y.caller ≡ p → ⊥)
    → next_of (program_of o.programs p) (calls_by p (a ++ x ∷ []) ++ map as_meant more)
    ≡ next_of (program_of o.programs p) (calls_by p (b ++ y ∷ []) ++ map as_meant more)
ahead_others o a b x y p more alike not_x not_y =
    ap (λ made. next_of (program_of o.programs p) (made ++ map as_meant more)) (calls_others a x p not_x)
    ∙ alike.ahead p more
    ∙ ap (λ made. next_of (program_of o.programs p) (made ++ map as_meant more)) (sym (calls_others b y p not_y))

-- a call of p after each leads to histories that are alike
pub alike_more : (o : Setup) (a b : List Entry) (p : ℕ) (e : Event) → AreAlike o a b
    → AreAlike o (a ++ entry_at o.start a p e ∷ []) (b ++ entry_at o.start b p e ∷ [])
alike_more o a b p e alike =
    let x : Entry = entry_at o.start a p e in
    let y : Entry = entry_at o.start b p e in
    let stepped : step (replay o.start a) p e ≡ step (replay o.start b) p e =
    step_alike (replay o.start a) (replay o.start b) p e alike.world in
    record {
      world =
          ap without_marks
          (replay_grows o.start a x
          ∙ ap (λ (made : Outcome). made.world) stepped
          ∙ sym (replay_grows o.start b y));
      ahead = λ q more. ⊎_elim
          (λ same. ahead_mine o a b x y q more alike same same refl (ap (λ (made : Outcome). made.reply) stepped))
          (λ apart. ahead_others o a b x y q more alike apart apart)
          (cases_eq p q);
    }
