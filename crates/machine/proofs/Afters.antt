-- A machine stays what its history leaves.
use Rattle.std.proofs.Common.{◌≡◌, ◌<◌, ◌+◌, ℕ, zero, suc, Bool, true, false, cond, ◌==◌, arith, List, [], ◌∷◌, ◌++◌, get_or, set, length, replicate, refl, sym, ap, ◌∙◌, subst}
use Rattle.std.proofs.lemmas.Bool.{eqb-true, eqb-false}
use Rattle.std.proofs.lemmas.Grind.{get_or-set_at}
use Rattle.std.proofs.lemmas.List.{get_or-set_other}
use Rattle.std.proofs.lemmas.List.Sums.{sum_by_push}
use Rattle.machine.specs.History.{IsAfter, IsFitStart, Start, calls_of, world_of}
use Rattle.vt_events.specs.declared.entry.Entry.{Entry}
use Rattle.vt_events.specs.declared.event.Event.{Event}
use Rattle.vt_events.specs.declared.reply.Reply.{Reply}
use Rattle.vt_world.specs.History.{IsEntryOf, IsLegal, NothingIsLegal, StepsAreEntered, replay}
use Rattle.vt_world.specs.Laws.{IsStart}
use Rattle.vt_world.specs.State.{WorldState}
use Rattle.vt_world.specs.Step.{HasOutcome, step}

-- one entry more is one call more of its caller
pub calls_more : (history : List Entry) (entry : Entry) (p : ℕ)
    → calls_of (history ++ entry ∷ []) p ≡ calls_of history p + cond (entry.caller == p) 1 0
calls_more history entry p = sum_by_push (λ (e : Entry). cond (e.caller == p) 1 0) history entry

-- the count of the caller rises, and the others stay
pub counted_more : (made : List ℕ) (history : List Entry) (entry : Entry)
    → ((p : ℕ) → p < 68 → get_or made p 0 ≡ calls_of history p) → entry.caller < length made → (p : ℕ) → p < 68
    → get_or (set made entry.caller (get_or made entry.caller 0 + 1)) p 0 ≡ calls_of (history ++ entry ∷ []) p
counted_more made history entry counted within p low =
    let k : ℕ = get_or made entry.caller 0 + 1 in
    let go : (b : Bool) → (entry.caller == p) ≡ b
    → get_or (set made entry.caller k) p 0 ≡ calls_of history p + cond b 1 0 =
    λ b. elim b as (λ b. (entry.caller == p) ≡ b → get_or (set made entry.caller k) p 0 ≡ calls_of history p + cond b 1 0) [
      | true ↦ λ is.
          let same : entry.caller ≡ p = eqb-true entry.caller p is in
          get_or-set_at made entry.caller p k 0 (sym same) within
          ∙ (ap (λ n. get_or made n 0 + 1) same ∙ ap (λ n. n + 1) (counted p low))
      | false ↦ λ is.
          get_or-set_other made entry.caller p k 0 (λ same. eqb-false entry.caller p is (sym same))
          ∙ (counted p low ∙ (let none : calls_of history p ≡ calls_of history p + 0 = omega arith in none))
    ] in
    go (entry.caller == p) refl ∙ sym (calls_more history entry p)

-- a machine at its start
pub at_start : (s : Start) (history : List Entry) (world : WorldState) → NothingIsLegal → IsFitStart s
    → history ≡ [] → world ≡ world_of s → IsAfter s history world (replicate 68 0)
at_start s history world nothing fit empty first = record {
  fit = fit;
  left = record {
    legal = subst (IsLegal (world_of s)) (sym empty) (nothing (world_of s));
    replayed = first ∙ ap (replay (world_of s)) (sym empty);
  };
  counted = λ p low. none 68 p ∙ ap (λ (es : List Entry). calls_of es p) (sym empty);
}
  where
    none : (n p : ℕ) → ◌≡◌ {A = ℕ} (get_or (replicate n 0) p 0) 0
    none zero p = refl
    none (suc n) zero = refl
    none (suc n) (suc p) = none n p

-- the machine at its start is one
abbrev pub is_start : (s : Start) → IsFitStart s → IsStart (world_of s)
is_start s fit = record {
  rows = s.config.size.rows;
  cols = s.config.size.cols;
  consoles = s.config.consoles;
  front = s.config.front;
  keyboards = s.config.keyboards;
  processes = s.config.procs;
  tables = s.tables;
  fit = fit.consoles;
  opened = refl;
}

-- a machine after a call
pub after_call : (s : Start) (history : List Entry) (v w : WorldState) (old : List ℕ) (p : ℕ) (e : Event) (r : Reply)
    → StepsAreEntered → IsAfter s history v old → HasOutcome (step v p e) w r → p < 68 → length old ≡ 68
    → IsAfter s (history ++ record { caller = p; seq = get_or old p 0; event = e; reply = r } ∷ []) w
    (set old p (get_or old p 0 + 1))
after_call s history v w old p e r entered before gives low size =
    let entry : Entry = record { caller = p; seq = get_or old p 0; event = e; reply = r } in
    let of : IsEntryOf p (calls_of history p) e r entry =
    record { caller = refl; number = before.counted p low; event = refl; reply = refl } in
    record {
      fit = before.fit;
      left = entered (world_of s) v w history p e r entry before.left gives of;
      counted = λ q within. counted_more old history entry before.counted (omega (arith, low, size)) q within;
    }
