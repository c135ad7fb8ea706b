-- A judge that compares one more entry, and takes it.
use Rattle.std.proofs.Common.{◌≡◌, ◌↔◌, ◌<◌, ◌+◌, ℕ, zero, suc, Bool, true, false, cond, ◌==◌, arith, List, [], ◌∷◌, ◌++◌, get_or, set, length, replicate, refl, sym, ap, ◌∙◌}
use Rattle.std.proofs.lemmas.Bool.{eqb-true, eqb-false}
use Rattle.std.proofs.lemmas.Grind.{get_or-set_at}
use Rattle.std.proofs.lemmas.List.{get_or-set_other, length-set, length_push}
use Rattle.std.proofs.lemmas.List.Sums.{sum_by_push}
use Rattle.std.specs.List.{count_by}
use Rattle.std.specs.Prelude.{IsTrue}
use Rattle.vt_events.specs.Charge.{charge_of}
use Rattle.vt_events.specs.Plain.{plain_reply}
use Rattle.vt_events.specs.declared.entry.Entry.{Entry}
use Rattle.vt_events.specs.declared.reply.Reply.{Reply}
use Rattle.vt_free.specs.Judging.{IsAfter}
use Rattle.vt_free.specs.declared.free_judge.FreeJudge.{FreeJudge}
use Rattle.vt_world.specs.History.{IsEntryOf, StepsAreEntered, replay}
use Rattle.vt_world.specs.State.{WorldState}
use Rattle.vt_world.specs.Step.{HasOutcome, Outcome, step}

-- no caller has made a call
pub none_made : (n p : ℕ) → ◌≡◌ {A = ℕ} (get_or (replicate n 0) p 0) 0
none_made zero p = refl
none_made (suc n) zero = refl
none_made (suc n) (suc p) = none_made n p

-- the answer was compared with the machine's
pub answered_is : (start w after : WorldState) (h : List Entry) (entry : Entry) (reply : Reply) (same : Bool)
    → w ≡ replay start h → HasOutcome (step w entry.caller entry.event) after reply
    → (IsTrue same ↔ (plain_reply reply ≡ plain_reply entry.reply))
    → IsTrue same ↔ (plain_reply entry.reply ≡ (step (replay start h) entry.caller entry.event).reply)
answered_is start w after h entry reply same replayed stepped compared =
    let answer : plain_reply reply ≡ (step (replay start h) entry.caller entry.event).reply =
    sym (ap (λ (x : Outcome). x.reply) stepped)
    ∙ ap (λ v. (step v entry.caller entry.event).reply) replayed in
    (λ is. sym (compared.0 is) ∙ answer, λ is. compared.1 (answer ∙ sym is))

-- one entry more is one call more of its caller, and of no other
calls_more : (h : List Entry) (entry : Entry) (p : ℕ)
    → count_by (λ e. e.caller == p) (h ++ entry ∷ []) ≡ count_by (λ e. e.caller == p) h + cond (entry.caller == p) 1 0
calls_more h entry p = sum_by_push (λ (e : Entry). cond (e.caller == p) 1 0) h entry

made_more : (made : List ℕ) (h : List Entry) (entry : Entry) (new : ℕ)
    → ((p : ℕ) → p < 68 → get_or made p 0 ≡ count_by (λ e. e.caller == p) h) → entry.caller < length made
    → new ≡ get_or made entry.caller 0 + 1 → (p : ℕ) → p < 68
    → get_or (set made entry.caller new) p 0 ≡ count_by (λ e. e.caller == p) (h ++ entry ∷ [])
made_more made h entry new counted within one p low =
    let go : (b : Bool) → (entry.caller == p) ≡ b
    → get_or (set made entry.caller new) p 0 ≡ count_by (λ e. e.caller == p) h + cond b 1 0 =
    λ b. elim b as (λ b. (entry.caller == p) ≡ b → get_or (set made entry.caller new) p 0 ≡ count_by (λ e. e.caller == p) h + cond b 1 0) [
      | true ↦ λ is.
          let same : entry.caller ≡ p = eqb-true entry.caller p is in
          get_or-set_at made entry.caller p new 0 (sym same) within
          ∙ (one ∙ (ap (λ n. get_or made n 0 + 1) same ∙ ap (λ n. n + 1) (counted p low)))
      | false ↦ λ is.
          get_or-set_other made entry.caller p new 0 (λ same. eqb-false entry.caller p is (sym same))
          ∙ (counted p low ∙ (let none : count_by (λ e. e.caller == p) h ≡ count_by (λ e. e.caller == p) h + 0 = omega arith in none))
    ] in
    go (entry.caller == p) refl ∙ sym (calls_more h entry p)

-- an entry that passes is taken
pub taken : (start : WorldState) (h : List Entry) (entry : Entry) (old : FreeJudge) (world : WorldState) (reply : Reply)
    (made events bytes : ℕ)
    → StepsAreEntered → IsAfter start h old → HasOutcome (step old.world entry.caller entry.event) world reply
    → plain_reply reply ≡ plain_reply entry.reply → entry.caller < 68 → entry.seq ≡ get_or old.made entry.caller 0
    → made ≡ get_or old.made entry.caller 0 + 1 → events ≡ old.events + 1 → bytes ≡ old.bytes + charge_of entry.event
    → IsAfter start (h ++ entry ∷ [])
    (record { world = world; made = set old.made entry.caller made; events = events; bytes = bytes })
taken start h entry old world reply made events bytes entered at stepped same low number one more charged =
    let of : IsEntryOf entry.caller (count_by (λ e. e.caller == entry.caller) h) entry.event reply entry = record {
      caller = refl;
      number = number ∙ at.made entry.caller low;
      event = refl;
      reply = sym same;
    } in
    record {
      left = entered start old.world world h entry.caller entry.event reply entry at.left stepped of;
      size = length-set old.made entry.caller made ∙ at.size;
      made = λ p within. made_more old.made h entry made at.made (omega (arith, low, at.size)) one p within;
      events = omega (arith, more, at.events, length_push h entry);
      bytes = omega (arith, charged, at.bytes, sum_by_push (λ (x : Entry). charge_of x.event) h entry);
    }
