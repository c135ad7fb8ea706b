-- How the items of a history are found, entry by entry and mark by mark.
use Rattle.std.proofs.Common.{◌≡◌, ◌≢◌, ◌≤◌, ℕ, ◌+◌, cond, List, [], ◌∷◌, ◌++◌, length, refl, sym, ap, subst, ◌∙◌, arith}
use Rattle.std.specs.Prelude.{count_by}
use Rattle.std.proofs.lemmas.Bool.{ne_eqb}
use Rattle.std.proofs.lemmas.List.{length_push}
use Rattle.std.proofs.lemmas.List.Sums.{sum_by_push}
use Rattle.vt_check.specs.Watching.{IsNextEntry}
use Rattle.vt_explain.specs.Finding.{HasRead, Known, hear, hear_all, is_at, item_of, known_after}
use Rattle.vt_events.specs.declared.entry.Entry.{Entry}
use Rattle.vt_switch.specs.Acts.{SwitchAct}
use Rattle.vt_switch.specs.Moments.{Core, Moment, core_after, marks, with_acts}
use Rattle.vt_switch.specs.News.{News, Asking, Going, news, news_of}
use Rattle.vt_switch.specs.declared.mark.Mark.{Mark}
use Rattle.vt_world.specs.Acts.{event_acts}
use Rattle.vt_world.specs.History.{replay}
use Rattle.vt_world.specs.Laws.{MomentsGrow, TracesTellNews, moments}
use Rattle.vt_world.specs.State.{WorldState, core}
use Rattle.vt_world.specs.Step.{step}

hear_append : (at : ℕ) (a b : List News) (k : Known)
    → hear_all at (a ++ b) k ≡ hear_all at b (hear_all at a k)
hear_append at [] b k = refl
hear_append at (one ∷ a) b k = hear_append at a b (hear at one k)

-- the acts of an entry are heard one after another
acts_heard : (i : ℕ) (k : Core) (acts : List SwitchAct) (h : List Moment)
    → known_after (with_acts i k acts h) ≡ hear_all i (news_of k acts) (known_after h)
acts_heard i k [] h = refl
acts_heard i k (act ∷ acts) h =
    acts_heard i (core_after k act) acts (record { entry = i; before = k; act = act } ∷ h)
    ∙ sym (hear_append i (news (marks k act)) (news_of (core_after k act) acts) (known_after h))

-- one entry more
next_known : TracesTellNews → MomentsGrow → (start : WorldState) (before : List Entry) (entry : Entry) (k : Known)
    → k ≡ known_after (moments start before)
    → hear_all (length before) (news (step (replay start before) entry.caller entry.event).world.trace.marks) k
    ≡ known_after (moments start (before ++ entry ∷ []))
next_known tells grow start before entry k is =
    let w : WorldState = replay start before in
    let acts : List SwitchAct = event_acts w entry.caller entry.event in
    ap (λ told. hear_all (length before) told k) (tells w entry.caller entry.event)
    ∙ ap (hear_all (length before) (news_of (core w) acts)) is
    ∙ sym (acts_heard (length before) (core w) acts (moments start before))
    ∙ ap known_after (sym (grow start before entry))

-- the news of an entry have no items of another entry
none_else : (at j : ℕ) → at ≢ j → (told : List News) (k : Known)
    → count_by (is_at j) (hear_all at told k).items ≡ count_by (is_at j) k.items
none_else at j other [] k = refl
none_else at j other (Asking ask ∷ told) k =
    none_else at j other told (hear at (Asking ask) k)
none_else at j other (Going hop ∷ told) k =
    let n : ℕ = count_by (is_at at) k.items in
    none_else at j other told (hear at (Going hop) k)
    ∙ sum_by_push (λ w. cond (is_at j w) 1 0) k.items (item_of at n hop k.last)
    ∙ ap (λ b. count_by (is_at j) k.items + cond b 1 0) (ne_eqb at j other)
    ∙ (let none : count_by (is_at j) k.items + 0 ≡ count_by (is_at j) k.items = omega arith in none)

pub still_none : (at j : ℕ) (told : List News) (k : Known) → at + 1 ≤ j
    → count_by (is_at j) k.items ≡ 0 → count_by (is_at j) (hear_all at told k).items ≡ 0
still_none at j told k above none =
    none_else at j (λ same. omega (arith, above, same)) told k ∙ none

-- the items of the entries before, and of the next one
pub next_read : TracesTellNews → MomentsGrow → (start : WorldState) (before : List Entry) (place : ℕ)
    (entry : Entry) (after : WorldState) (told : List Mark) (old new : Known) → HasRead start before old
    → IsNextEntry start before place entry after → told ≡ after.trace.marks
    → new ≡ hear_all place (news told) old → HasRead start (before ++ entry ∷ []) new
next_read tells grow start before place entry after told old new was next trace heard =
    let same = trace ∙ ap (λ (w : WorldState). w.trace.marks) next.after_is in
    record {
      known_is =
          heard
          ∙ (λ j. hear_all (next.place_is j) (news (same j)) old)
          ∙ next_known tells grow start before entry old was.known_is;
      fresh = λ j above.
          subst (λ (k : Known). count_by (is_at j) k.items ≡ 0) (sym heard)
          (still_none place j (news told) old (omega (arith, above, length_push before entry, next.place_is))
          (was.fresh j (omega (arith, above, length_push before entry))));
    }
