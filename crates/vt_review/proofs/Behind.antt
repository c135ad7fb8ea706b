-- A reviewer that is shown one entry more.
use Rattle.std.proofs.Common.{◌≡◌, ℕ, suc, ◌+◌, List, [], ◌∷◌, ◌++◌, length, sym, ap, ◌∙◌, append-nil, append_assoc, arith}
use Rattle.vt_check.specs.Watching.{IsNextEntry}
use Rattle.vt_events.specs.declared.entry.Entry.{Entry}
use Rattle.vt_review.specs.Announcements.{entry_lines, left_by, review_text}
use Rattle.vt_review.specs.Reviews.{HasReviewed}
use Rattle.vt_review.specs.declared.ear_table.EarTable.{EarTable}
use Rattle.vt_world.specs.History.{ReplayGrows, replay}
use Rattle.vt_world.specs.State.{WorldState}
use Rattle.vt_world.specs.Step.{step}

-- the text of one more entry has that entry's lines at its end
text_more : (tables : List EarTable) (e : ℕ) (w : WorldState) (before : List Entry) (entry : Entry)
    → review_text tables e w (before ++ entry ∷ [])
    ≡ review_text tables e w before
    ++ entry_lines tables (e + length before) (replay w before) (left_by (replay w before) entry)
unfolding left_by
text_more tables e w [] entry =
    append-nil (entry_lines tables e w (left_by w entry))
    ∙ ap (λ (n : ℕ). entry_lines tables n w (left_by w entry)) (let same : e ≡ e + 0 = omega arith in same)
text_more tables e w (first ∷ before) entry =
    let v : WorldState = left_by w first in
    let last : WorldState = left_by (replay v before) entry in
    let front : List ℕ = entry_lines tables e w v in
    ap (λ (text : List ℕ). front ++ text) (text_more tables (e + 1) v before entry)
    ∙ sym (append_assoc front (review_text tables (e + 1) v before)
    (entry_lines tables (e + 1 + length before) (replay v before) last))
    ∙ ap (λ (n : ℕ). (front ++ review_text tables (e + 1) v before) ++ entry_lines tables n (replay v before) last)
    (let same : e + 1 + length before ≡ e + suc (length before) = omega arith in same)

-- the machine after an entry, for a reviewer that is one entry back
pub is_left : (start behind after : WorldState) (before : List Entry) (place : ℕ) (entry : Entry)
    → behind ≡ replay start before → IsNextEntry start before place entry after
    → after ≡ left_by behind entry
unfolding left_by
is_left start behind after before place entry at next =
    next.after_is ∙ ap (λ (w : WorldState). (step w entry.caller entry.event).world) (sym at)

pub reviewed_more : ReplayGrows → (tables : List EarTable) (start : WorldState) (before : List Entry) (place : ℕ)
    (entry : Entry) (behind after moved : WorldState) (old new : List ℕ)
    → HasReviewed tables start before behind old → IsNextEntry start before place entry after
    → moved ≡ left_by behind entry → new ≡ old ++ entry_lines tables place behind after
    → HasReviewed tables start (before ++ entry ∷ []) moved new
unfolding left_by
reviewed_more grow tables start before place entry behind after moved old new was next is added =
    let at : ℕ = length before in
    record {
      behind_is =
          is
          ∙ ap (λ (w : WorldState). (step w entry.caller entry.event).world) was.behind_is
          ∙ sym (grow start before entry);
      text_is =
          added
          ∙ (λ i. was.text_is i ++ entry_lines tables (next.place_is i) (was.behind_is i) (next.after_is i))
          ∙ ap (λ (n : ℕ). review_text tables 0 start before ++ entry_lines tables n (replay start before) (left_by (replay start before) entry))
          (let same : at ≡ 0 + at = omega arith in same)
          ∙ sym (text_more tables 0 start before entry);
    }

-- the reviewer's machine makes the entry's call
pub moves : (w v : WorldState) (entry : Entry) → (step w entry.caller entry.event).world ≡ v → v ≡ left_by w entry
unfolding left_by
moves w v entry is = sym is
