-- The text and the machine of a history, entry by entry.
use Rattle.std.proofs.Common.{◌≡◌, ℕ, ◌+◌, ◌<◌, ◌≤◌, List, ◌++◌, drop, length, get_or, sym, ap, ◌∙◌, append_assoc}
use Rattle.std.proofs.lemmas.List.{append-nil}
use Rattle.watch.proofs.Going.{next_drop, past_end, piece_more}
use Rattle.watch.specs.Sights.{since_after, sight_of, world_after}
use Rattle.watch.specs.Texts.{end_text, head_text, sight_text, sights_text, watch_text}
use Rattle.watch.specs.declared.form.Form.{Form}
use Rattle.vt_events.specs.declared.entry.Entry.{Entry}
use Rattle.vt_explain.specs.declared.hop_why.HopWhy.{HopWhy}
use Rattle.vt_world.specs.History.{replay}
use Rattle.vt_world.specs.State.{WorldState}

-- the text of one entry more
pub sights_more : (f : Form) (cert : List HopWhy) (i since : ℕ) (w : WorldState) (entries : List Entry) (entry : Entry)
    (old new whole : List ℕ)
    → i < length entries → entry ≡ get_or entries i entry
    → new ≡ old ++ sight_text f cert (sight_of i since w entry)
    → old ++ sights_text f cert i since w (drop i entries) ≡ whole
    → new
    ++ sights_text f cert (i + 1) (since_after i since w (world_after w entry)) (world_after w entry) (drop (i + 1) entries)
    ≡ whole
sights_more f cert i since w entries entry old new whole within is added so_far =
    piece_more old (sight_text f cert (sight_of i since w entry))
    (sights_text f cert (i + 1) (since_after i since w (world_after w entry)) (world_after w entry) (drop (i + 1) entries))
    (sights_text f cert i since w (drop i entries)) new whole added
    (ap (sights_text f cert i since w) (next_drop entries i entry within is)) so_far

-- the machine after one entry more
pub replay_more : (i : ℕ) (w : WorldState) (entries : List Entry) (entry : Entry) (whole : WorldState)
    → i < length entries → entry ≡ get_or entries i entry → replay w (drop i entries) ≡ whole
    → replay (world_after w entry) (drop (i + 1) entries) ≡ whole
replay_more i w entries entry whole within is so_far =
    ap (replay w) (sym (next_drop entries i entry within is)) ∙ so_far

-- the text of all entries, and the text that is added after them
pub whole_text : (f : Form) (cert : List HopWhy) (start : WorldState) (entries : List Entry) (i since : ℕ)
    (w : WorldState) (t0 t1 : List ℕ)
    → length entries ≤ i
    → t0 ++ sights_text f cert i since w (drop i entries) ≡ head_text f start ++ sights_text f cert 0 0 start entries
    → replay w (drop i entries) ≡ replay start entries
    → t1 ≡ t0 ++ end_text f (length entries) w → t1 ≡ watch_text f cert start entries
whole_text f cert start entries i since w t0 t1 over text world added =
    let gone = past_end entries i over in
    let all : t0 ≡ head_text f start ++ sights_text f cert 0 0 start entries =
    sym (append-nil t0)
    ∙ ap (λ (rest : List Entry). t0 ++ sights_text f cert i since w rest) (sym gone)
    ∙ text in
    let last : w ≡ replay start entries = ap (replay w) (sym gone) ∙ world in
    added
    ∙ (λ k. all k ++ end_text f (length entries) (last k))
    ∙ append_assoc (head_text f start) (sights_text f cert 0 0 start entries)
    (end_text f (length entries) (replay start entries))
