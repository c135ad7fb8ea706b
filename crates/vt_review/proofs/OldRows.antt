-- Rows that an entry leaves unchanged aren't new.
use Rattle.std.proofs.Common.{◌≡◌, ℕ, zero, suc, ◌+◌, ◌<◌, ◌≤◌, ◌⊎◌, inl, inr, Bool, true, cond, List, [], ◌∷◌, ◌++◌, drop, length, map, flat_map, get_or, append_assoc, Option, Some, None, refl, sym, ap, subst, ◌∙◌, arith}
use Rattle.std.specs.Prelude.{slice_get, option_map}
use Rattle.std.proofs.lemmas.List.{drop-map, drop_all, at_drop_more, get_or-drop, length-drop, length-map}
use Rattle.std.proofs.lemmas.List.Concat.{flat_map-append}
use Rattle.std.proofs.lemmas.Option.{same_Some, slice_get-get_or, slice_get-map}
use Rattle.std.proofs.lemmas.Slice.Eq.{bytes_eq-Decides}
use Rattle.vt_cells.specs.declared.cell.Cell.{Cell}
use Rattle.vt_dump.specs.Rows.{row_text}
use Rattle.vt_events.specs.declared.entry.Entry.{Entry}
use Rattle.vt_events.specs.declared.event.Event.{Event}
use Rattle.vt_events.specs.declared.event.Event.TheVariants as event
use Rattle.vt_grid.specs.Grid.{GridView, IsFull, row_at}
use Rattle.vt_review.proofs.Writing.{IsWritten, kept_if_activated, kept_if_opened, written}
use Rattle.vt_review.specs.Announcements.{is_text, left_by, new_rows, row_told}
use Rattle.vt_review.specs.Lines.{Told}
use Rattle.vt_review.specs.Screens.{AreAllRows, EventChanges, OthersAreOld, row_notice}
use Rattle.vt_screen.specs.Run.{after}
use Rattle.vt_canvas.specs.Screen.{Screen}
use Rattle.vt_screen.specs.ChangedRows.{ChangesAtMost}
use Rattle.vt_units.specs.Run.{Reached}
use Rattle.vt_world.specs.State.{WorldState}
use Rattle.vt_world.specs.Step.{step}
use Rattle.vt_world.specs.Terminals.{TerminalState, emu_of, terminal_at}

-- a row of a grid that another grid has at the same place
same_row : (s t : GridView) (y : ℕ) → IsFull s → y < s.rows → row_at t y ≡ row_at s y
    → is_text (slice_get (map row_text s.cells) y) (row_text (row_at t y)) ≡ true
same_row s t y full low same =
    let there : slice_get (map row_text s.cells) y ≡ Some (row_text (row_at s y)) =
    slice_get-map row_text s.cells y
    ∙ ap (option_map row_text) (slice_get-get_or s.cells y [] (omega (arith, low, full.tall))) in
    ap (λ (o : Option (List ℕ)). is_text o (row_text (row_at t y))) there
    ∙ ap (λ (row : List Cell). is_text (Some (row_text (row_at s y))) (row_text row)) same
    ∙ (bytes_eq-Decides (row_text (row_at s y)) (row_text (row_at s y))).1 refl

no_others : (first last y rows : ℕ) → rows ≤ 255 → AreAllRows first last → y < rows
    → (y < first) ⊎ (last < y) → ⊥
no_others first last y rows few all low (inl above) = omega (arith, few, all.0, all.1, low, above)
no_others first last y rows few all low (inr below) = omega (arith, few, all.0, all.1, low, below)

pub all_told : (first last : ℕ) (before : List (List ℕ)) (t : GridView) → t.rows ≤ 255 → AreAllRows first last
    → OthersAreOld first last before t
all_told first last before t few all = λ y low out. absurd (no_others first last y t.rows few all low out)

-- an event may change any row
pub any_rows : (m : Reached Screen) (rows : ℕ) (e : Event) → EventChanges 0 255 m rows e
any_rows m rows (event.Write fd b) = inl (refl, omega arith)
any_rows m rows (event.OpenCon k) = tt
any_rows m rows (event.Activate fd k) = tt
any_rows m rows e = (refl, omega arith)

-- the screen of a console after a write, from the one before
screen_after : (bytes : List ℕ) (m t : Reached Screen) (before after_it : Option TerminalState)
    → Some m ≡ emu_of before → Some t ≡ emu_of after_it → IsWritten bytes before after_it
    → (t ≡ m) ⊎ (t ≡ after m bytes)
screen_after bytes m t before after_it was is (inl same) =
    inl (same_Some t m (is ∙ ap emu_of same ∙ sym was))
screen_after bytes m t (Some b) after_it was is (inr same) =
    inr (same_Some t (after m bytes)
    (is ∙ ap emu_of same ∙ ap (λ (x : Reached Screen). Some (after x bytes)) (sym (same_Some m b.emu was))))
screen_after bytes m t None after_it was is (inr same) = let e = was in cc

-- the screen of a console that keeps its terminal
kept_screen : (m t : Reached Screen) (before after_it : Option TerminalState)
    → Some m ≡ emu_of before → Some t ≡ emu_of after_it
    → ((b : TerminalState) → before ≡ Some b → after_it ≡ Some b) → t ≡ m
kept_screen m t (Some b) after_it was is keeps = same_Some t m (is ∙ ap emu_of (keeps b refl) ∙ sym was)
kept_screen m t None after_it was is keeps = let e = was in cc

same_screen : (first last : ℕ) (m t : Reached Screen) → IsFull m.state.grid → t ≡ m
    → OthersAreOld first last (map row_text m.state.grid.cells) t.state.grid
same_screen first last m t full same = λ y low out.
    same_row m.state.grid t.state.grid y full
    (omega (arith, low, ap (λ (x : Reached Screen). x.state.grid.rows) same))
    (ap (λ (x : Reached Screen). row_at x.state.grid y) same)

kept_rows : (first last : ℕ) (m t : Reached Screen) (bytes : List ℕ) → IsFull m.state.grid
    → m.state.grid.rows ≡ t.state.grid.rows → ChangesAtMost first last m bytes
    → (t ≡ m) ⊎ (t ≡ after m bytes)
    → OthersAreOld first last (map row_text m.state.grid.cells) t.state.grid
kept_rows first last m t bytes full rows at_most (inl same) = same_screen first last m t full same
kept_rows first last m t bytes full rows at_most (inr same) = λ y low out.
    same_row m.state.grid t.state.grid y full (omega (arith, low, rows))
    (ap (λ (x : Reached Screen). row_at x.state.grid y) same ∙ at_most y out)

by_event : (w : WorldState) (p n first last : ℕ) (e : Event) (m t : Reached Screen)
    → IsFull m.state.grid → t.state.grid.rows ≤ 255
    → Some m ≡ emu_of (terminal_at w.terminals n)
    → Some t ≡ emu_of (terminal_at (step w p e).world.terminals n)
    → EventChanges first last m t.state.grid.rows e
    → OthersAreOld first last (map row_text m.state.grid.cells) t.state.grid
by_event w p n first last (event.Write fd b) m t full few was is (inl all) =
    all_told first last (map row_text m.state.grid.cells) t.state.grid few all
by_event w p n first last (event.Write fd b) m t full few was is (inr some) =
    kept_rows first last m t b.bytes full some.0 some.1
    (screen_after b.bytes m t (terminal_at w.terminals n)
    (terminal_at (step w p (event.Write fd b)).world.terminals n) was is (written w p fd n b))
by_event w p n first last (event.OpenCon k) m t full few was is any =
    same_screen first last m t full
    (kept_screen m t (terminal_at w.terminals n) (terminal_at (step w p (event.OpenCon k)).world.terminals n) was is
    (λ b there. kept_if_opened w p k n b there))
by_event w p n first last (event.Activate fd k) m t full few was is any =
    same_screen first last m t full
    (kept_screen m t (terminal_at w.terminals n) (terminal_at (step w p (event.Activate fd k)).world.terminals n) was is
    (λ b there. kept_if_activated w p fd k n b there))
by_event w p n first last e m t full few was is all =
    all_told first last (map row_text m.state.grid.cells) t.state.grid few all

-- the rows that an entry leaves unchanged aren't new
pub others_are_old : (w v : WorldState) (entry : Entry) (n first last : ℕ) (m t : Reached Screen)
    → v ≡ left_by w entry → IsFull m.state.grid → t.state.grid.rows ≤ 255
    → Some m ≡ emu_of (terminal_at w.terminals n) → Some t ≡ emu_of (terminal_at v.terminals n)
    → EventChanges first last m t.state.grid.rows entry.event
    → OthersAreOld first last (map row_text m.state.grid.cells) t.state.grid
unfolding left_by
others_are_old w v entry n first last m t left full few was is changes =
    by_event w entry.caller n first last entry.event m t full few was
    (is ∙ ap (λ (u : WorldState). emu_of (terminal_at u.terminals n)) left) changes

-- the same, of the grids that the code has
pub others_of : (w v : WorldState) (entry : Entry) (n first last : ℕ) (m t : Reached Screen) (checked old new : GridView)
    → v ≡ left_by w entry → checked ≡ m.state.grid → old ≡ m.state.grid → new ≡ t.state.grid
    → IsFull checked → new.rows ≤ 255
    → Some m ≡ emu_of (terminal_at w.terminals n) → Some t ≡ emu_of (terminal_at v.terminals n)
    → EventChanges first last m new.rows entry.event
    → OthersAreOld first last (map row_text old.cells) new
others_of w v entry n first last m t checked old new left checked_is old_is new_is full few was is changes =
    subst (λ (g : GridView). OthersAreOld first last (map row_text g.cells) new) (sym old_is)
    (subst (λ (g : GridView). OthersAreOld first last (map row_text m.state.grid.cells) g) (sym new_is)
    (others_are_old w v entry n first last m t left (subst IsFull checked_is full)
    (subst (λ (g : GridView). g.rows ≤ 255) new_is few) was is
    (subst (λ (g : GridView). EventChanges first last m g.rows entry.event) new_is changes)))

-- the notices of a list of rows are those of its first row, and then those of the others
pub first_row : (f : Told → List ℕ) (n y : ℕ) (before : List (List ℕ)) (rows : List (List Cell))
    (row : List Cell) (text start : List ℕ) (new : List ℕ) → y < length rows → row ≡ get_or rows y []
    → new ≡ text ++ flat_map f (row_notice n before y (row_text row))
    → text ++ flat_map f (new_rows n before y (map row_text (drop y rows))) ≡ start
    → new ++ flat_map f (new_rows n before (y + 1) (map row_text (drop (y + 1) rows))) ≡ start
first_row f n y before rows row text start new low here added all =
    let rest : List Told = new_rows n before (y + 1) (map row_text (drop (y + 1) rows)) in
    let notice : List Told = row_notice n before y (row_text row) in
    ap (λ (t : List ℕ). t ++ flat_map f rest) added
    ∙ append_assoc text (flat_map f notice) (flat_map f rest)
    ∙ ap (λ (t : List ℕ). text ++ t) (sym (flat_map-append f notice rest))
    ∙ ap (λ (r : List Cell). text ++ flat_map f (row_notice n before y (row_text r) ++ rest)) here
    ∙ ap (λ (rs : List (List Cell)). text ++ flat_map f (new_rows n before y (map row_text rs)))
    (sym (at_drop_more (λ (rs : List (List Cell)). rs) rows y [] low))
    ∙ all

-- the rows before the first that may be new give no notice
pub skipped : (n : ℕ) (before rows : List (List ℕ)) (y k : ℕ)
    → ((i : ℕ) → i < k → i < length rows → is_text (slice_get before (y + i)) (get_or rows i []) ≡ true)
    → new_rows n before y rows ≡ new_rows n before (y + k) (drop k rows)
skipped n before rows y zero old = ap (λ (z : ℕ). new_rows n before z rows) (omega arith)
skipped n before [] y (suc k) old = refl
skipped n before (row ∷ rows) y (suc k) old =
    ap (λ (b : Bool). cond b [] (row_told n y row ∷ []) ++ new_rows n before (y + 1) rows)
    (ap (λ (z : ℕ). is_text (slice_get before z) row) (let same : y ≡ y + 0 = omega arith in same) ∙ old 0 (omega arith) (omega arith))
    ∙ skipped n before rows (y + 1) k
    (λ i low in_it. ap (λ (z : ℕ). is_text (slice_get before z) (get_or rows i [])) (let same : y + 1 + i ≡ y + suc i = omega arith in same)
    ∙ old (suc i) (omega arith) (omega arith))
    ∙ ap (λ (z : ℕ). new_rows n before z (drop k rows)) (let same : y + 1 + k ≡ y + suc k = omega arith in same)

abbrev texts : GridView → List (List ℕ)
texts t = map row_text t.cells

-- the text of a row that exists
text_at : (t : GridView) (y : ℕ) → IsFull t → y < t.rows → get_or (texts t) y [] ≡ row_text (row_at t y)
text_at t y full low =
    sym (same_Some (row_text (row_at t y)) (get_or (texts t) y [])
    (sym (slice_get-map row_text t.cells y
    ∙ ap (option_map row_text) (slice_get-get_or t.cells y [] (omega (arith, low, full.tall))))
    ∙ slice_get-get_or (texts t) y [] (omega (arith, low, full.tall, length-map t.cells row_text))))

old_at : (first last y : ℕ) (before : List (List ℕ)) (t : GridView) → IsFull t
    → OthersAreOld first last before t → y < t.rows → (y < first) ⊎ (last < y)
    → is_text (slice_get before y) (get_or (texts t) y []) ≡ true
old_at first last y before t full old low out =
    ap (λ (row : List ℕ). is_text (slice_get before y) row) (text_at t y full low) ∙ old y low out

-- the notices of all rows are those from the first that may be new on
pub from_first : (n first last : ℕ) (before : List (List ℕ)) (t : GridView) → IsFull t
    → OthersAreOld first last before t
    → new_rows n before 0 (texts t) ≡ new_rows n before first (map row_text (drop first t.cells))
from_first n first last before t full old =
    skipped n before (texts t) 0 first
    (λ i low in_it. ap (λ (z : ℕ). is_text (slice_get before z) (get_or (texts t) i [])) (let same : 0 + i ≡ i = omega arith in same)
    ∙ old_at first last i before t full old (omega (arith, in_it, full.tall, length-map t.cells row_text)) (inl low))
    ∙ (λ i. new_rows n before ((let same : 0 + first ≡ first = omega arith in same) i) (drop-map row_text first t.cells i))

-- no row after the last that may be new gives one
pub none_from : (n first last y : ℕ) (before : List (List ℕ)) (t : GridView) → IsFull t
    → OthersAreOld first last before t → ((i : ℕ) → y ≤ i → i < t.rows → last < i)
    → new_rows n before y (map row_text (drop y t.cells)) ≡ []
none_from n first last y before t full old beyond =
    let rest : List (List ℕ) = drop y (texts t) in
    ap (new_rows n before y) (sym (drop-map row_text y t.cells))
    ∙ skipped n before rest y (length rest)
    (λ i low in_it.
    let within : y + i < t.rows =
    omega (arith, in_it, length-drop y (texts t), length-map t.cells row_text, full.tall) in
    ap (λ (row : List ℕ). is_text (slice_get before (y + i)) row) (get_or-drop y (texts t) i [])
    ∙ old_at first last (y + i) before t full old within (inr (beyond (y + i) (omega arith) within)))
    ∙ ap (new_rows n before (y + length rest)) (drop_all (length rest) rest (omega arith))
