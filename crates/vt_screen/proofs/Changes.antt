-- The rows that change while the bytes of a text are read.
use Rattle.std.proofs.Common.{◌≡◌, ℕ, ◌⊎◌, ◌+◌, ◌<◌, ◌≤◌, ◌||◌, Bool, true, false, not, nat_lt, List, [], ◌∷◌, ◌++◌, take, drop-cons, length, get_or, slice_index, inl, inr, refl, sym, subst, ap, ◌∙◌, arith, ltb-true, ⊎_elim}
use Rattle.std.specs.Prelude.{All}
use Rattle.std.proofs.Math.Seq.{take-add}
use Rattle.std.proofs.lemmas.Bool.{and_parts, cases_lt, false≢true}
use Rattle.std.proofs.lemmas.List.{take_all}
use Rattle.std.proofs.lemmas.List.Elements.{All-append, All-cons, All-nil}
use Rattle.vt_grid.specs.Grid.{row_at}
use Rattle.vt_screen.specs.Run.{ScreenAndOuts, after, run_from, screen_effects, with_outs}
use Rattle.vt_canvas.specs.Screen.{Screen}
use Rattle.vt_screen.specs.ChangedRows.{AreSameOutside, ChangesAtMost, IsAt, Moves, ReadsPlainly, StaysAbove, goes_down, has_next_cursor, is_plain_byte}
use Rattle.vt_screen.specs.declared.cursor_step.CursorState.{CursorState}
use Rattle.vt_units.proofs.Runs.{any_cut}
use Rattle.vt_units.specs.Run.{Reached, step}

-- after so many of the bytes the cursor is here, and at most the rows from the first one to its own have changed
pub record HasCome (cols bottom first : ℕ) (at : CursorState) (m : Reached Screen) (bytes : List ℕ) (i : ℕ) : Type 0 where
  pub now : Reached ScreenAndOuts
  pub runs : run_from m (take i bytes) ≡ now
  pub text : now.rest.text ≡ []
  pub here : IsAt cols bottom at now.state.screen
  pub order : first ≤ at.y
  pub same : AreSameOutside first at.y m.state now.state.screen
  pub last : m.state.state.bottom ≡ bottom
  pub plainly : ReadsPlainly m
  pub plain : All (λ b. is_plain_byte b ≡ true) (take i bytes)
  pub above : (k : ℕ) → k < i
      → goes_down (after m (take k bytes)).state.state.wrap (slice_index bytes k) ≡ true
      → (after m (take k bytes)).state.state.y < m.state.state.bottom

one_more : (bytes : List ℕ) (i : ℕ) → i < length bytes → take (i + 1) bytes ≡ take i bytes ++ get_or bytes i 0 ∷ []
one_more bytes i within =
    take-add i 1 bytes ∙ ap (λ (left : List ℕ). take i bytes ++ take 1 left) (drop-cons bytes i 0 within)

implied : (a b : Bool) → (a ≡ true → b ≡ true) → (not a || b) ≡ true
implied true b h = h refl
implied false b h = refl

implies : (a b : Bool) → (not a || b) ≡ true → a ≡ true → b ≡ true
implies true b h on = h
implies false b h on = absurd (false≢true on)

wider : (first y last k : ℕ) → first ≤ y → y ≤ last → (k < first) ⊎ (last < k) → ((k < first) ⊎ (y < k)) × ((k < y) ⊎ (last < k))
wider first y last k low high (inl above) = (inl above, inl (omega (arith, above, low)))
wider first y last k low high (inr under) = (inr (omega (arith, under, high)), inr under)

-- the wrap and the row of the cursor after these bytes
module _ {cols bottom first : ℕ} {at : CursorState} {m : Reached Screen} {bytes : List ℕ} {i : ℕ}
    (come : HasCome cols bottom first at m bytes i) where
  wrap_is : (after m (take i bytes)).state.state.wrap ≡ at.wrap
  wrap_is = ap (λ (now : Reached ScreenAndOuts). now.state.screen.state.wrap) come.runs ∙ come.here.pending

  row_is : (after m (take i bytes)).state.state.y ≡ at.y
  row_is = ap (λ (now : Reached ScreenAndOuts). now.state.screen.state.y) come.runs ∙ come.here.row

-- the byte at this place doesn't take the cursor down from the region's last row
abbrev StaysAt : Reached Screen → List ℕ → ℕ → Type 0
StaysAt m bytes k =
    goes_down (after m (take k bytes)).state.state.wrap (slice_index bytes k) ≡ true
    → (after m (take k bytes)).state.state.y < m.state.state.bottom

same_number : (i k : ℕ) → i ≤ k → k < i + 1 → i ≡ k
same_number i k late less = omega (arith, late, less)

above_now : (cols bottom first : ℕ) (at : CursorState) (m : Reached Screen) (bytes : List ℕ) (i : ℕ)
    → (not (goes_down at.wrap (get_or bytes i 0)) || nat_lt at.y bottom) ≡ true
    → HasCome cols bottom first at m bytes i → StaysAt m bytes i
above_now cols bottom first at m bytes i stays come =
    λ down.
    let b : ℕ = get_or bytes i 0 in
    let below = ltb-true at.y bottom (implies (goes_down at.wrap b) (nat_lt at.y bottom) stays (ap (λ w. goes_down w b) (sym (wrap_is come)) ∙ down)) in
    omega (arith, below, row_is come, come.last)

-- one byte more
pub come_further : (cols bottom first : ℕ) (at next : CursorState) (m : Reached Screen) (bytes : List ℕ) (i : ℕ)
    → i < length bytes → Moves cols bottom (get_or bytes i 0) at next
    → has_next_cursor bottom at (get_or bytes i 0) ≡ true
    → HasCome cols bottom first at m bytes i → HasCome cols bottom first next m bytes (i + 1)
come_further cols bottom first at next m bytes i within moves known come =
    let b : ℕ = get_or bytes i 0 in
    let done = moves.1 come.now come.text come.here in
    let parts = and_parts (is_plain_byte b) (not (goes_down at.wrap b) || nat_lt at.y bottom) known in
    record {
      now = step screen_effects b come.now;
      runs =
          ap (run_from m) (one_more bytes i within)
          ∙ any_cut screen_effects (take i bytes) (b ∷ []) (with_outs [] m)
          ∙ ap (step screen_effects b) come.runs;
      text = done.0;
      here = done.1;
      order = omega (arith, come.order, moves.0);
      same =
          λ k outside.
          let both = wider first at.y next.y k come.order moves.0 outside in
          done.2 k both.1 ∙ come.same k both.0;
      last = come.last;
      plainly = come.plainly;
      plain =
          subst (All (λ b. is_plain_byte b ≡ true)) (sym (one_more bytes i within))
          (All-append (λ b. is_plain_byte b ≡ true) (take i bytes) (b ∷ []) come.plain
          (All-cons (λ b. is_plain_byte b ≡ true) b [] parts.0 (All-nil (λ b. is_plain_byte b ≡ true))));
      above = λ k less. ⊎_elim
          (λ (early : k < i). come.above k early)
          (λ late. subst (StaysAt m bytes) (same_number i k late less) (above_now cols bottom first at m bytes i parts.1 come))
          (cases_lt k i);
    }

-- after all bytes
pub all_come : (cols bottom first : ℕ) (at : CursorState) (m : Reached Screen) (bytes : List ℕ) (i : ℕ) → length bytes ≤ i
    → HasCome cols bottom first at m bytes i
    → ChangesAtMost first at.y m bytes × ((after m bytes).state.state.y ≡ at.y) × StaysAbove m bytes
all_come cols bottom first at m bytes i all come =
    let done : run_from m bytes ≡ come.now = ap (run_from m) (sym (take_all i bytes all)) ∙ come.runs in (
      λ k outside.
          ap (λ (now : Reached ScreenAndOuts). row_at now.state.screen.grid k) done ∙ come.same k outside,
      ap (λ (now : Reached ScreenAndOuts). now.state.screen.state.y) done ∙ come.here.row,
      record {
        plainly = come.plainly;
        plain = subst (All (λ b. is_plain_byte b ≡ true)) (take_all i bytes all) come.plain;
        above = λ k less. come.above k (omega (arith, less, all));
      },
    )
