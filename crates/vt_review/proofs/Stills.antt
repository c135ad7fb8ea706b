-- A console whose terminal an entry leaves unchanged, or takes away: its bell doesn't ring, and none of its
-- rows is new.
use Rattle.std.proofs.Common.{◌≡◌, ℕ, zero, suc, ◌+◌, Bool, true, false, cond, ltb, List, [], ◌∷◌, ◌++◌, drop, Option, Some, refl, ap, ◌∙◌, inl, inr, add-one, arith}
use Rattle.std.specs.Prelude.{slice_get}
use Rattle.std.proofs.lemmas.Bool.{le-ltb}
use Rattle.std.proofs.lemmas.Slice.Eq.{bytes_eq-Decides}
use Rattle.vt_review.specs.Announcements.{is_text, new_rows, has_rung, row_told, rows_of, rows_told}
use Rattle.vt_review.specs.Seen.{IsLeft}
use Rattle.vt_world.specs.State.{WorldState}
use Rattle.vt_world.specs.Terminals.{TerminalState, bells_of, terminal_at}

still_by : (before after : Option TerminalState) → IsLeft before after
    → ltb (bells_of before) (bells_of after) ≡ false
still_by before after (inl same) =
    ap (λ (t : Option TerminalState). ltb (bells_of before) (bells_of t)) same
    ∙ le-ltb (bells_of before) (bells_of before) (omega arith)
still_by before after (inr gone) =
    ap (λ (t : Option TerminalState). ltb (bells_of before) (bells_of t)) gone
    ∙ le-ltb (bells_of before) 0 (omega arith)

pub is_still : (w v : WorldState) (n : ℕ)
    → IsLeft (terminal_at w.terminals n) (terminal_at v.terminals n) → has_rung w v n ≡ false
is_still w v n left = still_by (terminal_at w.terminals n) (terminal_at v.terminals n) left

-- the element of a list at a place, and those after it
at_place : (rows : List (List ℕ)) (y : ℕ) (row : List ℕ) (more : List (List ℕ))
    → drop y rows ≡ row ∷ more → (slice_get rows y ≡ Some row) × (drop (suc y) rows ≡ more)
at_place [] zero row more are = absurd (cc)
at_place [] (suc y) row more are = absurd (cc)
at_place (first ∷ rows) zero row more are = (cc, cc)
at_place (first ∷ rows) (suc y) row more are = at_place rows y row more are

-- no row is new that was there
none_new : (n y : ℕ) (before rows : List (List ℕ)) → drop y before ≡ rows
    → new_rows n before y rows ≡ []
none_new n y before [] are = refl
none_new n y before (row ∷ rows) are =
    let here : (slice_get before y ≡ Some row) × (drop (suc y) before ≡ rows) =
    at_place before y row rows are in
    let was : is_text (slice_get before y) row ≡ true =
    ap (λ (o : Option (List ℕ)). is_text o row) here.0 ∙ (bytes_eq-Decides row row).1 refl in
    ap (λ (b : Bool). cond b [] (row_told n y row ∷ []) ++ new_rows n before (y + 1) rows) was
    ∙ none_new n (y + 1) before rows (ap (λ (k : ℕ). drop k before) (add-one y) ∙ here.1)

shown_by : (n : ℕ) (before after : Option TerminalState) → IsLeft before after
    → new_rows n (rows_of before) 0 (rows_of after) ≡ []
shown_by n before after (inl same) =
    ap (λ (t : Option TerminalState). new_rows n (rows_of before) 0 (rows_of t)) same
    ∙ none_new n 0 (rows_of before) (rows_of before) refl
shown_by n before after (inr gone) =
    ap (λ (t : Option TerminalState). new_rows n (rows_of before) 0 (rows_of t)) gone

pub is_shown : (w v : WorldState) (n : ℕ)
    → IsLeft (terminal_at w.terminals n) (terminal_at v.terminals n) → rows_told w v n ≡ []
is_shown w v n left = shown_by n (terminal_at w.terminals n) (terminal_at v.terminals n) left
