-- Machines after histories: what is the same leads to histories that are alike.
use Rattle.std.proofs.Common.{◌≡◌, ℕ, ◌+◌, ◌<◌, ◌≤◌, zero, suc, arith, List, [], ◌∷◌, ◌++◌, length, get_or, map, Option, Some, None, refl, sym, ap, ◌∙◌, subst}
use Rattle.std.proofs.lemmas.List.{length_push, map-append}
use Rattle.std.specs.Prelude.{is_some}
use Rattle.vt_explore.specs.Alike.{AreAlike}
use Rattle.vt_explore.specs.Positions.{AreSame, IsAfter}
use Rattle.session_order.specs.Orders.{after_turn, after_turns, with_call}
use Rattle.vt_explore.specs.declared.position.Position.{Position}
use Rattle.session_order.proofs.Programs.{next_fine}
use Rattle.session_order.specs.Calls.{as_meant, calls_by, next_of}
use Rattle.session_order.specs.Ends.{Setup}
use Rattle.session_order.specs.Serial.{call_now, entry_at}
use Rattle.session_order.specs.Sessions.{AreOfCallers}
use Rattle.session_order.specs.Standing.{IsWalkAfter}
use Rattle.session_text.specs.Programs.{Call, next, program_of}
use Rattle.session_text.specs.Walks.{Place, rest_of_calls}
use Rattle.session_text.specs.declared.program.Program.{Program}
use Rattle.vt_events.specs.declared.entry.Entry.{Entry}
use Rattle.vt_events.specs.declared.event.Event.{Event}
use Rattle.vt_world.specs.Heard.{without_marks}

-- the element at a place
found_at : {A : Type 0} (xs : List A) (k : ℕ) → k < length xs → (x : A) × (x ≡ get_or xs k x)
found_at [] k low = absurd (let no : ⊥ = omega (arith, low) in no)
found_at (x ∷ xs) zero low = (x, refl)
found_at (x ∷ xs) (suc k) low = found_at xs k (omega (arith, low))

-- the calls that a walk leaves
left_by : (program : Program) (walk : Place) (made more : List Call) → IsWalkAfter program walk made
    → next program (made ++ map as_meant more) ≡ rest_of_calls program walk more
left_by program walk made more after =
    ap (λ m. next program (m ++ map as_meant more)) (sym after.meant)
    ∙ ap (next program) (sym (map-append as_meant after.calls more))
    ∙ (next_fine program).same (after.calls ++ more)
    ∙ after.stands.same more

pub alike_of_same : (o : Setup) (a b : List Entry) (m n : Position) → AreOfCallers o.programs
    → IsAfter o a m → IsAfter o b n → AreSame m n → AreAlike o a b
alike_of_same o a b m n few at_a at_b same =
    record {
      world = ap without_marks (sym at_a.replayed) ∙ same.world ∙ ap without_marks at_b.replayed;
      ahead = λ p more. by_program p more (program_of o.programs p) refl;
    }
  where
    by_program : (p : ℕ) (more : List Call) (found : Option Program) → program_of o.programs p ≡ found
        → next_of found (calls_by p a ++ map as_meant more) ≡ next_of found (calls_by p b ++ map as_meant more)
    by_program p more None none = refl
    by_program p more (Some program) is =
        let low : p < 68 = few p (ap is_some is) in
        let (walk, read) = found_at m.standing.walks p (omega (arith, low, at_a.standing.walks)) in
        left_by program walk (calls_by p a) more
        (at_a.standing.stand p program walk (omega (arith, low)) is read)
        ∙ sym (left_by program walk (calls_by p b) more
        (at_b.standing.stand p program walk (omega (arith, low)) is
        (subst (λ ws. walk ≡ get_or ws p walk) same.walks read)))

-- a turn makes at most one call
pub length_turn : (o : Setup) (p : ℕ) (h : List Entry) → length (after_turn o p h) ≤ length h + 1
length_turn o p h = by_call (call_now o h p)
  where
    by_call : (now : Option Event) → length (with_call o p now h) ≤ length h + 1
    by_call None = omega arith
    by_call (Some e) = let more = length_push h (entry_at o.start h p e) in omega (arith, more)

pub length_turns : (o : Setup) (order : List ℕ) (h : List Entry)
    → length (after_turns o order h) ≤ length h + length order
length_turns o [] h = omega arith
length_turns o (p ∷ order) h =
    let one = length_turn o p h in
    let more = length_turns o order (after_turn o p h) in
    omega (arith, one, more)
