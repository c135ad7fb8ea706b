-- Symbols and modifier words that are read one by one.
use Rattle.std.proofs.Common.{◌≡◌, ℕ, suc, ◌+◌, ◌-◌, ◌<◌, Some, None, Result, Ok, Err, List, [], ◌∷◌, ◌++◌, length, append_assoc, append-nil, bit_or, refl, sym, ap, ◌∙◌, subst, arith}
use Rattle.key_syms.specs.Act.{Act}
use Rattle.key_text.specs.Fault.{◌>>=◌}
use Rattle.key_text.specs.Fields.{action_of, symbols_after, symbols_at, with_actions}
use Rattle.key_text.specs.Lines.{modifiers_at, modifiers_by, weight_of}
use Rattle.key_text.specs.Words.{next, whole, word_at}
use Rattle.key_text.specs.declared.fault.KeyFault.{KeyFault}
use Rattle.key_text.specs.FaultKinds.{UNKNOWN_WORD}
use Rattle.key_text.specs.declared.placed.Place.{Place}
use Rattle.key_text.specs.declared.placed.Placed.{Placed}

-- these actions were read before the rest
pub record AreSymbols (first : Act) (items : List Placed) (actions : List Act) (rest : List Placed) (turn : ℕ) : Type 0 where
  pub some : 0 < length actions
  pub same : with_actions actions (symbols_at (length items - turn) rest) ≡ with_actions (first ∷ []) (symbols_at (length items) items)

joined : (front : List Act) (action : Act) (read : Result (List Act) KeyFault) → with_actions front (read >>= λ actions. Ok (action ∷ actions)) ≡ with_actions (front ++ action ∷ []) read
joined front action (Ok actions) = ap Ok (sym (append_assoc front (action ∷ []) actions))
joined front action (Err e) = refl

step : (n : ℕ) (rest : List Placed) (w v : List Placed × List Placed) (action : Act) → word_at rest ≡ Some w → whole w ≡ Ok v → action_of v.0 ≡ Ok action → symbols_at (suc n) rest ≡ (symbols_at n v.1 >>= λ actions. Ok (action ∷ actions))
step n rest w v action found good known =
    ap (symbols_after (symbols_at n)) found
    ∙ ap (λ read. read >>= λ u. action_of u.0 >>= λ a. symbols_at n u.1 >>= λ actions. Ok (a ∷ actions)) good
    ∙ ap (λ read. read >>= λ a. symbols_at n v.1 >>= λ actions. Ok (a ∷ actions)) known

pub symbols_more : (first : Act) (items : List Placed) (actions : List Act) (rest : List Placed) (turn : ℕ) → AreSymbols first items actions rest turn → turn < length items → (w v : List Placed × List Placed) (action : Act) → word_at rest ≡ Some w → whole w ≡ Ok v → action_of v.0 ≡ Ok action → (pushed : List Act) → pushed ≡ actions ++ action ∷ [] → AreSymbols first items pushed v.1 (turn + 1)
symbols_more first items actions rest turn so_far h w v action found good known pushed p =
    let n = length items - (turn + 1) in
    let turns : length items - turn ≡ suc n = omega arith in
    record {
      some = subst (λ (acts : List Act). 0 < length acts) (sym p) (longer actions action);
      same =
          ap (λ acts. with_actions acts (symbols_at n v.1)) p
          ∙ sym (joined actions action (symbols_at n v.1))
          ∙ ap (with_actions actions) (sym (step n rest w v action found good known))
          ∙ ap (λ m. with_actions actions (symbols_at m rest)) (sym turns)
          ∙ so_far.same;
    }
  where
    longer : (acts : List Act) (a : Act) → 0 < length (acts ++ a ∷ [])
    longer [] a = omega arith
    longer (x ∷ acts) a = omega arith

-- the words before the rest weigh this together
pub record AreModifiers (weight : ℕ) (end : Place) (items : List Placed) (table : ℕ) (rest : List Placed) (turn : ℕ) : Type 0 where
  pub same : modifiers_at (length items + 1 - turn) table end rest ≡ modifiers_at (length items + 1) weight end items

-- what is left of the turns
turns_left : (len turn : ℕ) → turn < len → len - turn ≡ suc (len - (turn + 1))
turns_left len turn h = omega arith

pub symbols_end : (first : Act) (items : List Placed) (actions : List Act) (rest : List Placed) (turn : ℕ) → AreSymbols first items actions rest turn → turn < length items → word_at rest ≡ None → with_actions (first ∷ []) (symbols_at (length items) items) ≡ Ok actions
symbols_end first items actions rest turn so_far h found =
    let n = length items - (turn + 1) in
    sym so_far.same
    ∙ ap (λ m. with_actions actions (symbols_at m rest)) (turns_left (length items) turn h)
    ∙ ap (λ w. with_actions actions (symbols_after (symbols_at n) w)) found
    ∙ ap Ok (append-nil actions)

pub symbols_bad : (first : Act) (items : List Placed) (actions : List Act) (rest : List Placed) (turn : ℕ) → AreSymbols first items actions rest turn → turn < length items → (w : List Placed × List Placed) (f : KeyFault) → word_at rest ≡ Some w → whole w ≡ Err f → with_actions (first ∷ []) (symbols_at (length items) items) ≡ Err f
symbols_bad first items actions rest turn so_far h w f found bad =
    let n = length items - (turn + 1) in
    sym so_far.same
    ∙ ap (λ m. with_actions actions (symbols_at m rest)) (turns_left (length items) turn h)
    ∙ ap (λ v. with_actions actions (symbols_after (symbols_at n) v)) found
    ∙ ap (λ read. with_actions actions (read >>= λ u. action_of u.0 >>= λ a. symbols_at n u.1 >>= λ acts. Ok (a ∷ acts))) bad

pub symbols_unknown : (first : Act) (items : List Placed) (actions : List Act) (rest : List Placed) (turn : ℕ) → AreSymbols first items actions rest turn → turn < length items → (w v : List Placed × List Placed) (f : KeyFault) → word_at rest ≡ Some w → whole w ≡ Ok v → action_of v.0 ≡ Err f → with_actions (first ∷ []) (symbols_at (length items) items) ≡ Err f
symbols_unknown first items actions rest turn so_far h w v f found good bad =
    let n = length items - (turn + 1) in
    sym so_far.same
    ∙ ap (λ m. with_actions actions (symbols_at m rest)) (turns_left (length items) turn h)
    ∙ ap (λ u. with_actions actions (symbols_after (symbols_at n) u)) found
    ∙ ap (λ read. with_actions actions (read >>= λ u. action_of u.0 >>= λ a. symbols_at n u.1 >>= λ acts. Ok (a ∷ acts))) good
    ∙ ap (λ read. with_actions actions (read >>= λ a. symbols_at n v.1 >>= λ acts. Ok (a ∷ acts))) bad

modifiers_step : (n table : ℕ) (end : Place) (rest : List Placed) (w : List Placed × List Placed) (weight : ℕ) → next UNKNOWN_WORD end rest ≡ Ok w → weight_of w.0 ≡ Some weight → modifiers_at (suc n) table end rest ≡ modifiers_at n (bit_or table weight) end w.1
modifiers_step n table end rest w weight found weighs =
    ap (λ read. read >>= λ u. modifiers_by (λ more left. modifiers_at n more end left) table u (weight_of u.0)) found
    ∙ ap (modifiers_by (λ more left. modifiers_at n more end left) table w) weighs

pub modifiers_more : (weight : ℕ) (end : Place) (items : List Placed) (table : ℕ) (rest : List Placed) (turn : ℕ) → AreModifiers weight end items table rest turn → turn < length items + 1 → (w : List Placed × List Placed) (more : ℕ) → next UNKNOWN_WORD end rest ≡ Ok w → weight_of w.0 ≡ Some more → AreModifiers weight end items (bit_or table more) w.1 (turn + 1)
modifiers_more weight end items table rest turn so_far h w more found weighs = record {
  same =
      sym (modifiers_step (length items + 1 - (turn + 1)) table end rest w more found weighs)
      ∙ ap (λ m. modifiers_at m table end rest) (sym (turns_left (length items + 1) turn h))
      ∙ so_far.same;
}
