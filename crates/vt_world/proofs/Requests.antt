-- Consoles that are wanted.
use Rattle.std.proofs.Common.{◌≡◌, ◌<◌, ℕ, suc, ◌+◌, ◌-◌, Bool, true, false, cond, List, ◌∷◌, ◌++◌, Option, Some, None, refl, sym, ap, ◌∙◌, arith, true≢false}
use Rattle.std.proofs.lemmas.List.Folds.{find-append}
use Rattle.std.specs.List.{find, range_with_len}
use Rattle.std.specs.Option.{option_or}
use Rattle.std.specs.Prelude.{is_some}
use Rattle.vt_switch.specs.Calls.{after_asked, request_outcome, request}
use Rattle.vt_switch.specs.Display.{Display}
use Rattle.vt_switch.specs.declared.asked.Asked.{Asked}
use Rattle.vt_switch.specs.declared.asked.Asked.TheVariants.{Hopped, Signalled, Ignored}

-- the first of the numbers that are left
pub range_first : (from k len : ℕ) → k < len
    → range_with_len from (len - k) ≡ from ∷ range_with_len (from + 1) (len - (k + 1))
range_first from k len within =
    let more : len - k ≡ suc (len - (k + 1)) = omega (arith, within) in
    ap (range_with_len from) more

-- a number that passes is found
pub found_here : (p : ℕ → Bool) (n : ℕ) (ns : List ℕ) (c : Option ℕ)
    → c ≡ cond (p n) (Some n) None → is_some c ≡ true → c ≡ find p (n ∷ ns)
found_here p n ns c is some = by_test (p n) is
  where
    by_test : (b : Bool) → c ≡ cond b (Some n) None → c ≡ cond b (Some n) (find p ns)
    by_test true is' = is'
    by_test false is' = absurd (true≢false (sym some ∙ ap is_some is'))

-- and if it doesn't pass, a later one is found
pub found_later : (p : ℕ → Bool) (n : ℕ) (ns : List ℕ) (c : Option ℕ)
    → c ≡ cond (p n) (Some n) None → is_some c ≡ false → find p (n ∷ ns) ≡ find p ns
found_later p n ns c is none = by_test (p n) is
  where
    by_test : (b : Bool) → c ≡ cond b (Some n) None → cond b (Some n) (find p ns) ≡ find p ns
    by_test true is' = absurd (true≢false (sym (ap is_some is') ∙ none))
    by_test false is' = refl

-- a number that is found in the first of two lists is found in both
pub found_first : (p : ℕ → Bool) (ns ms : List ℕ) (n : ℕ) → find p ns ≡ Some n
    → Some n ≡ find p (ns ++ ms)
found_first p ns ms n is = sym (find-append p ns ms ∙ ap (λ o. option_or o (find p ms)) is)

-- if none is found in the first, it is found in the second
pub found_second : (p : ℕ → Bool) (ns ms : List ℕ) (c : Option ℕ) → find p ns ≡ None
    → c ≡ find p ms → c ≡ find p (ns ++ ms)
found_second p ns ms c none is =
    is ∙ sym (find-append p ns ms ∙ ap (λ o. option_or o (find p ms)) none)

asked_alike : (d : Display) (n : ℕ) (a : Asked) → (after_asked d n a).consoles ≡ d.consoles
asked_alike d n (Hopped hop) = refl
asked_alike d n (Signalled owner signal) = refl
asked_alike d n Ignored = refl

-- a request leaves the consoles
pub request_alike : (d : Display) (n : ℕ) → (request d n).consoles ≡ d.consoles
request_alike d n = asked_alike d n (request_outcome d n)
