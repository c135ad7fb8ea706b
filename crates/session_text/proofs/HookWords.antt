-- The words of hooks.
use Rattle.std.proofs.Common.{◌≡◌, ℕ, ◌+◌, ◌<◌, Bool, true, false, nat_lt, ◌||◌, cond, Some, None, List, [], ◌∷◌, Bor, length, get_or, map, drop, Result, Ok, Err, refl, subst, sym, ◌∙◌, arith}
use Rattle.std.proofs.lemmas.List.{at_drop_more}
use Rattle.std.proofs.lemmas.Fmt.{decimal_injective}
use Rattle.sig_hooks.specs.declared.act.Act.{Act}
use Rattle.table_fields.specs.FaultCodes.{HOOK}
use Rattle.table_fields.specs.Checked.{fault}
use Rattle.table_fields.specs.declared.fault.TableFault.{TableFault}
use Rattle.vt_base.specs.Range.{in_range}
use Rattle.vt_base.specs.Signals.{has_signal}
use Rattle.session_text.specs.HookTexts.{IsHook, hook_says, hooks_say, place, words_of}
use Rattle.session_text.specs.declared.hooked.Hooked.{Hooked}

-- the words of a hook name one signal
pub one_signal : (words : List (List ℕ)) (s t : ℕ) (a b : Act) → IsHook words s a → IsHook words t b
    → s ≡ t
one_signal [] s t a b h k = absurd h
one_signal (word ∷ words) s t a b h k =
    let high = h.0.high in
    let top = k.0.high in
    decimal_injective s t (omega arith) (omega arith) (h.0.is ∙ sym k.0.is)

-- if the next text is a hook, the others are read after it
pub hooks_more : (p i item : ℕ) (hooked after : Hooked) (texts : List (Bor (List ℕ))) (d : Bor (List ℕ))
    → i < length texts → item ≡ place (i + 1)
    → hook_says p item hooked (get_or texts i d).now (Ok after)
    → (said : Result Hooked TableFault)
    → hooks_say p (i + 1 + 1) after (map (λ (text : Bor (List ℕ)). text.now) (drop (i + 1) texts)) said
    → hooks_say p (i + 1) hooked (map (λ (text : Bor (List ℕ)). text.now) (drop i texts)) said
hooks_more p i item hooked after texts d within is first said others =
    let now : Bor (List ℕ) → List ℕ = λ text. text.now in
    let first' : hook_says p (place (i + 1)) hooked (get_or texts i d).now (Ok after) =
    subst (λ k. hook_says p k hooked (get_or texts i d).now (Ok after)) is first in
    subst (λ ts. hooks_say p (i + 1) hooked ts said) (sym (at_drop_more (map now) texts i d within))
    (Ok after, first', others)

-- the next text isn't a hook
pub hooks_fault : (p i item : ℕ) (hooked : Hooked) (texts : List (Bor (List ℕ))) (d : Bor (List ℕ))
    → i < length texts → item ≡ place (i + 1) → (f : TableFault)
    → hook_says p item hooked (get_or texts i d).now (Err f)
    → hooks_say p (i + 1) hooked (map (λ (text : Bor (List ℕ)). text.now) (drop i texts)) (Err f)
hooks_fault p i item hooked texts d within is f first =
    let now : Bor (List ℕ) → List ℕ = λ text. text.now in
    let first' : hook_says p (place (i + 1)) hooked (get_or texts i d).now (Err f) =
    subst (λ k. hook_says p k hooked (get_or texts i d).now (Err f)) is first in
    subst (λ ts. hooks_say p (i + 1) hooked ts (Err f)) (sym (at_drop_more (map now) texts i d within))
    (Err f, first', refl)

-- the next text is a hook for a signal that has one already
pub hook_fault : (p item : ℕ) (hooked : Hooked) (text : List ℕ) (words : List (List ℕ)) (s t : ℕ)
    (act : Act) → words ≡ words_of text → IsHook words s act → s ≡ t
    → has_signal hooked.signals t ≡ true → hook_says p item hooked text (Err (fault HOOK p item))
hook_fault p item hooked text words s t act are hook same taken = (
  λ signal other h.
      let one : t ≡ signal =
      sym same ∙ one_signal (words_of text) s signal act other (subst (λ w. IsHook w s act) are hook) h in
      subst (λ n. has_signal hooked.signals n ≡ true) one taken,
  refl,
)

-- a number within a range is read as itself
pub in_range_same : (low high n m : ℕ) → in_range low high n ≡ Some m → n ≡ m
in_range_same low high n m is = by_test (nat_lt n low || nat_lt high n) is
  where
    by_test : (b : Bool) → cond b None (Some n) ≡ Some m → n ≡ m
    by_test true none = cc
    by_test false some = cc
