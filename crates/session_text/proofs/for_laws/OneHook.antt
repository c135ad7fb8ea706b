-- The text of a hook has one meaning.
use Rattle.std.proofs.Common.{◌≡◌, ℕ, ◌+◌, ◌<◌, ◌^◌, Some, List, [], ◌∷◌, decimal, Ok, Err, refl, ap, sym, ◌∙◌, true≢false, arith}
use Rattle.std.proofs.lemmas.Fmt.{decimal_injective}
use Rattle.sig_hooks.specs.declared.act.Act.{Act}
use Rattle.sig_hooks.specs.declared.act.Act.TheVariants as acts
use Rattle.session_text.specs.HookTexts.{IsAct, IsHook, hook_says, hooks_say, lower_byte_of, place, with_hook, words_of}
use Rattle.session_text.specs.declared.hooked.Hooked.{Hooked}
use Rattle.session_text.proofs.HookWords.{one_signal}
use Rattle.session_text.proofs.for_laws.OneResult.{IsOne, bind_one}

same_number : (n m : ℕ) → n < 2 ^ 16 → m < 2 ^ 16 → decimal n ≡ decimal m → n ≡ m
same_number n m low lower same = decimal_injective n m (omega arith) (omega arith) same

-- words spell one act at most
one_act : (words : List (List ℕ)) (a b : Act) → IsAct words a → IsAct words b → a ≡ b
one_act words acts.Nothing acts.Nothing this other = refl
one_act words acts.Nothing (acts.Disp fd arg) this other = let are = other.0 in cc
one_act words acts.Nothing (acts.Put fd byte) this other = let are = other.1 in cc
one_act words acts.Nothing acts.Leave this other = cc
one_act words (acts.Disp fd arg) acts.Nothing this other = let are = this.0 in cc
one_act words (acts.Disp fd arg) (acts.Disp fd' arg') this other =
    let is = this.0 in
    let are = other.0 in
    let first : decimal fd ≡ decimal fd' = cc in
    let last : decimal arg ≡ decimal arg' = cc in
    let fds = same_number fd fd' this.1 other.1 first in
    let args = same_number arg arg' this.2 other.2 last in
    λ i. acts.Disp (fds i) (args i)
one_act words (acts.Disp fd arg) (acts.Put fd' byte) this other =
    let is = this.0 in let are = other.1 in cc
one_act words (acts.Disp fd arg) acts.Leave this other = let is = this.0 in cc
one_act words (acts.Put fd byte) acts.Nothing this other = let is = this.1 in cc
one_act words (acts.Put fd byte) (acts.Disp fd' arg) this other =
    let is = this.1 in let are = other.0 in cc
one_act words (acts.Put fd byte) (acts.Put fd' byte') this other =
    let is = this.1 in
    let are = other.1 in
    let first : decimal fd ≡ decimal fd' = cc in
    let last : this.0 ≡ other.0 = cc in
    let fds = same_number fd fd' this.2 other.2 first in
    let read : Some byte ≡ Some byte' = sym this.3 ∙ ap lower_byte_of last ∙ other.3 in
    let bytes : byte ≡ byte' = cc in
    λ i. acts.Put (fds i) (bytes i)
one_act words (acts.Put fd byte) acts.Leave this other = let is = this.1 in cc
one_act words acts.Leave acts.Nothing this other = cc
one_act words acts.Leave (acts.Disp fd arg) this other = let are = other.0 in cc
one_act words acts.Leave (acts.Put fd byte) this other = let are = other.1 in cc
one_act words acts.Leave acts.Leave this other = refl

same_act : (words : List (List ℕ)) (s t : ℕ) (a b : Act) → IsHook words s a → IsHook words t b → a ≡ b
same_act [] s t a b this other = absurd this
same_act (word ∷ words) s t a b this other = one_act words a b this.1 other.1

hook_one : (p item : ℕ) (hooked : Hooked) (text : List ℕ) → IsOne (hook_says p item hooked text)
hook_one p item hooked text (Ok after) (Ok after') this other =
    let signals = one_signal (words_of text) this.0 other.0 this.1 other.1 this.2 other.2 in
    let are = same_act (words_of text) this.0 other.0 this.1 other.1 this.2 other.2 in
    ap Ok
    (this.4
    ∙ (λ i. with_hook (signals i) (are i) hooked)
    ∙ sym other.4)
hook_one p item hooked text (Ok after) (Err e) this other =
    absurd (true≢false (sym (other.0 this.0 this.1 this.2) ∙ this.3))
hook_one p item hooked text (Err e) (Ok after) this other =
    absurd (true≢false (sym (this.0 other.0 other.1 other.2) ∙ other.3))
hook_one p item hooked text (Err e) (Err f) this other = ap Err (this.1 ∙ sym other.1)

pub hooks_one : (p n : ℕ) (hooked : Hooked) (texts : List (List ℕ)) → IsOne (hooks_say p n hooked texts)
hooks_one p n hooked [] a b this other = this ∙ sym other
hooks_one p n hooked (text ∷ texts) a b this other =
    bind_one (hook_says p (place n) hooked text) (λ after. hooks_say p (n + 1) after texts)
    (hook_one p (place n) hooked text) (λ after. hooks_one p (n + 1) after texts) a b this other
