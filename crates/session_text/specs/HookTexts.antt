-- The texts of hooks. This project's own.
use Rattle.std.specs.Prelude.{◌≡◌, ◌≢◌, ℕ, ◌+◌, ◌-◌, ◌<◌, ◌≤◌, ◌^◌, ◌==◌, true, false, min, Option, Some, None, Result, Ok, Err, List, [], ◌∷◌, codes, decimal, replicate}
use Rattle.std.specs.List.{slice_split}
use Rattle.sig_hooks.specs.Hooks.{with_act}
use Rattle.sig_hooks.specs.declared.act.Act.{Act}
use Rattle.sig_hooks.specs.declared.act.Act.TheVariants as acts
use Rattle.table_fields.specs.FaultCodes.{HOOK}
use Rattle.table_fields.specs.Checked.{fault}
use Rattle.table_fields.specs.Fields.{pair_of}
use Rattle.table_fields.specs.declared.fault.TableFault.{TableFault}
use Rattle.session_text.specs.declared.hooked.Hooked.{Hooked}
use Rattle.session_text.specs.Says.{◌>>=◌}
use Rattle.vt_base.specs.Digits.{lower_hex_value}
use Rattle.vt_base.specs.Signals.{has_signal, with_signal}

-- the words of a text, one blank between each and the next
abbrev pub words_of : List ℕ → List (List ℕ)
words_of text = slice_split (λ b. b == 0x20) text

-- two hexadecimal digits in lower case are a byte
abbrev pub lower_byte_of : List ℕ → Option ℕ
lower_byte_of (high ∷ low ∷ []) = pair_of (lower_hex_value high) (lower_hex_value low)
lower_byte_of word = None

-- a word is a number of 16 bits
abbrev pub IsNumber : List ℕ → ℕ → Type 0
IsNumber word n = (decimal n ≡ word) × (n < 2 ^ 16)

-- the words of an act
abbrev pub IsAct : List (List ℕ) → Act → Type 0
IsAct words acts.Nothing = words ≡ codes "nothing" ∷ []
IsAct words (acts.Disp fd arg) =
    (words ≡ codes "disp" ∷ decimal fd ∷ decimal arg ∷ []) × (fd < 2 ^ 16) × (arg < 2 ^ 16)
IsAct words (acts.Put fd byte) =
    (digits : List ℕ) × (words ≡ codes "put" ∷ decimal fd ∷ digits ∷ []) × (fd < 2 ^ 16)
    × (lower_byte_of digits ≡ Some byte)
IsAct words acts.Leave = words ≡ codes "leave" ∷ []

-- a word is a signal that can have a hook: 1 to 64 except 9 (SIGKILL)
pub record IsHooked (word : List ℕ) (signal : ℕ) : Type 0 where
  pub is : decimal signal ≡ word
  pub low : 1 ≤ signal
  pub high : signal ≤ 64
  pub other : signal ≢ 9

-- the words of a hook: its signal, and its act
abbrev pub IsHook : List (List ℕ) → ℕ → Act → Type 0
IsHook [] signal act = ⊥
IsHook (word ∷ words) signal act = IsHooked word signal × IsAct words act

-- a place in a fault doesn't rise above the greatest number of 32 bits
abbrev pub place : ℕ → ℕ
place n = min n (2 ^ 32 - 1)

-- no signal has a hook
abbrev pub no_hooks : Hooked
no_hooks = record { acts = replicate 64 acts.Nothing; signals = 0 }

abbrev pub with_hook : ℕ → Act → Hooked → Hooked
with_hook signal act hooked = record {
  acts = with_act hooked.acts signal act;
  signals = with_signal hooked.signals signal;
}

-- a text is a hook for a signal that has none yet; otherwise the fault is 26 at its place
abbrev pub hook_says : ℕ → ℕ → Hooked → List ℕ → Result Hooked TableFault → Type 0
hook_says p item hooked text (Ok after) =
    (signal : ℕ) × (act : Act) × IsHook (words_of text) signal act
    × (has_signal hooked.signals signal ≡ false) × (after ≡ with_hook signal act hooked)
hook_says p item hooked text (Err e) =
    ((signal : ℕ) (act : Act) → IsHook (words_of text) signal act
    → has_signal hooked.signals signal ≡ true)
    × (e ≡ fault HOOK p item)

-- the texts of process p are hooks in addition to those that there are, counted from n
abbrev pub hooks_say : ℕ → ℕ → Hooked → List (List ℕ) → Result Hooked TableFault → Type 0
hooks_say p n hooked [] said = said ≡ Ok hooked
hooks_say p n hooked (text ∷ texts) said =
    (hook_says p (place n) hooked text >>= λ after. hooks_say p (n + 1) after texts) said
