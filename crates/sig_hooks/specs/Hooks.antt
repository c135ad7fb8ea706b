-- Acts by the numbers of signals. This project's own.
use Rattle.std.specs.Prelude.{◌≡◌, ◌≤◌, ◌-◌, ℕ, List, slice_index_or, slice_set}
use Rattle.sig_hooks.specs.declared.act.Act.{Act}
use Rattle.sig_hooks.specs.declared.act.Act.TheVariants.{Nothing}

-- the act of signal n, from 1
abbrev pub act_of : List Act → ℕ → Act
act_of acts n = slice_index_or acts (n - 1) Nothing

-- the acts with another one for signal n
abbrev pub with_act : List Act → ℕ → Act → List Act
with_act acts n act = slice_set acts (n - 1) act

-- the function may be called on each of the 64 signals, and returns the act of the signal
abbrev pub Answers : (ℕ → Type 0) → (ℕ → Act → Type 0) → List Act → Type 0
Answers may_call gives acts =
    (n : ℕ) → 1 ≤ n → n ≤ 64 → may_call n × ((act : Act) → gives n act → act ≡ act_of acts n)
