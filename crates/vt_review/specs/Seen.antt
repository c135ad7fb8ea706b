-- The changes that an entry makes to the consoles. No public clause names this.
use Rattle.std.specs.Prelude.{◌≡◌, ◌≢◌, ◌⊎◌, ◌≤◌, ℕ, Option, None}
use Rattle.vt_world.specs.State.{WorldState}
use Rattle.vt_world.specs.Terminals.{TerminalState, terminal_at}

-- the terminal is unchanged, or is gone
abbrev pub IsLeft : Option TerminalState → Option TerminalState → Type 0
IsLeft before after = (after ≡ before) ⊎ (after ≡ None)

-- all consoles except c are left so
abbrev pub OthersAreLeft : ℕ → WorldState → WorldState → Type 0
OthersAreLeft c w v =
    (n : ℕ) → 1 ≤ n → n ≤ 63 → n ≢ c
    → IsLeft (terminal_at w.terminals n) (terminal_at v.terminals n)
