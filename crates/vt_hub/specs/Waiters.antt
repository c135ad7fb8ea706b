-- Sets of processes as numbers, and the processes whose tickets are open or were ended. This project's own.
use Rattle.std.specs.Int.{bit_at}
use Rattle.std.specs.Prelude.{◌≡◌, ℕ, Bool, ◌%◌, ◌==◌, ◌≤◌, ◌&&◌, not, true}
use Rattle.vt_world.specs.State.{WorldState, is_waiting}

-- the number of a process
abbrev pub IsProcess : ℕ → Type 0
IsProcess p = (1 ≤ p) × (p ≤ 64)

-- process p is in the set: each of the 64 processes has a bit of its own
abbrev pub has_process : ℕ → ℕ → Bool
has_process set p = bit_at set (p % 64) == 1

-- the set is that of the processes whose tickets are open
abbrev pub AreOpen : WorldState → ℕ → Type 0
AreOpen w set = (p : ℕ) → IsProcess p → has_process set p ≡ is_waiting w p

-- the set is that of the processes whose tickets a call ended: they are open before it, and not after it
abbrev pub AreEnded : WorldState → WorldState → ℕ → Type 0
AreEnded before after set =
    (p : ℕ) → IsProcess p → has_process set p ≡ (is_waiting before p && not (is_waiting after p))

-- the set is that of all processes
abbrev pub AreAll : ℕ → Type 0
AreAll set = (p : ℕ) → IsProcess p → has_process set p ≡ true
