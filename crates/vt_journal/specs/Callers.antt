-- The words of callers in the versions of the journal text. This project's own.
use Rattle.std.specs.Prelude.{◌≡◌, ℕ, ◌==◌, ◌-◌, ◌<◌, ◌≤◌, ◌&&◌, ◌++◌, nat_le, Bool, List, codes, decimal, if◌then◌else◌}
use Rattle.vt_base.specs.Limits.{callers, processes}

-- there are two versions
abbrev pub IsVersion : ℕ → Type 0
IsVersion version = (1 ≤ version) × (version ≤ 2)

-- a caller that isn't a process is a keyboard
abbrev pub is_process : ℕ → Bool
is_process caller = nat_le 1 caller && nat_le caller processes

-- keyboard 0 is caller 0, and the others are the callers after the processes; 0 - 64 is 0
abbrev pub keyboard_number : ℕ → ℕ
keyboard_number caller = caller - processes

-- version 1 has a caller's number, version 2 a letter too: k and a keyboard's number, p and a process's
abbrev pub caller_word : ℕ → ℕ → List ℕ
caller_word version caller =
    if version == 1 then decimal caller
    else if is_process caller then codes "p" ++ decimal caller
    else codes "k" ++ decimal (keyboard_number caller)

-- a caller that the version has a word for: version 1 knows one keyboard
abbrev pub HasWord : ℕ → ℕ → Type 0
HasWord version caller = (caller < callers) × (version ≡ 1 → caller ≤ processes)
