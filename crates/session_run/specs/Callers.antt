-- The callers of a session that have a program, and the hooks of its processes. No public clause names
-- this.
use Rattle.std.specs.Prelude.{◌≡◌, ℕ, ◌-◌, ◌<◌, Bool, List, [], filter, is_some, length, Some, None, slice_index_or}
use Rattle.std.specs.List.{range_with_len}
use Rattle.session_text.specs.Programs.{program_of}
use Rattle.session_text.specs.Walks.{HasActs}
use Rattle.session_text.specs.declared.program.Program.{Program}
use Rattle.sig_hooks.specs.declared.act.Act.{Act}
use Rattle.vt_base.specs.Keyboards.{keyboard_of}
use Rattle.vt_base.specs.Limits.{callers}

abbrev pub has_program : List Program → ℕ → Bool
has_program programs p = is_some (program_of programs p)

-- the callers that have a program, rising
unfoldable pub callers_in : List Program → List ℕ
callers_in programs = filter (has_program programs) (range_with_len 0 callers)

-- if caller p of this program is a process, its hook is at the place of its number
abbrev pub HasHook : List (List Act) → ℕ → Program → Type 0
HasHook tables p program =
    keyboard_of p ≡ None → (p - 1 < length tables) × HasActs program (slice_index_or tables (p - 1) [])

-- each process has its hook, and these are the callers that have a program
pub record AreCallers (programs : List Program) (tables : List (List Act)) (list : List ℕ) : Type 0 where
  pub hooks : (p : ℕ) (program : Program) → program_of programs p ≡ Some program → HasHook tables p program
  pub numbers : list ≡ callers_in programs
