-- The facts about every session: it begins at a start of the machine, and only callers have programs.
use Rattle.std.proofs.Common.{◌≡◌, ℕ, ◌≤◌, List, length, refl, sym, ◌∙◌, arith}
use Rattle.std.proofs.lemmas.Bool.Decides.{nat_tests}
use Rattle.key_tables.specs.Tables.{Tables}
use Rattle.session_order.specs.Laws.{IsFromStart}
use Rattle.session_order.specs.Sessions.{AreOfCallers, setup_of, start_of}
use Rattle.session_text.specs.Sessions.{ArePrograms, CallersHavePrograms, SessionView}
use Rattle.session_text.specs.declared.program.Program.{Program}
use Rattle.vt_base.specs.ConsoleSet.{IsFitSet}
use Rattle.vt_procs.specs.declared.config.Config.{Config}
use Rattle.vt_world.specs.Laws.{IsStart}
use Rattle.vt_world.specs.Start.{start_world}
use Rattle.vt_world.specs.State.{WorldState}

pub opens_there : (s : SessionView) (w : WorldState) (c : Config) (t : Tables) → c ≡ s.config → t ≡ s.tables
    → w ≡ start_world c.size.rows c.size.cols c.consoles c.front c.keyboards c.procs t → w ≡ start_of s
opens_there s w c t config tables is =
    is ∙ (λ i. start_world (config i).size.rows (config i).size.cols (config i).consoles (config i).front (config i).keyboards (config i).procs (tables i))

abbrev pub is_start : (s : SessionView) → IsFitSet s.config.consoles s.config.front → IsStart (start_of s)
is_start s fit = record {
  rows = s.config.size.rows;
  cols = s.config.size.cols;
  consoles = s.config.consoles;
  front = s.config.front;
  keyboards = s.config.keyboards;
  processes = s.config.procs;
  tables = s.tables;
  fit = fit;
  opened = refl;
}

pub from_start : (s : SessionView) → ArePrograms (length s.config.procs) s.config.keyboards s.programs
    → IsFromStart (setup_of s)
from_start s are = record {
  rows = s.config.size.rows;
  cols = s.config.size.cols;
  consoles = s.config.consoles;
  front = s.config.front;
  keyboards = s.config.keyboards;
  processes = s.config.procs;
  tables = s.tables;
  start = refl;
  programs = are;
}

pub of_callers : CallersHavePrograms → (processes keyboards : ℕ) (list : List Program) → processes ≤ 64
    → keyboards ≤ 4 → ArePrograms processes keyboards list → AreOfCallers list
of_callers have processes keyboards list few four are = λ p is.
    let there = sym (have processes keyboards list few are p) ∙ is in grind (arith, nat_tests)
