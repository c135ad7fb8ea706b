-- The machine at the start. This project's own.
use Rattle.std.specs.Prelude.{ℕ, List, [], replicate}
use Rattle.key_machine.specs.Keys.{start_keys}
use Rattle.key_tables.specs.Tables.{Tables}
use Rattle.scan_codes.specs.Scan.{start_scan}
use Rattle.vt_base.specs.ConsoleSet.{at_each}
use Rattle.vt_procs.specs.Callers.{callers_of}
use Rattle.vt_switch.specs.Calls.{first_display}
use Rattle.vt_world.specs.Inputs.{new_input}
use Rattle.vt_world.specs.State.{WorldState}
use Rattle.vt_world.specs.Terminals.{new_terminal}
use Rattle.vt_procs.specs.declared.proc_start.ProcStart.{ProcStart}

-- every console's input is new, this many keyboards are alive, no key is down, and the key tables
-- are these
abbrev pub start_world : ℕ → ℕ → ℕ → ℕ → ℕ → List ProcStart → Tables → WorldState
start_world rows cols consoles front keyboards starts tables = record {
  rows = rows;
  cols = cols;
  display = first_display consoles front;
  callers = callers_of keyboards starts;
  terminals = at_each consoles (new_terminal rows cols);
  inputs = replicate 64 new_input;
  board = record { scanners = replicate 4 start_scan; keyboard = start_keys; tables = tables };
  trace = record { marks = []; hops = 0 };
}
