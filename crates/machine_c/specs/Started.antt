-- A machine as C starts it.
use Rattle.std.specs.Prelude.{◌≡◌, ◌≤◌, ◌⊎◌, ◌==◌, ℕ, Option, None, IsSomeAnd, Err, List, [], length, map, replicate}
use Rattle.std.specs.List.{All}
use Rattle.machine.specs.History.{world_of}
use Rattle.machine.specs.MachineState.{MachineState}
use Rattle.c_calls.specs.Codes.{FAULT, NO_MEMORY, OK}
use Rattle.machine_c.specs.Keymaps.{AreTablesIn, fault_of, keymap_of}
use Rattle.c_calls.specs.declared.vt_fault.VtFault.{VtFault}
use Rattle.machine_c.specs.declared.vt_seat.VtSeat.{VtSeat}
use Rattle.machine_c.specs.declared.vt_start.VtStart.{VtStart}
use Rattle.vt_base.specs.ConsoleSet.{IsFitSet}
use Rattle.vt_procs.specs.Callers.{IsFitCount}
use Rattle.vt_procs.specs.declared.config.Config.{Config}
use Rattle.vt_procs.specs.declared.proc_start.ProcStart.{ProcStart}

-- a process with this home, privileged if the number is 1
abbrev pub rights_of : VtSeat → ProcStart
rights_of seat = record { home = seat.home; privileged = seat.privileged == 1 }

-- a home from 1 to 63 or none, 0 or 1, and no spare byte is set
pub record IsSeat (seat : VtSeat) : Type 0 where
  pub home : seat.home ≤ 63
  pub privileged : seat.privileged ≤ 1
  pub spare : seat.spare ≡ replicate 6 0

-- the start that C gives, as the machine has it
pub record IsConfigOf (s : VtStart) (seats : List VtSeat) (c : Config) : Type 0 where
  pub rows : c.size.rows ≡ s.rows
  pub cols : c.size.cols ≡ s.cols
  pub consoles : c.consoles ≡ s.consoles
  pub front : c.front ≡ s.front
  pub keyboards : c.keyboards ≡ s.keyboards
  pub processes : c.procs ≡ map rights_of seats

-- the console in front is one of the set of consoles, which are numbered from 1 to 63
pub record IsFront (consoles front : ℕ) : Type 0 where
  pub low : 1 ≤ front
  pub high : front ≤ 63
  pub set : IsFitSet consoles front

-- every number is in its range, and no spare byte is set
pub record IsInRange (s : VtStart) (seats : List VtSeat) : Type 0 where
  pub rows : (1 ≤ s.rows) × (s.rows ≤ 255)
  pub cols : (1 ≤ s.cols) × (s.cols ≤ 255)
  pub front : IsFront s.consoles s.front
  pub keyboards : IsFitCount s.keyboards
  pub events : s.events ≤ 1_000_000
  pub bytes : s.bytes ≤ 1_073_741_824
  pub spare : s.spare ≡ replicate 22 0
  pub few : length seats ≤ 64
  pub each : All IsSeat seats

-- a machine at its start: the tables of the keymap, these processes, no call, and an empty journal
pub record IsStartOf (s : VtStart) (seats : List VtSeat) (keymap : List ℕ) (m : MachineState) : Type 0 where
  pub config : IsConfigOf s seats m.start.config
  pub compiled : AreTablesIn keymap m.start.tables
  pub world : m.world ≡ world_of m.start
  pub made : m.made ≡ replicate 68 0
  pub gone : m.gone ≡ 0
  pub log : m.log ≡ record { entries = []; limits = record { events = s.events; bytes = s.bytes } }

-- OK: the machine is made
pub record IsMade (s : VtStart) (seats : List VtSeat) (keymap : List ℕ) (old_fault new_fault : VtFault)
    (new : Option MachineState) (code : ℕ) : Type 0 where
  pub fine : code ≡ OK
  pub machine : IsSomeAnd new (IsStartOf s seats keymap)
  pub fault : new_fault ≡ old_fault

-- the keymap has a fault, which is written: no machine is made
pub record HasFault (keymap : List ℕ) (new_fault : VtFault) (new : Option MachineState) (code : ℕ) : Type 0 where
  pub refused : code ≡ FAULT
  pub fault : keymap_of keymap ≡ Err (fault_of new_fault)
  pub spare : new_fault.spare ≡ 0
  pub machine : new ≡ None

-- no memory: no machine is made
pub record LacksMemory (old_fault new_fault : VtFault) (new : Option MachineState) (code : ℕ) : Type 0 where
  pub refused : code ≡ NO_MEMORY
  pub fault : new_fault ≡ old_fault
  pub machine : new ≡ None

-- one of the three
abbrev pub Makes : VtStart → List VtSeat → List ℕ → VtFault → VtFault → Option MachineState → ℕ → Type 0
Makes s seats keymap old_fault new_fault new code =
    IsMade s seats keymap old_fault new_fault new code
    ⊎ (HasFault keymap new_fault new code ⊎ LacksMemory old_fault new_fault new code)
