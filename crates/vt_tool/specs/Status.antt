-- The end of a run of the program, this project's own: one case for each status (docs/reference/program.md).
use Rattle.std.specs.Prelude.{ℕ, Bool, true, false, List, [], ◌++◌, codes, decimal}
use Rattle.vt_tool.specs.declared.status.Status.{Status}
use Rattle.vt_tool.specs.declared.status.Status.TheVariants.{Fine, Usage, ReadFault, WriteFault, NoMemory, Refused, TooLong, JournalFull, Illegal}

-- the exit status
abbrev pub number_of : Status → ℕ
number_of Fine = 0
number_of Usage = 1
number_of ReadFault = 2
number_of WriteFault = 3
number_of NoMemory = 4
number_of (Refused code a b) = 5
number_of TooLong = 6
number_of (JournalFull full) = 7
number_of (Illegal index why) = 8

-- the line on err: nothing at Fine
abbrev pub line_of : Status → List ℕ
line_of Fine = []
line_of Usage = codes "vt: usage: screen R C | keys | type | play | race | check | drill N SEED | upgrade | cook | dumpkeys | review K N | explain | accept\n"
line_of ReadFault = codes "vt: read failed\n"
line_of WriteFault = codes "vt: write failed\n"
line_of NoMemory = codes "vt: no memory\n"
line_of (Refused code a b) =
    codes "vt: refused "
    ++ (decimal code ++ (codes " at " ++ (decimal a ++ (codes ":" ++ (decimal b ++ codes "\n")))))
line_of TooLong = codes "vt: input too long\n"
line_of (JournalFull full) =
    codes "vt: journal full "
    ++ (decimal full.events ++ (codes " " ++ (decimal full.bytes ++ (codes " "
    ++ (decimal full.charge ++ codes "\n")))))
line_of (Illegal index why) =
    codes "vt: illegal " ++ (decimal index ++ (codes " " ++ (decimal why ++ codes "\n")))

-- a status that a command has for its input; the others are of words, streams and memory
abbrev pub is_command_status : Status → Bool
is_command_status Usage = false
is_command_status ReadFault = false
is_command_status WriteFault = false
is_command_status NoMemory = false
is_command_status TooLong = false
is_command_status other = true
