-- The text of a stop. This project's own.
use Rattle.std.specs.Prelude.{ℕ, List, ◌++◌, codes, decimal}
use Rattle.vt_base.specs.Errno.{number_of}
use Rattle.cooked.specs.declared.stop.Stop.{Stop}
use Rattle.cooked.specs.declared.stop.Stop.TheVariants as stop

abbrev pub stop_text : Stop → List ℕ
stop_text (stop.Err errno) = codes "error " ++ decimal (number_of errno)
stop_text (stop.Full full) =
    codes "journal full " ++ decimal full.events
    ++ codes " " ++ decimal full.bytes
    ++ codes " " ++ decimal full.charge
