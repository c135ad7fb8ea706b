use Rattle.vt_cells.specs.Width.{columns}
use Rattle.vt_chars.proofs.Stated.{unfinished_begins}
use Rattle.vt_screen.proofs.Printed.{print_mode}
use Rattle.vt_screen.specs.Run.{screen_effects, with_outs}
use Rattle.std.proofs.Common.{[]}
use Rattle.vt_units.proofs.for_laws.Cutting.{text_cut}
use Rattle.vt_screen.proofs.laws.texts_are_cut.Goals as goal

pub returns : goal.returns
returns c = λ m bytes rest.
    text_cut screen_effects unfinished_begins (λ t. print_mode (columns 0xFFFD) 0xFFFD t.screen) (with_outs [] m) bytes rest
