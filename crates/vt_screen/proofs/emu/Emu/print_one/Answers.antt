use Rattle.vt_screen.proofs.Printed.{short_front_runs}
use Rattle.vt_units.proofs.Stated.{printables_are_characters}
use Rattle.vt_screen.proofs.emu.Emu.print_one.Goals as goal

pub returns : goal.returns
returns c =
    short_front_runs printables_are_characters c.args.b.now c.min.result c.take_printable-count.result c.args.self.now
    c.self.inside.canvas c.print_first.new.self c.self.inside.pending c.take_printable-count.new.self c.mode.result c.self.view_is
    c.mode.ensures c.take_printable-count.ensures.count c.take_printable-count.ensures.bound
    c.take_printable-count.ensures.rest c.print_first.ensures
