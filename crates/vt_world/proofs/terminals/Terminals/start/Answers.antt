use Rattle.std.proofs.Common.{◌∙◌, ap}
use Rattle.std.specs.Prelude.{if◌then◌else◌, Some, None}
use Rattle.vt_world.specs.Terminals.{TerminalState, new_terminal}
use Rattle.vt_world.proofs.Places.{places_more}
use Rattle.vt_world.proofs.terminals.Terminals.start.Goals as goal

pub loop-n-preserved : goal.loop-n-preserved
loop-n-preserved c =
    let t : TerminalState = new_terminal c.args.size.rows c.args.size.cols in
    places_more c.args.consoles c.loop-n.n t c.loop-n.places.items c.push.new.self.items
    c.in_ok-first_terminal.field-0 c.loop-n.invariant c.in_ok-push.ensures.items
    (c.in_ok-first_terminal.ensures ∙ ap (λ b. if b then Some t else None) c.is_among.ensures)
