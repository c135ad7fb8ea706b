use Rattle.std.proofs.Common.{◌≡◌, Some, None, arith, length}
use Rattle.std.proofs.lemmas.List.FromFn.{fill_by_all}
use Rattle.std.specs.Prelude.{if◌then◌else◌}
use Rattle.vt_switch.specs.Display.{fresh}
use Rattle.vt_base.specs.ConsoleSet.{is_among}
use Rattle.vt_switch.proofs.state.fill.Goals as goal

pub returns : goal.returns
returns c =
    let len : length c.loop-n.consoles ≡ 64 = omega (arith, c.requires, c.loop-n.auto.consoles) in
    fill_by_all (λ n. if is_among c.args.allocated n then Some fresh else None) c.loop-n.consoles 64
    None len (λ k within. c.loop-n.invariant k (omega arith))
