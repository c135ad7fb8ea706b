use Rattle.std.proofs.Common.{arith, map, None, sym, ◌∙◌}
use Rattle.std.proofs.Math.ListN.{get_or-map}
use Rattle.std.proofs.lemmas.List.{ext_get_or, length-map}
use Rattle.std.specs.Prelude.{option_map}
use Rattle.vt_switch.specs.Deaths.{left_by}
use Rattle.vt_switch.proofs.deaths.give_back.Goals as goal

pub returns : goal.returns
returns c =
    let given = option_map (left_by c.args.p) in
    let old = c.args.consoles.now in
    ext_get_or None c.loop-n.consoles (map given old)
    (c.loop-n.invariant.places ∙ sym (length-map old given))
    (λ k within.
    c.loop-n.invariant.given k
    (omega (arith, within, c.loop-n.invariant.places, c.told-consoles, c.loop-n-test.false))
    ∙ sym (get_or-map given old k None))
