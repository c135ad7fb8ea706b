use Rattle.std.proofs.Common.{◌<◌, arith, length, sym, ◌∙◌}
use Rattle.std.proofs.lemmas.List.{ext_get_or, get_or-map, length-map}
use Rattle.vt_procs.specs.Callers.{no_caller}
use Rattle.vt_procs.specs.Tickets.{all_ended_by, ended_by, with_waiting}
use Rattle.vt_procs.specs.declared.process.Process.{Process}
use Rattle.vt_procs.proofs.waits.end_tickets.Goals as goal

pub returns : goal.returns
returns c =
    let end : Process → Process = λ process. with_waiting process (ended_by c.args.ending.now process.waiting) in
    let old = c.args.callers.now in
    ext_get_or no_caller c.loop-p.callers (all_ended_by c.args.ending.now old)
    (c.loop-p.invariant.places ∙ sym (length-map old end))
    (λ k within.
    let inside : k < length old = omega (arith, within, c.loop-p.invariant.places) in
    c.loop-p.invariant.ended k
    (omega (arith, within, c.loop-p.invariant.places, c.told-callers, c.loop-p-test.false))
    ∙ sym (get_or-map end old k no_caller no_caller inside))
