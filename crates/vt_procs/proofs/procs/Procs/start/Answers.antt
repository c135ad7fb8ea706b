use Rattle.std.proofs.Common.{◌≡◌, None, arith, map}
use Rattle.std.proofs.lemmas.List.FromFn.{fill_by_all}
use Rattle.std.specs.List.{range_with_len}
use Rattle.vt_procs.specs.Callers.{no_caller, caller_at_start}
use Rattle.vt_procs.proofs.procs.Procs.start.Goals as goal

pub returns : goal.returns
returns c =
    let list : c.loop-p.callers ≡ map (caller_at_start c.args.keyboards c.args.list.now) (range_with_len 0 68) =
    fill_by_all (caller_at_start c.args.keyboards c.args.list.now) c.loop-p.callers 68 no_caller c.loop-p.invariant.places
    (λ k within. c.loop-p.invariant.filled k (omega arith)) in
    λ i. record { list = list i; accepter = None }
