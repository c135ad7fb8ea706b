use Rattle.std.proofs.Common.{ℕ, ◌++◌, List, [], ◌∷◌, map, take, sym, ap, ◌∙◌}
use Rattle.std.proofs.lemmas.List.{map_more}
use Rattle.std.proofs.lemmas.List.Elements.{All-more}
use Rattle.machine_c.specs.Started.{IsSeat, rights_of}
use Rattle.machine_c.specs.declared.vt_seat.VtSeat.{VtSeat}
use Rattle.vt_procs.specs.declared.proc_start.ProcStart.{ProcStart}
use Rattle.machine_c.proofs.starting.procs_of.Goals as goal

pub loop-i-preserved : goal.loop-i-preserved
loop-i-preserved c =
    let seats : List VtSeat = c.args.seats.now in
    let i : ℕ = c.loop-i.i in
    let none : VtSeat = record { home = 0; privileged = 0; spare = [] } in
    let right = c.in-Some.ensures.some in
    record {
      procs =
          c.push.ensures
          ∙ ap (λ (ps : List ProcStart). ps ++ c.in-Some.rights ∷ []) c.loop-i.invariant.procs
          ∙ ap (λ (r : ProcStart). map rights_of (take i seats) ++ r ∷ []) right.1
          ∙ sym (map_more rights_of seats i none c.loop-i-test.true);
      each = All-more IsSeat seats i none c.loop-i-test.true c.loop-i.invariant.each right.0;
    }
