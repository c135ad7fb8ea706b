use Rattle.std.proofs.Common.{◌≡◌, ℕ, ◌+◌, ◌-◌, List, length, take, drop, get_or, refl, ap, arith, length-drop}
use Rattle.std.proofs.lemmas.List.{take_all}
use Rattle.vt_sgr.proofs.Sequences.{form_more}
use Rattle.vt_sgr.proofs.apply_sgr.apply_all.Goals as goal

pub loop-at-preserved : goal.loop-at-preserved
loop-at-preserved c =
    let params = c.args.params.now in
    let behind : List ℕ = drop (c.loop-at.at + 1) params in
    let rest : List ℕ = take (length params - (c.loop-at.at + 1)) behind in
    let all : rest ≡ behind =
    take_all (length params - (c.loop-at.at + 1)) behind (omega (arith, length-drop (c.loop-at.at + 1) params)) in
    record {
      within = omega (arith, c.taken_by.ensures.within, ap length all, length-drop (c.loop-at.at + 1) params);
      rest =
          form_more params c.loop-at.at c.taken_by.result (get_or params c.loop-at.at 0) rest c.loop-at.p
          c.set_form.new.p _ c.loop-at-test.true refl all c.set_form.ensures
          c.taken_by.ensures.count c.loop-at.invariant.rest;
    }
