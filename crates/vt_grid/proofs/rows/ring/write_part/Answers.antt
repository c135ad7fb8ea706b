use Rattle.std.proofs.Common.{◌+◌, ℕ, List, ap, ◌∙◌, set, sym, get_or, arith}
use Rattle.std.proofs.lemmas.List.Edits.{paste_more}
use Rattle.vt_grid.proofs.Turns.{set-rotation_by, length-rotation_by}
use Rattle.vt_grid.specs.Store.{rotation_by}
use Rattle.vt_grid.proofs.rows.ring.write_part.Goals as goal

pub loop-i-preserved : goal.loop-i-preserved
loop-i-preserved g c =
    let i = c.loop-i.i in
    let y = c.args.top + i in
    let numbers = c.loop-i.numbers in
    let value = get_or c.args.part.now i 0 in
    record {
      numbers =
          sym (set-rotation_by c.args.head y c.place_of-place.result numbers value (omega arith)
          (omega arith) (omega arith) c.place_of-place.ensures.place)
          ∙ ap (λ (xs : List ℕ). set xs y value) c.loop-i.invariant.numbers
          ∙ paste_more (rotation_by c.args.head c.args.numbers.now) c.args.top c.args.part.now i 0
          (omega (arith, length-rotation_by c.args.head c.args.numbers.now)) (omega arith);
      steps = omega arith;
    }
