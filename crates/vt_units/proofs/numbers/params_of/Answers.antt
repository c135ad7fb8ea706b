use Rattle.std.proofs.Common.{ℕ, List, drop, get_or, ◌+◌, arith}
use Rattle.std.proofs.lemmas.Bool.{ne_eqb}
use Rattle.vt_units.proofs.Fields.{numbers_after_all, field_ends, field_goes, front_number}
use Rattle.vt_units.specs.Numbers.{params_of}
use Rattle.vt_units.proofs.numbers.params_of.Goals as goal
use Rattle.vt_units.proofs.numbers.params_of.Goals.{then-b-eq59, else-b-eq59}

pub loop-b-init : goal.loop-b-init
loop-b-init c = record {
  params = rw c.new-params.ensures (numbers_after_all c.args.body.now);
  small = omega arith;
}

pub loop-b-preserved : goal.loop-b-preserved
loop-b-preserved c =
    let i : ℕ = c.loop-b.b-index in
    let body : List ℕ = c.args.body.now in
    let before = front_number c.loop-b.params body (params_of body) c.loop-b.number i c.loop-b-test.true c.loop-b.invariant.params in
    elim c.if-b-eq59.branch [
      | then-b-eq59 w ↦ record {
        params = rw (w.params-is, w.number-is, w.add.ensures)
            (field_ends c.loop-b.params c.loop-b.number (get_or body i 0) (drop (i + 1) body) (params_of body) w.if-b-eq59.true before);
        small = omega (arith, w.number-is);
      }
      | else-b-eq59 w ↦ record {
        params = rw (w.params-is, w.number-is, w.number_with_digit-number.ensures)
            (field_goes c.loop-b.params c.loop-b.number (get_or body i 0) (drop (i + 1) body) (params_of body) (ne_eqb _ _ w.if-b-eq59.false) before);
        small = omega (arith, w.number-is, w.number_with_digit-number.ensures);
      }
    ]
