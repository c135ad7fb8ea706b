use Rattle.std.proofs.Common.{◌≡◌, ℕ, ◌++◌, List, ap, sym, ◌∙◌, add-one, arith, drop, map, set, take}
use Rattle.std.proofs.Math.ListN.{get_or-map}
use Rattle.std.proofs.lemmas.List.{length-map, length-set}
use Rattle.c_calls.proofs.Prefixes.{written_more}
use Rattle.machine_c.specs.Shown.{c_mark}
use Rattle.machine_c.specs.declared.vt_mark.VtMark.{VtMark}
use Rattle.vt_switch.specs.declared.mark.Mark.{Mark}
use Rattle.machine_c.proofs.marks.put_marks.Goals as goal

pub loop-n-preserved : goal.loop-n-preserved
loop-n-preserved c =
    let marks : List Mark = c.args.marks.now in
    let items : List VtMark = map c_mark marks in
    let start : List VtMark = c.args.places.now in
    let n : ℕ = c.loop-n.n in
    let bound : c.min-count.result ≡ _ = c.min-count.ensures in
    record {
      within = omega (arith, c.loop-n-test.true);
      size = length-set c.loop-n.places n c.of.result ∙ c.loop-n.invariant.size;
      places =
          ap (λ (places : List VtMark). set places n c.of.result) c.loop-n.invariant.places
          ∙ written_more items start n c.of.result _
          (omega (arith, c.loop-n-test.true, bound, length-map marks c_mark))
          (omega (arith, c.loop-n-test.true, bound, c.loop-n.invariant.size))
          (c.of.ensures ∙ ap c_mark c.index-marks-n.is ∙ sym (get_or-map c_mark marks n c.index-marks-n.result))
          ∙ ap (λ (k : ℕ). take k items ++ drop k start) (sym (add-one n));
    }
