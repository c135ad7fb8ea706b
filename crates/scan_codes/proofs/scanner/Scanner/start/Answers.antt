use Rattle.std.proofs.Common.{[], ◌∙◌, sym, ap, arith}
use Rattle.std.proofs.lemmas.Grind.{same_number_lists}
use Rattle.std.proofs.lemmas.List.FromFn.{get_or-map-range_with_len, length-map-range_with_len}
use Rattle.scan_codes.specs.Scan.{scan_of, start_codes}
use Rattle.scan_codes.specs.Start.{start_code}
use Rattle.scan_codes.proofs.scanner.Scanner.start.Goals as goal

pub invariant_of-result : goal.invariant_of-result
unfolding start_code
invariant_of-result c = record {
  all = c.loop-scan.invariant.0;
  first = c.loop-scan.invariant.1 0 (omega arith);
  after_e0 = c.loop-scan.invariant.1 0x80 (omega arith);
}

pub returns : goal.returns
unfolding start_codes
returns c =
    let (all, each) = c.loop-scan.invariant in
    ap (scan_of []) (same_number_lists _ _ (all ∙ sym (length-map-range_with_len start_code 0 256))
    (λ k h. each k (omega (arith, h, all)) ∙ sym (get_or-map-range_with_len start_code 0 256 k k 0 (omega (arith, h, all)) (omega arith))))
