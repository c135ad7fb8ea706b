use Rattle.std.proofs.Common.{◌≡◌, refl, ℕ, ◌==◌, ◌+◌, ◌++◌, ◌∷◌, true, false, List, length, take, drop, get_or, ap, sym, ◌∙◌, arith}
use Rattle.std.proofs.lemmas.Bool.Decides.{nat_tests}
use Rattle.std.proofs.lemmas.Bool.{eq-eqb, or_left, or_right}
use Rattle.vt_units.proofs.Fields.{field_ends, field_goes}
use Rattle.vt_units.proofs.Numbered.{longest_prefix_goes}
use Rattle.vt_units.specs.Numbers.{numbers_after}
use Rattle.vt_units.specs.Reading.{longest_prefix}
use Rattle.vt_units.specs.Sequences.{is_parameter}
use Rattle.vt_units.proofs.numbers.read_more_numbers.Goals as goal
use Rattle.vt_units.proofs.numbers.read_more_numbers.Goals.{then-is_digit, else-is_digit+then-b-eq59}

pub loop-i-init : goal.loop-i-init
loop-i-init c = record {
  params = refl;
  count = omega arith;
  small = omega arith;
  rest = refl;
}

pub loop-i-preserved : goal.loop-i-preserved
loop-i-preserved c =
    let i : ℕ = c.loop-i.i in
    let text : List ℕ = c.args.text.now in
    let b : ℕ = get_or text i 0 in
    let left : List ℕ = longest_prefix is_parameter (drop (i + 1) text) in
    let all : List ℕ = take 16 (c.args.params.now ++ numbers_after 0 (longest_prefix is_parameter text)) in
    elim c.if-is_digit.branch [
      | then-is_digit w ↦
          let digit = sym c.is_digit.ensures ∙ w.if-is_digit.true in
          let passes : is_parameter b ≡ true = or_left _ _ digit in
          let one = longest_prefix_goes is_parameter text i c.loop-i-test.true passes in
          let before : take 16 (c.loop-i.params ++ numbers_after c.loop-i.number (b ∷ left)) ≡ all =
          ap (λ (bytes : List ℕ). take 16 (c.loop-i.params ++ numbers_after c.loop-i.number bytes)) (sym one.0)
          ∙ c.loop-i.invariant.params in
          let other : (b == 0x3B) ≡ false = grind (arith, nat_tests, digit) in
          record {
            params = rw (w.params-is, w.number-is, w.number_with_digit-number.ensures)
                (field_goes c.loop-i.params c.loop-i.number b left all other before);
            count = omega (arith, c.loop-i.invariant.count, ap (λ (bytes : List ℕ). length bytes) one.0);
            small = omega (arith, w.number-is, w.number_with_digit-number.ensures);
            rest = c.loop-i.invariant.rest ∙ one.1;
          }
      | else-is_digit+then-b-eq59 w ↦
          let passes : is_parameter b ≡ true = or_right _ _ (eq-eqb _ _ w.if-b-eq59.true) in
          let one = longest_prefix_goes is_parameter text i c.loop-i-test.true passes in
          let before : take 16 (c.loop-i.params ++ numbers_after c.loop-i.number (b ∷ left)) ≡ all =
          ap (λ (bytes : List ℕ). take 16 (c.loop-i.params ++ numbers_after c.loop-i.number bytes)) (sym one.0)
          ∙ c.loop-i.invariant.params in
          record {
            params = rw (w.params-is, w.number-is, w.add.ensures)
                (field_ends c.loop-i.params c.loop-i.number b left all w.if-b-eq59.true before);
            count = omega (arith, c.loop-i.invariant.count, ap (λ (bytes : List ℕ). length bytes) one.0);
            small = omega (arith, w.number-is);
            rest = c.loop-i.invariant.rest ∙ one.1;
          }
    ]
