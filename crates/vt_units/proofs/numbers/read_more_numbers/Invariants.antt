use Rattle.std.proofs.Common.{◌≡◌, ◌≤◌, ◌+◌, ◌++◌, length, take, drop}
use Rattle.vt_units.specs.Numbers.{numbers_after}
use Rattle.vt_units.specs.Reading.{after_prefix, longest_prefix}
use Rattle.vt_units.specs.Sequences.{is_parameter}
use Rattle.vt_units.proofs.numbers.read_more_numbers.Given as goal

abbrev pub invariant-loop-i : goal.invariant-loop-i
invariant-loop-i l = record {
  params : take 16 (l.params ++ numbers_after l.number (longest_prefix is_parameter (drop l.i l.text)))
      ≡ take 16 (l.initial.params ++ numbers_after 0 (longest_prefix is_parameter l.text));
  count : length (longest_prefix is_parameter l.text) ≡ l.i + length (longest_prefix is_parameter (drop l.i l.text));
  small : l.number ≤ 65535;
  rest : after_prefix is_parameter l.text ≡ after_prefix is_parameter (drop l.i l.text);
}
