use Rattle.std.proofs.Common.{◌≡◌, ◌≤◌, ◌+◌, ◌-◌, ◌++◌, length, take, drop}
use Rattle.vt_units.specs.Numbers.{numbers_after, params_of}
use Rattle.vt_units.specs.Reading.{after_prefix, longest_prefix}
use Rattle.vt_units.specs.Sequences.{is_parameter}
use Rattle.vt_units.proofs.numbers.read_numbers.Given as goal

abbrev pub invariant-loop-at : goal.invariant-loop-at
invariant-loop-at l = record {
  params : take 16 (l.params ++ numbers_after 0 (longest_prefix is_parameter (drop l.at l.text))) ≡ params_of (longest_prefix is_parameter l.text);
  count : length (longest_prefix is_parameter l.text) ≡ l.at + length (longest_prefix is_parameter (drop l.at l.text));
  rest : after_prefix is_parameter l.text ≡ after_prefix is_parameter (drop l.at l.text);
  within : l.at ≤ length l.text;
}

abbrev pub decreases-loop-at : goal.decreases-loop-at
decreases-loop-at l = length l.text - l.at
