use Rattle.std.proofs.Common.{◌≡◌, ◌≤◌, ◌-◌, length, take, drop}
use Rattle.vt_units.specs.Characters.{AreTextsOf}
use Rattle.vt_units.proofs.characters.read_characters.Given as goal

abbrev pub invariant-loop-code : goal.invariant-loop-code
invariant-loop-code l = record {
  within : length l.rest ≤ length l.b;
  left : l.rest ≡ drop (length l.b - length l.rest) l.b;
  texts : AreTextsOf (take (length l.b - length l.rest) l.b) l.codes;
  fits : length l.codes ≤ l.most;
}

abbrev pub decreases-loop-code : goal.decreases-loop-code
decreases-loop-code l = l.most - length l.codes
