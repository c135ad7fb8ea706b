use Rattle.std.proofs.Common.{◌≡◌, length}
use Rattle.vt_journal.proofs.Saying.{AreSoFar}
use Rattle.vt_journal.proofs.parsing.read_lines.Given as goal

abbrev pub invariant-loop-read : goal.invariant-loop-read
invariant-loop-read l = record {
  so_far : AreSoFar l.version l.text l.entries.items l.rest;
  many : length l.entries.items ≡ l.read;
}
