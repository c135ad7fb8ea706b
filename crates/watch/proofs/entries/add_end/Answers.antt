use Rattle.watch.specs.Entries.{end_object}
use Rattle.watch.proofs.entries.add_end.Goals as goal

pub returns : goal.returns
unfolding end_object
returns c = rw (c.as_slice.ensures, c.in_ok-escaped.ensures) at c.add_pieces.ensures
