use Rattle.std.proofs.Common.{append_assoc}
use Rattle.key_dump.proofs.dumping.add_keymaps.Goals as goal

pub returns : goal.returns
returns c = rw (c.in_ok-add-2.ensures, c.in_ok-add_numbers.ensures, c.in_ok-add.ensures) (simp append_assoc)
