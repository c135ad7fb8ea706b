use Rattle.std.proofs.Common.{append_assoc}
use Rattle.key_dump.proofs.dumping.add_pair.Goals as goal

pub returns : goal.returns
returns c =
    rw (c.in_ok-add-4.ensures, c.in_ok-add_code_point-3.ensures, c.in_ok-add-3.ensures, c.in_ok-add_code_point-2.ensures)
    (rw (c.in_ok-add-2.ensures, c.in_ok-add_code_point.ensures, c.in_ok-add.ensures) (simp append_assoc))
