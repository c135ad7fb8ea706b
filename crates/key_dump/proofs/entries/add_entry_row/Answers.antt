use Rattle.std.proofs.Common.{◌∙◌, append_assoc}
use Rattle.key_dump.proofs.Rows.{entry_text}
use Rattle.key_dump.proofs.entries.add_entry_row.Goals as goal

pub returns : goal.returns
returns c =
    rw (← entry_text c.args.t c.args.c c.args.action c.as_bytes.result.now (c.as_bytes.ensures.value ∙ c.deref.ensures.0 ∙ c.name_of.ensures))
    (rw (c.in_ok-add-4.ensures, c.in_ok-add-3.ensures, c.in_ok-add-2.ensures)
    (rw (c.in_ok-add_decimal.ensures, c.from.ensures, c.in_ok-add.ensures, c.in_ok-add_modifiers.ensures) (simp append_assoc)))
