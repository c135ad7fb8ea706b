use Rattle.std.proofs.Common.{◌∙◌, ap, append_assoc}
use Rattle.key_syms.specs.Act.{act}
use Rattle.key_syms.specs.Kinds.{FUNCTION}
use Rattle.key_syms.specs.Names.{name_text}
use Rattle.key_dump.proofs.Rows.{string_text}
use Rattle.key_dump.proofs.quoting.add_string_row.Goals as goal

pub returns : goal.returns
returns c =
    rw (← string_text c.args.i c.args.string.now c.as_bytes.result.now (c.as_bytes.ensures.value ∙ c.deref.ensures.0 ∙ c.name_of.ensures ∙ ap (λ v. name_text (act FUNCTION v)) c.from.ensures))
    (rw (c.in_ok-add-4.ensures, c.in_ok-add_escaped.ensures, c.in_ok-add-3.ensures)
    (rw (c.in_ok-add-2.ensures, c.in_ok-add.ensures) (simp append_assoc)))
