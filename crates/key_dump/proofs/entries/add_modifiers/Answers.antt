use Rattle.std.proofs.Common.{append_assoc}
use Rattle.std.proofs.lemmas.Bool.{ne_eqb}
use Rattle.key_dump.proofs.Rows.{weighed_words}
use Rattle.key_dump.proofs.entries.add_modifiers.Goals as goal

pub returns : goal.returns
returns c =
    rw (← weighed_words c.args.t (ne_eqb c.args.t 0 c.if-t-eq0.false))
    (rw (c.in_ok-add_modifier-8.ensures, c.in_ok-add_modifier-7.ensures, c.in_ok-add_modifier-6.ensures, c.in_ok-add_modifier-5.ensures)
    (rw (c.in_ok-add_modifier-4.ensures, c.in_ok-add_modifier-3.ensures, c.in_ok-add_modifier-2.ensures, c.in_ok-add_modifier.ensures) (simp append_assoc)))
