use Rattle.std.proofs.lemmas.Bool.{ne_eqb}
use Rattle.vt_redraw.proofs.Pendings.{pushed_text}
use Rattle.vt_redraw.proofs.pending.Pending.push.Goals as goal

pub returns-else-code-eq32-clause-text : goal.returns-else-code-eq32-clause-text
returns-else-code-eq32-clause-text c = λ erases more.
    pushed_text erases c.args.self.now c.push_glyph.new.self c.args.code more (ne_eqb c.args.code 0x20 c.if-code-eq32.false) c.requires.settled
    c.push_glyph.ensures.front c.push_glyph.ensures.blanks c.push_glyph.ensures.attr
