use Rattle.std.proofs.Common.{◌++◌, ◌∷◌, [], List, ℕ, ap, ◌∙◌}
use Rattle.std.proofs.lemmas.Bool.{ne_eqb}
use Rattle.vt_redraw.proofs.Pendings.{settled_text}
use Rattle.vt_redraw.proofs.pending.Pending.push_ascii.Goals as goal

pub returns-clause-text : goal.returns-clause-text
returns-clause-text c = λ erases more.
    settled_text erases c.args.self.now
    (record { front = c.push.new.self; blanks = c.settle.new.self.blanks; attr = c.settle.new.self.attr })
    c.args.code more (ne_eqb c.args.code 0x20 c.if-code-eq32.false) c.requires.ascii
    (c.push.ensures ∙ ap (λ (text : List ℕ). text ++ c.args.code ∷ []) c.settle.ensures.front) c.settle.ensures.blanks c.settle.ensures.attr
