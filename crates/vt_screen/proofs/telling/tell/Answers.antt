use Rattle.std.proofs.Common.{Option, refl, subst, sym, ◌∙◌}
use Rattle.vt_screen.specs.Hearing.{HearsAll}
use Rattle.vt_screen.specs.Run.{outs_of_option}
use Rattle.vt_canvas.specs.declared.out.Out.{Out}
use Rattle.vt_screen.proofs.telling.tell.Goals as goal

pub returns-in-Some : goal.returns-in-Some
returns-in-Some g c =
    subst (λ (said : Option Out). HearsAll g.L.Listener.hears c.args.listener.now (outs_of_option said) c.hear.new.self)
    (sym c.in-Some.is ∙ c.into_option.ensures) (c.hear.new.self, c.hear.ensures, refl)
