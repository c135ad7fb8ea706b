use Rattle.std.proofs.Common.{◌≡◌, ℕ, List, None, [], ◌∷◌, get_or, sym, ap, subst, ◌∙◌, arith}
use Rattle.vt_screen.proofs.Feeds.{none_run, take_one}
use Rattle.vt_screen.proofs.Quiet.{quiet_one}
use Rattle.vt_screen.specs.Run.{HasRun, run_from}
use Rattle.vt_canvas.specs.Screen.{Screen}
use Rattle.vt_units.specs.Run.{Reached}
use Rattle.vt_screen.proofs.emu.Emu.take_prefix.Goals as goal

pub returns-then-count-gt0-clause-ran : goal.returns-then-count-gt0-clause-ran
returns-then-count-gt0-clause-ran c =
    let none : c.print_prefix-printed.result ≡ 0 = omega (arith, c.if-printed-gt0.false) in
    subst (λ (old : Reached Screen). HasRun old c.args.b.now c.take_run-count.result c.take_run-count.new.self c.take_run-count.new.said)
    (sym (none_run c.args.self.now c.args.b.now _ _ None none c.print_prefix-printed.ensures)) c.take_run-count.ensures

pub returns-clause-ran : goal.returns-clause-ran
returns-clause-ran c =
    let text : List ℕ = c.args.b.now in
    let none : c.print_prefix-printed.result ≡ 0 = omega (arith, c.if-printed-gt0.false) in
    let nothing : c.take_run-count.result ≡ 0 = omega (arith, c.if-count-gt0.false) in
    let same : c.args.self.now ≡ c.take_run-count.new.self =
    none_run c.args.self.now text _ _ None none c.print_prefix-printed.ensures
    ∙ none_run c.print_prefix-printed.new.self text _ _ c.take_run-count.new.said nothing c.take_run-count.ensures in (
      omega arith,
      ap (run_from c.args.self.now) (take_one text c.requires)
          ∙ ap (λ (m : Reached Screen). run_from m (get_or text 0 0 ∷ [])) same
          ∙ c.take_quickly.ensures,
      quiet_one c.args.self.now text,
    )
