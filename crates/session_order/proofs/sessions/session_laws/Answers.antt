use Rattle.std.proofs.Common.{◌≡◌, ◌≤◌, length, refl, ap, ◌∙◌, subst, arith}
use Rattle.session_order.proofs.Starts.{from_start, is_start, of_callers}
use Rattle.session_order.specs.Sessions.{start_of}
use Rattle.session_text.proofs.Stated.{callers_have_programs}
use Rattle.session_text.specs.Sessions.{ArePrograms, SessionView}
use Rattle.vt_base.specs.ConsoleSet.{IsFitSet}
use Rattle.vt_procs.specs.declared.config.Config.{Config}
use Rattle.vt_world.proofs.Stated.{displays_are_lawful-lawful, displays_are_lawful-waiting, screens_are_tapes-screens}
use Rattle.vt_world.specs.Laws.{IsStart}
use Rattle.session_order.proofs.sessions.session_laws.Goals as goal

abbrev start : (c : goal.After-programs-programs) → IsStart (start_of c.args.s.now)
start c =
    is_start c.args.s.now
    (subst (λ (config : Config). IsFitSet config.consoles config.front) c.config-config.ensures.same
    c.config-config.ensures.fit)

are : (c : goal.After-programs-programs)
    → ArePrograms (length c.args.s.now.config.procs) c.args.s.now.config.keyboards c.args.s.now.programs
are c =
    subst (ArePrograms (length c.args.s.now.config.procs) c.args.s.now.config.keyboards)
    c.programs-programs.ensures.same c.programs-programs.ensures.are

pub returns-clause-start : goal.returns-clause-start
returns-clause-start c = start c

pub returns-clause-setup : goal.returns-clause-setup
returns-clause-setup c = from_start c.args.s.now (are c)

pub returns-clause-programs : goal.returns-clause-programs
returns-clause-programs c =
    let s : SessionView = c.args.s.now in
    let starts : length c.as_slice-starts.result.now ≡ length s.config.procs =
    ap length c.as_slice-starts.ensures.list
    ∙ ap (λ (config : Config). length config.procs) c.config-config.ensures.same in
    let few : length s.config.procs ≤ 64 = omega (arith, starts, c.as_slice-starts.ensures.bound) in
    let four : s.config.keyboards ≤ 4 =
    subst (λ (config : Config). config.keyboards ≤ 4) c.config-config.ensures.same
    c.config-config.ensures.keyboards.four in
    of_callers callers_have_programs (length s.config.procs) s.config.keyboards s.programs few four
    (are c)

pub returns-clause-right : goal.returns-clause-right
returns-clause-right c = λ history end legal follows ends. record {
  world = refl;
  legal = legal;
  follows = follows;
  ends = ends;
  lawful = displays_are_lawful-lawful (start_of c.args.s.now) history (start c);
  explained = displays_are_lawful-waiting (start_of c.args.s.now) history (start c);
  screens = λ n within.
      screens_are_tapes-screens (start_of c.args.s.now) history (start c) n within;
}
