use Rattle.std.proofs.Common.{◌≤◌, refl, subst}
use Rattle.std.proofs.lemmas.Option.{none-some}
use Rattle.session_order.specs.Sessions.{setup_of}
use Rattle.vt_journal.specs.declared.limits.Limits.{Limits}
use Rattle.vt_check.proofs.judge.Judge.open.Goals as goal

pub returns : goal.returns
returns c = record {
  limits = c.limits-limits.ensures.same;
  few = subst (λ (most : Limits). most.events ≤ 1_000_000) c.limits-limits.ensures.same c.limits-limits.ensures.events;
  programs = c.programs-programs.ensures.same;
  callers = c.session_laws.ensures.programs;
  replayed = c.in_ok-world.ensures;
  standing = c.in_ok-standing.ensures (setup_of c.args.s.now).programs;
  events = refl;
  bytes = refl;
  passed = λ k entry is. absurd (none-some entry is);
}
