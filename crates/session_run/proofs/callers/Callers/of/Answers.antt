use Rattle.std.proofs.Common.{subst, sym}
use Rattle.session_run.proofs.HavePrograms.{hook_at}
use Rattle.session_run.specs.Runs.{HasHooks}
use Rattle.session_run.proofs.callers.Callers.of.Goals as goal

-- the hooks are those of the session's processes
pub invariant_of-result : goal.invariant_of-result
invariant_of-result g c = record {
  hooks =
      hook_at c.programs-programs.ensures.are
      (subst (λ ps. HasHooks ps c.args.hooks.items) (sym c.programs-programs.ensures.same) c.requires);
  numbers = c.in_ok-numbers.ensures;
}
