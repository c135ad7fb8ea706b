use Rattle.std.proofs.Common.{not, ap, ◌∙◌}
use Rattle.std.specs.List.{list_any}
use Rattle.vt_procs.specs.Callers.{is_live}
use Rattle.vt_explore.proofs.conditions.is_ended.Goals as goal

pub returns : goal.returns
returns c =
    ap not
    (c.any_lives.ensures ∙ ap (list_any (is_live c.args.after.now.callers)) c.all-callers.ensures)
