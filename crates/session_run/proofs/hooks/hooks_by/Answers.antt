use Rattle.std.proofs.Common.{[], ◌∷◌, ◌++◌, sym, ap, ◌∙◌, append-nil}
use Rattle.std.specs.Prelude.{filter_map}
use Rattle.session_run.proofs.HavePrograms.{tables_more}
use Rattle.session_run.specs.Runs.{table_of}
use Rattle.session_text.specs.declared.program.Program.{Program}
use Rattle.session_run.proofs.hooks.hooks_by.Goals.{in-Script+in_ok-push-in-Script, in-Keys}
use Rattle.session_run.proofs.hooks.hooks_by.Goals as goal

pub new-requires : goal.new-requires
new-requires g c = (c.requires c.in-Script.table).1 c.make.result c.make.ensures

pub loop-program-preserved : goal.loop-program-preserved
loop-program-preserved g c =
    let p : Program = c.program-item.result in
    let more =
    tables_more c.args.programs.now c.loop-program.program-index p c.loop-program.hooks.items c.loop-program-test.true
    c.program-item.is c.loop-program.invariant in
    elim c.match-program.branch [
      | in-Script+in_ok-push-in-Script w ↦
          rw (w.hooks-is)
          (w.in_ok-push-in-Script.ensures.items
          ∙ ap (λ t. c.loop-program.hooks.items ++ t ∷ []) w.new.ensures
          ∙ ap (λ (q : Program). c.loop-program.hooks.items ++ filter_map table_of (q ∷ [])) (sym w.in-Script.is)
          ∙ more)
      | in-Keys w ↦
          rw (w.hooks-is)
          (sym (append-nil c.loop-program.hooks.items)
          ∙ ap (λ (q : Program). c.loop-program.hooks.items ++ filter_map table_of (q ∷ [])) (sym w.in-Keys.is)
          ∙ more)
    ]
