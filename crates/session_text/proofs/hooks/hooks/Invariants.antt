use Rattle.std.proofs.Common.{◌+◌, Result, drop, map}
use Rattle.table_fields.specs.declared.fault.TableFault.{TableFault}
use Rattle.session_text.specs.HookTexts.{hooks_say, no_hooks}
use Rattle.session_text.specs.declared.hooked.Hooked.{Hooked}
use Rattle.session_text.proofs.hooks.hooks.Given as goal

abbrev pub invariant-loop-i : goal.invariant-loop-i
invariant-loop-i l =
    (said : Result Hooked TableFault)
    → hooks_say l.part (l.i + 1) l.hooked (map (λ text. text.now) (drop l.i l.texts)) said
    → hooks_say l.part 1 no_hooks (map (λ text. text.now) l.texts) said
