use Rattle.std.proofs.Common.{◌+◌, List, [], ◌∷◌, ◌++◌, length, ap, ◌∙◌}
use Rattle.std.proofs.lemmas.List.{length_push}
use Rattle.std.proofs.lemmas.List.Elements.{All-push, All-same}
use Rattle.session_text.specs.Walks.{Place, Stands}
use Rattle.session_text.specs.declared.program.Program.{Program}
use Rattle.session_order.proofs.session_progress.first_walks.Goals as goal

-- nothing was called
abbrev Begins : Place → Type 0
Begins walk = (p : Program) → Stands p walk []

pub loop-caller-preserved : goal.loop-caller-preserved
loop-caller-preserved c =
    let old : List Place = c.loop-caller.walks.items in
    record {
      many = ap length c.in_ok-push.ensures.items ∙ length_push old c.start.result ∙ ap (λ n. n + 1) c.loop-caller.invariant.many;
      stand =
          All-same Begins c.push.new.self.items (old ++ c.start.result ∷ []) c.in_ok-push.ensures.items
          (All-push Begins old c.start.result c.loop-caller.invariant.stand c.start.ensures);
    }
