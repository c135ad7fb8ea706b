use Rattle.std.proofs.Common.{List, ℕ, Bor, Ok, Err, map, subst}
use Rattle.toml.specs.View.{table_view}
use Rattle.session_text.specs.HookTexts.{hooks_say, no_hooks}
use Rattle.session_text.specs.ItemTexts.{item_says}
use Rattle.session_text.specs.Says.{each_says}
use Rattle.session_text.specs.Scripts.{process_says}
use Rattle.session_text.proofs.Hooking.{process_fault}
use Rattle.session_text.proofs.Saying.{reads_err}
use Rattle.session_text.proofs.process_fields.process.Goals as goal

pub returns-clause-says : goal.returns-clause-says
returns-clause-says c =
    let now : List (Bor (List ℕ)) → List (List ℕ) = map (λ (text : Bor (List ℕ)). text.now) in
    let head = c.in_ok-head.head in
    reads_err c.in-Err.e _ (process_says c.args.part (table_view c.args.table.now))
    (λ f said.
    process_fault c.args.part (table_view c.args.table.now)
    (record { start = head.start; script = now head.script.items }) c.in_ok-items.items.events _
    (now c.in_ok-texts.texts.items) f c.in_ok-head.ensures.head
    (subst (λ texts. each_says (item_says c.args.part) 1 (now texts) (Ok c.in_ok-items.items.events))
    c.as_slice.ensures.value c.in_ok-items.ensures.says)
    c.at.ensures c.in_ok-texts.ensures
    (subst (λ texts. hooks_say c.args.part 1 no_hooks (now texts) (Err f)) c.as_slice-2.ensures.value said))
    c.in-Err.ensures
