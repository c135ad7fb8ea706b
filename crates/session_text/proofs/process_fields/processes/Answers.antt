use Rattle.std.proofs.Common.{◌+◌, ◌∷◌, [], length, Bor, BTreeMap, String, Global, Ok, Err, subst, sym, ap, ◌∙◌, arith}
use Rattle.std.proofs.lemmas.List.{length-append}
use Rattle.std.proofs.lemmas.List.Elements.{All-append, All-cons, All-nil}
use Rattle.std.specs.List.{All}
use Rattle.toml.specs.View.{table_view}
use Rattle.toml.specs.declared.value.Value.{Value}
use Rattle.session_text.specs.Scripts.{IsScript, process_says}
use Rattle.session_text.specs.declared.process.Process.{Process}
use Rattle.session_text.proofs.Saying.{SoFar, reads_err, so_far_end, so_far_fault, so_far_more}
use Rattle.session_text.proofs.process_fields.processes.Goals as goal

abbrev Entries : Type 0
Entries = Bor (BTreeMap (String Global) Value)

pub returns-in-Err-clause-says : goal.returns-in-Err-clause-says
returns-in-Err-clause-says c =
    let (many, all, so_far) = c.loop-i.invariant in
    let table : Entries = c.index-tables-i.result in
    reads_err c.in-Err.e _ _
    (λ f said.
    so_far_fault process_says (λ (t : Entries). table_view t.now) c.args.tables.now table c.loop-i.i
    c.loop-i.found.items f c.loop-i-test.true so_far
    (subst (λ (t : Entries). process_says (c.loop-i.i + 1) (table_view t.now) (Err f)) c.index-tables-i.is
    said))
    c.in-Err.ensures.says

pub loop-i-preserved : goal.loop-i-preserved
loop-i-preserved c =
    let (many, all, so_far) = c.loop-i.invariant in
    let table : Entries = c.index-tables-i.result in
    let process : Process = c.in-Ok.process in
    let pushed = c.in_ok-push-in-Ok.ensures.items in (
      ap length pushed ∙ length-append c.loop-i.found.items (process ∷ []) ∙ ap (λ n. n + 1) many,
      subst (All (λ (p : Process). IsScript p.items)) (sym pushed)
          (All-append (λ (p : Process). IsScript p.items) c.loop-i.found.items (process ∷ []) all
          (All-cons (λ (p : Process). IsScript p.items) process [] c.in-Ok.ensures.script
          (All-nil (λ (p : Process). IsScript p.items)))),
      subst (SoFar process_says (λ (t : Entries). table_view t.now) c.args.tables.now (c.loop-i.i + 1))
          (sym pushed)
          (so_far_more process_says (λ (t : Entries). table_view t.now) c.args.tables.now table c.loop-i.i
          c.loop-i.found.items process c.loop-i-test.true
          (subst (λ (t : Entries). process_says (c.loop-i.i + 1) (table_view t.now) (Ok process))
          c.index-tables-i.is c.in-Ok.ensures.says)
          so_far),
    )

pub returns-clause-says : goal.returns-clause-says
returns-clause-says c =
    let (many, all, so_far) = c.loop-i.invariant in
    so_far_end process_says (λ (t : Entries). table_view t.now) c.args.tables.now c.loop-i.i
    c.loop-i.found.items (omega arith) so_far
