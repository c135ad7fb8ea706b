use Rattle.std.proofs.Common.{sym, ◌∙◌, true≢false}
use Rattle.table_fields.proofs.Parsing.{document_none, document_some}
use Rattle.table_fields.proofs.documents.document.Goals as goal

pub returns-in-Ok : goal.returns-in-Ok
returns-in-Ok c =
    let read = c.in-Ok.ensures.ok in document_some c.args.text.now _ read.0 read.1

pub returns-else-is_memory : goal.returns-else-is_memory
returns-else-is_memory c =
    let h =
    document_none c.args.text.now
    (c.in-Err.ensures.refused
    (λ memory. true≢false (sym (c.is_memory.ensures.1 memory) ∙ c.if-is_memory.false))) in
    rw c.refused.ensures h
