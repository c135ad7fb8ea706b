-- A session text has one meaning.
use Rattle.std.proofs.Common.{ℕ, codes}
use Rattle.table_fields.specs.Arrays.{array_of}
use Rattle.table_fields.specs.Fields.{document_of}
use Rattle.toml.specs.Data.{Members, as_str, get_member}
use Rattle.session_text.specs.HookTexts.{hooks_say, no_hooks}
use Rattle.session_text.specs.ItemTexts.{item_says}
use Rattle.session_text.specs.Processes.{head_of}
use Rattle.session_text.specs.Says.{each_says, is}
use Rattle.session_text.specs.Scripts.{process_says}
use Rattle.session_text.specs.Sessions.{OneSession, session_at}
use Rattle.session_text.specs.Tops.{top_of}
use Rattle.vt_journal.specs.Words.{CallsAreCut, OneCall}
use Rattle.session_text.proofs.for_laws.OneHook.{hooks_one}
use Rattle.session_text.proofs.for_laws.OneItem.{item_one}
use Rattle.session_text.proofs.for_laws.OneResult.{IsOne, bind_one, each_one, is_one}

process_one : OneCall → CallsAreCut → (p : ℕ) (members : Members) → IsOne (process_says p members)
process_one one cut p members =
    bind_one (is (head_of p members)) _ (is_one (head_of p members))
    (λ head.
    bind_one (each_says (item_says p) 1 head.script) _ (each_one (item_says p) (item_one one cut p) 1 head.script)
    (λ items.
    bind_one (is (array_of as_str p 4 (get_member (codes "hooks") members))) _ (is_one _)
    (λ texts.
    bind_one (hooks_say p 1 no_hooks texts) _ (hooks_one p 1 no_hooks texts) (λ hooked. is_one _))))

at_one : OneCall → CallsAreCut → (members : Members) → IsOne (session_at members)
at_one one cut members =
    bind_one (is (top_of members)) _ (is_one (top_of members))
    (λ top.
    bind_one (each_says process_says 1 top.tables) _ (each_one process_says (process_one one cut) 1 top.tables)
    (λ processes. is_one _))

pub one_session : OneCall → CallsAreCut → OneSession
one_session one cut text =
    bind_one (is (document_of text)) session_at (is_one (document_of text)) (at_one one cut)
