-- A text as the TOML document that it spells; one that isn't UTF-8 spells none.
use Rattle.std.proofs.Common.{◌≡◌, ℕ, Bool, true, false, cond, List, Some, None, Ok, Err, refl, ap, ◌∙◌}
use Rattle.std.specs.Str.{IsUtf8, is_utf8}
use Rattle.std.proofs.lemmas.Str.{IsUtf8-from_is_utf8, is_utf8-from_IsUtf8}
use Rattle.toml.specs.Data.{Members}
use Rattle.toml.specs.Parse.{parse_document}
use Rattle.table_fields.specs.FaultCodes.{NO_DOCUMENT}
use Rattle.table_fields.specs.Checked.{fault}
use Rattle.table_fields.specs.Fields.{document_in, document_of}

pub document_some : (text : List ℕ) (table : Members) → IsUtf8 text
    → parse_document text ≡ Some table → document_of text ≡ Ok table
document_some text table utf8 parsed =
    ap (λ (b : Bool). cond b (document_in (parse_document text)) (Err (fault NO_DOCUMENT 0 0)))
    (is_utf8-from_IsUtf8 text utf8)
    ∙ ap document_in parsed

pub document_none : (text : List ℕ) → (IsUtf8 text → parse_document text ≡ None)
    → document_of text ≡ Err (fault NO_DOCUMENT 0 0)
document_none text none = by_test (is_utf8 text) refl
  where
    by_test : (b : Bool) → is_utf8 text ≡ b
        → cond b (document_in (parse_document text)) (Err (fault NO_DOCUMENT 0 0)) ≡ Err (fault NO_DOCUMENT 0 0)
    by_test true is = ap document_in (none (IsUtf8-from_is_utf8 text is))
    by_test false is = refl
