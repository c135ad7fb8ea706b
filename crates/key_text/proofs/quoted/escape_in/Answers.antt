use Rattle.std.proofs.Common.{◌∙◌, ap}
use Rattle.key_text.specs.Quoted.{octal_escape}
use Rattle.key_text.proofs.Unescaping.{escape_in_octal}
use Rattle.key_text.proofs.quoted.escape_in.Goals as goal

pub returns-clause-value : goal.returns-clause-value
returns-clause-value c =
    c.octal_escape.ensures.value ∙ ap octal_escape c.start_of.ensures
    ∙ escape_in_octal c.args.text.now _ c.octal_len-digits.ensures.value c.if-digits-eq0.false
