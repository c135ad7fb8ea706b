use Rattle.std.proofs.Common.{ap, ◌∙◌}
use Rattle.vt_base.specs.ConsoleSet.{is_among}
use Rattle.std.specs.Int.RustNames.{bit_or}
use Rattle.session_text.proofs.Consoles.{with_console_zero}
use Rattle.session_text.proofs.header_fields.with_console.Goals as goal

pub returns-clause-zero : goal.returns-clause-zero
returns-clause-zero c =
    ap (λ b. is_among (bit_or c.args.set b) 0) c.bit.ensures
    ∙ with_console_zero c.args.set c.args.n c.requires.low
