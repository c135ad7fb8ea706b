use Rattle.std.proofs.Common.{sym, ap, ◌∙◌}
use Rattle.key_machine.specs.Keys.{start_modes}
use Rattle.key_machine.specs.Step.{key_step}
use Rattle.scan_codes.specs.Scan.{bytes_after, event_after}
use Rattle.vt_tool.specs.Commands.Typed.{TypistView}
use Rattle.vt_tool.proofs.Typed.{typing_step_none, typing_step_some}
use Rattle.vt_tool.proofs.commands.typing.typist.Typist.take.Goals as goal

pub returns-in-Some-clause-typed : goal.returns-in-Some-clause-typed
returns-in-Some-clause-typed c =
    λ mode before has.
    let b = c.args.b in
    typing_step_some c.args.tables.now mode before b c.args.self.now _ c.in-Some.e has
    (ap (λ (t : TypistView). event_after t.scanner.codes t.scanner.bytes b) (sym c.self.view_is)
    ∙ sym c.push.ensures.event
    ∙ c.in-Some.is)
    (c.push.ensures.rest
    ∙ ap (λ (t : TypistView). record t.scanner { bytes = bytes_after t.scanner.bytes b })
    c.self.view_is)
    (c.key.ensures.keys
    ∙ ap (λ (t : TypistView). (key_step c.args.tables.now start_modes 0 c.in-Some.e t.keys t.state).keys)
    c.self.view_is)
    (c.key.ensures.state
    ∙ ap (λ (t : TypistView). (key_step c.args.tables.now start_modes 0 c.in-Some.e t.keys t.state).state)
    c.self.view_is)

pub returns-in-None-clause-typed : goal.returns-in-None-clause-typed
returns-in-None-clause-typed c =
    λ mode before has.
    let b = c.args.b in
    typing_step_none c.args.tables.now mode before b c.args.self.now _ has
    (ap (λ (t : TypistView). event_after t.scanner.codes t.scanner.bytes b) (sym c.self.view_is)
    ∙ sym c.push.ensures.event
    ∙ c.in-None.is)
    (c.push.ensures.rest
    ∙ ap (λ (t : TypistView). record t.scanner { bytes = bytes_after t.scanner.bytes b })
    c.self.view_is)
    (ap (λ (t : TypistView). t.keys) c.self.view_is)
    (ap (λ (t : TypistView). t.state) c.self.view_is)
