use Rattle.std.proofs.Common.{◌≢◌, take}
use Rattle.std.specs.List.{All}
use Rattle.vt_events.proofs.kind.Kind.looked_up.Given as goal

abbrev pub invariant-loop-form : goal.invariant-loop-form
invariant-loop-form l = All (λ form. form.name.now ≢ l.name) (take l.form-index l.form-items)
