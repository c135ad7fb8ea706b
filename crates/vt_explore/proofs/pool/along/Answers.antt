use Rattle.std.proofs.Common.{◌≡◌, List, Some, length, refl, subst}
use Rattle.std.proofs.lemmas.Option.{slice_get_read}
use Rattle.std.specs.Prelude.{slice_get}
use Rattle.vt_explore.specs.Held.{HeldState}
use Rattle.vt_explore.proofs.pool.along.Goals as goal

pub returns-then-begins_with-clause-at : goal.returns-then-begins_with-clause-at
returns-then-begins_with-clause-at c = λ o are.
    let all : List HeldState = c.deref.result.now in
    are c.args.slot c.in-Some.held.now
    (subst (λ list. slice_get list c.args.slot ≡ Some c.in-Some.held.now) c.deref.ensures.value
    (slice_get_read all (length all) c.args.slot c.in-Some.held.now refl c.in-Some.ensures.lookup.3.0
    c.in-Some.ensures.lookup.1))
