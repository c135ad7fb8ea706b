use Rattle.std.proofs.Common.{◌≡◌, ℕ, Bool, true, false, List, refl, sym, ap, ◌∙◌}
use Rattle.std.specs.Prelude.{if◌then◌else◌}
use Rattle.vt_procs.specs.Callers.{Callers}
use Rattle.vt_procs.specs.Tickets.{after_input_on}
use Rattle.vt_world.proofs.Cores.{filled_kept, lives}
use Rattle.vt_world.proofs.Owners.{same_live}
use Rattle.vt_world.specs.Deeds.{with_input}
use Rattle.vt_world.specs.Inputs.{comes, input_at, with_queued}
use Rattle.vt_world.specs.State.{WorldState}
use Rattle.vt_world.specs.contracts.world.World.{the_view}
use Rattle.vt_world.specs.declared.input.Input.{Input}
use Rattle.vt_world.proofs.world.World.put.Goals as goal

pub invariant_of-self : goal.invariant_of-self
invariant_of-self c =
    same_live (ap lives c.filled.ensures ∙ filled_kept true c.args.c c.self.inside.procs) c.self.invariant

-- the machine after a put, if bytes entered, and if none did
put_is : (w u : WorldState) (n : ℕ) (piece : List ℕ) (inputs : List Input) (callers : Callers) (entered : Bool)
    → w ≡ u → inputs ≡ with_queued n piece w.inputs → entered ≡ comes (input_at w.inputs n).queue piece
    → callers ≡ (if entered then after_input_on n w.callers else w.callers)
    → record w { inputs = inputs; callers = callers } ≡ with_input n piece u
put_is w u n piece inputs callers entered same queued some left =
    (λ i. record w {
      inputs = queued i;
      callers = (left ∙ ap (λ b. if b then after_input_on n w.callers else w.callers) some) i;
    })
    ∙ ap (with_input n piece) same

pub returns-then-put : goal.returns-then-put
returns-then-put c =
    put_is (the_view c.self.inside) c.args.self.now c.args.c c.args.piece.now c.put.new.self c.filled.new.self true
    c.self.view_is c.put.ensures.queues (sym c.if-put.true ∙ c.put.ensures.some) c.filled.ensures

pub returns-else-put : goal.returns-else-put
returns-else-put c =
    put_is (the_view c.self.inside) c.args.self.now c.args.c c.args.piece.now c.put.new.self c.self.inside.procs false
    c.self.view_is c.put.ensures.queues (sym c.if-put.false ∙ c.put.ensures.some) refl
